-- Elements and members of runs.
use Rattle.std.proofs.Common.{◌≡◌, ℕ, zero, suc, ◌+◌, ◌≤◌, ◌<◌, List, [], ◌∷◌, ◌++◌, map, length, get_or, Result, Ok, Err, IfOk, refl, ap, ap₂, sym, ◌∙◌, arith, add-zero, add-one}
use Rattle.std.proofs.lemmas.List.{append_assoc, map-append}
use Rattle.std.specs.Prelude.{chars}
use Rattle.std.proofs.lemmas.Str.{chars-nil}
use Rattle.alternatives.specs.Alternative.{Slot, Index, Name}
use Rattle.alternatives.specs.Slots.{next_slot}
use Rattle.search.specs.Rounds.{NumberedPlaced}
use Rattle.search.specs.Uses.{repeated}
use Rattle.js_rounds.specs.Slots.{slot_after}
use Rattle.list_laws.proofs.Numbers.{suc_add-add_suc}

after_next : (s : Slot) (n : ℕ) → slot_after (next_slot s) n ≡ slot_after s (suc n)
after_next (Index i) n = ap Index (suc_add-add_suc i n)
after_next (Name c k) n = ap (Name c) (suc_add-add_suc k n)

after_none : (s : Slot) → slot_after s 0 ≡ s
after_none (Index i) = ap Index (add-zero i)
after_none (Name c k) = ap (Name c) (add-zero k)

abbrev placed : Slot → ℕ → NumberedPlaced
placed s g = record { slot = s; goal = g }

-- a run with one more document
pub repeated_more : (s : Slot) (n g : ℕ)
    → repeated s (n + 1) g ≡ repeated s n g ++ record { slot = slot_after s n; goal = g } ∷ []
repeated_more s n g = ap (λ z. repeated s z g) (add-one n) ∙ go s n where
  go : (s : Slot) (n : ℕ) → repeated s (suc n) g ≡ repeated s n g ++ record { slot = slot_after s n; goal = g } ∷ []
  go s zero = ap (λ z. placed z g ∷ []) (sym (after_none s))
  go s (suc n) =
      ap (λ l. placed s g ∷ l)
      (go (next_slot s) n ∙ ap (λ z. repeated (next_slot s) n g ++ placed z g ∷ []) (after_next s n))

-- one more element or member
pub repeated_turn : {A : Type 0} (h : NumberedPlaced → A) (s : Slot) (n g : ℕ) (now first next : List A) (x : A)
    → now ≡ first ++ map h (repeated s n g) → next ≡ now ++ x ∷ []
    → x ≡ h (record { slot = slot_after s n; goal = g }) → next ≡ first ++ map h (repeated s (n + 1) g)
repeated_turn h s n g now first next x e k q =
    k ∙ ap₂ (λ a b. a ++ b ∷ []) e q
    ∙ append_assoc first (map h (repeated s n g)) (h (placed (slot_after s n) g) ∷ [])
    ∙ ap (λ l. first ++ l)
    (sym (map-append h (repeated s n g) (placed (slot_after s n) g ∷ [])) ∙ ap (map h) (sym (repeated_more s n g)))

-- an index has the empty name

if_ok : {A E : Type 0} {P Q : A → Type 0} (r : Result A E) → ((x : A) → P x → Q x) → IfOk r P → IfOk r Q
if_ok (Ok x) f h = f x h
if_ok (Err e) f h = tt

pub empty_name : {E : Type 0} (r : Result (List ℕ) E) (w : List ℕ) → w ≡ [] → IfOk r (λ s. s ≡ chars [])
    → IfOk r (λ s. s ≡ w)
empty_name r w e h = if_ok r (λ s k. k ∙ chars-nil ∙ sym e) h

pub none_there : {A : Type 0} (xs : List A) (i : ℕ) (d : A) → length xs ≤ i → get_or xs i d ≡ d
none_there [] i d e = refl
none_there (x ∷ xs) zero d e = absurd (omega (arith, e))
none_there (x ∷ xs) (suc i) d e = none_there xs i d (omega (arith, e))
