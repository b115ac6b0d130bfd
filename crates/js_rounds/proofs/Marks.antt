-- Marks of the goals that runs have.
use Rattle.std.proofs.Common.{◌≡◌, ◌≢◌, ◌<◌, ◌≤◌, ◌⊎◌, inl, inr, ℕ, zero, suc, ◌+◌, List, Bool, true, false, ◌&&◌, ◌||◌, nat_eq, nat_lt, length, drop, get_or, set, get_or-set_same, get_or-set_other, refl, ap, sym, ◌∙◌, subst, arith}
use Rattle.std.proofs.lemmas.Bool.{lt-ltb}
use Rattle.std.proofs.lemmas.Bool.Decides.{eqb_tells}
use Rattle.std.proofs.lemmas.List.{drop_all}
use Rattle.documents.specs.Tests.{some}
use Rattle.alternatives.specs.Alternative.{Slot}
use Rattle.alternatives.specs.Slots.{next_slot}
use Rattle.search.specs.Uses.{repeated}
use Rattle.js_expansion.specs.View.{slot_view}
use Rattle.js_rounds.specs.Spread.{spread}
use Rattle.js_rounds.specs.declared.runs.Run.{Run}
use Rattle.js_rounds.proofs.SpreadLemmas.{next_left}
use Rattle.std.proofs.Math.Bool.{or-false, or-true, or_assoc, and-false}
use Rattle.list_laws.proofs.Elements.{some-append}

or_same : (a : Bool) → (a || a) ≡ a
or_same true = refl
or_same false = refl

some_repeated : (s : Slot) (n g m : ℕ)
    → some (λ p. nat_eq p.goal m) (repeated s n g) ≡ (nat_lt 0 n && nat_eq g m)
some_repeated s zero g m = refl
some_repeated s (suc n) g m =
    ap (λ b. nat_eq g m || b) (some_repeated (next_slot s) n g m) ∙ go (nat_lt 0 n) (nat_eq g m)
    ∙ sym (ap (λ b. b && nat_eq g m) (lt-ltb 0 (suc n) (omega arith)))
  where
    go : (a b : Bool) → (b || (a && b)) ≡ b
    go true b = or_same b
    go false true = refl
    go false false = refl

-- the run has its goal
pub run_marked : (marks : List Bool) (s : Slot) (n g m : ℕ) → 0 < n → g < length marks → m < length marks
    → get_or (set marks g true) m false
    ≡ (get_or marks m false || some (λ p. nat_eq p.goal m) (repeated s n g))
run_marked marks s n g m l k j = go (eqb_tells g m) where
  some_is : some (λ p. nat_eq p.goal m) (repeated s n g) ≡ nat_eq g m
  some_is = some_repeated s n g m ∙ ap (λ b. b && nat_eq g m) (lt-ltb 0 n l)

  go : ((nat_eq g m ≡ true) × (g ≡ m)) ⊎ ((nat_eq g m ≡ false) × (g ≢ m))
      → get_or (set marks g true) m false
      ≡ (get_or marks m false || some (λ p. nat_eq p.goal m) (repeated s n g))
  go (inl (e, same)) =
      subst (λ z. get_or (set marks g true) z false ≡ true) same (get_or-set_same marks g true false k)
      ∙ sym (ap (λ b. get_or marks m false || b) (some_is ∙ e) ∙ or-true (get_or marks m false))
  go (inr (e, other)) =
      get_or-set_other marks g m true false (λ q. other (sym q))
      ∙ sym (ap (λ b. get_or marks m false || b) (some_is ∙ e) ∙ or-false (get_or marks m false))

-- a run without documents, or of a goal past the marks, changes no mark
pub run_unmarked : (marks : List Bool) (s : Slot) (n g m : ℕ) → (n ≡ 0) ⊎ (length marks ≤ g) → m < length marks
    → get_or marks m false ≡ (get_or marks m false || some (λ p. nat_eq p.goal m) (repeated s n g))
run_unmarked marks s n g m o j =
    sym (ap (λ b. get_or marks m false || b) (some_repeated s n g m ∙ go o) ∙ or-false (get_or marks m false)) where
      apart : (length marks ≤ g) → ((nat_eq g m ≡ true) × (g ≡ m)) ⊎ ((nat_eq g m ≡ false) × (g ≢ m))
          → nat_eq g m ≡ false
      apart l (inl (e, same)) = absurd (omega (arith, l, j, same))
      apart l (inr (e, other)) = e

      go : (n ≡ 0) ⊎ (length marks ≤ g) → (nat_lt 0 n && nat_eq g m) ≡ false
      go (inl e) = ap (λ z. nat_lt 0 z && nat_eq g m) e
      go (inr l) = ap (λ b. nat_lt 0 n && b) (apart l (eqb_tells g m)) ∙ and-false (nat_lt 0 n)

-- one run after another
pub runs_turn : (runs : List Run) (i : ℕ) (d : Run) (m : ℕ) (now next all : Bool) → i < length runs
    → (let r = get_or runs i d in
    next ≡ (now || some (λ p. nat_eq p.goal m) (repeated (slot_view r.slot) r.count r.goal)))
    → (now || some (λ p. nat_eq p.goal m) (spread (drop i runs))) ≡ all
    → (next || some (λ p. nat_eq p.goal m) (spread (drop (i + 1) runs))) ≡ all
runs_turn runs i d m now next all l e h =
    let r = get_or runs i d in
    let rest = spread (drop (i + 1) runs) in
    ap (λ b. b || some (λ p. nat_eq p.goal m) rest) e
    ∙ or_assoc now (some (λ p. nat_eq p.goal m) (repeated (slot_view r.slot) r.count r.goal))
    (some (λ p. nat_eq p.goal m) rest)
    ∙ ap (λ b. now || b)
    (sym (some-append (λ p. nat_eq p.goal m) (repeated (slot_view r.slot) r.count r.goal) rest)
    ∙ ap (λ z. some (λ p. nat_eq p.goal m) (spread z)) (sym (next_left runs i d l)))
    ∙ h

pub runs_end : (runs : List Run) (i : ℕ) (m : ℕ) (now all : Bool) → length runs ≤ i
    → (now || some (λ p. nat_eq p.goal m) (spread (drop i runs))) ≡ all → now ≡ all
runs_end runs i m now all l h =
    sym (ap (λ z. now || some (λ p. nat_eq p.goal m) (spread z)) (drop_all i runs l) ∙ or-false now) ∙ h
