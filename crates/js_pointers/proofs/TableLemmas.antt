-- Pointers by number: each lies after those that lead to it. A step down finds the one that goes on, if it is there.
use Rattle.std.proofs.Common.{◌≡◌, ℕ, zero, suc, ◌+◌, ◌<◌, List, [], ◌∷◌, ◌++◌, map, length, get_or, not, cond, ◌&&◌, nat_lt, nat_eq, Some, None, position, chars, string_bytes, bytes_eq, IsUtf8, refl, sym, ap, ap₂, ◌∙◌, add-one, arith}
use Rattle.std.specs.Prelude.{String}
use Rattle.std.specs.List.{position_or_len}
use Rattle.std.proofs.lemmas.Bool.{false≢true}
use Rattle.std.proofs.lemmas.List.Quantifiers.{position-Some}
use Rattle.std.proofs.lemmas.List.{append_assoc, append-nil}
use Rattle.std.proofs.lemmas.Str.{IsUtf8-string_bytes}
use Rattle.documents.specs.Tests.{same_word}
use Rattle.js_doc.proofs.Lookups.{same_word-named}
use Rattle.schemas.specs.Places.{Pointer}
use Rattle.js_pointers.specs.Table.{IsTable, IsWord, AreNames, word}
use Rattle.js_pointers.proofs.PositionLemmas.{position-None}
use Rattle.js_pointers.proofs.SameStepLemmas.{same_step-true, same_step-refl}
use Rattle.js_pointers.proofs.WordLemmas.{same_number, name_word}
use Rattle.list_laws.proofs.Tests.{same_word-refl, same_word-true}

-- Words.

abbrev pub text : {Z : Type 0} → String Z → List ℕ
text t = chars (string_bytes t)

pub position-words : {Z : Type 0} (bytes : List ℕ) → IsUtf8 bytes → (ts : List (String Z))
    → position (λ k. bytes_eq bytes (string_bytes k)) ts ≡ position (λ w. same_word w (chars bytes)) (map text ts)
position-words {Z} bytes u ts = ap₂ (λ n m. cond (nat_lt n m) (Some n) None) (go ts) (lengths ts)
  where
    lengths : (ts : List (String Z)) → length ts ≡ length (map text ts)
    lengths [] = refl
    lengths (t ∷ ts) = ap suc (lengths ts)

    go : (ts : List (String Z)) → position_or_len (λ k. bytes_eq bytes (string_bytes k)) ts
        ≡ position_or_len (λ w. same_word w (chars bytes)) (map text ts)
    go [] = refl
    go (t ∷ ts) =
        ap₂ (λ b n. cond (not b) (1 + n) 0)
        (sym (same_word-named (string_bytes t) bytes (chars bytes) _ (IsUtf8-string_bytes t) u refl refl))
        (go ts)

pub unnamed : (names : List (List ℕ)) (t : List ℕ) → position (λ w. same_word w t) names ≡ None
    → (i : ℕ) → i < length names → get_or names i [] ≡ t → ⊥
unnamed names t missing i less is =
    false≢true (sym (position-None (λ w. same_word w t) names i [] missing less)
    ∙ ap (λ w. same_word w t) is ∙ same_word-refl t)

pub named : (names : List (List ℕ)) (t : List ℕ) (i : ℕ) → position (λ w. same_word w t) names ≡ Some i
    → IsWord names (2147483648 + i) t
named names t i found =
    let at = position-Some (λ w. same_word w t) names i [] found in
    name_word names t i at.0 (same_word-true _ t at.1)

-- Tables.

snoc-not-nil : {A : Type 0} (xs : List A) (x : A) → [] ≡ xs ++ x ∷ [] → ⊥
snoc-not-nil [] x h = absurd (cc)
snoc-not-nil (y ∷ xs) x h = absurd (cc)

snoc-same : {A : Type 0} (xs ys : List A) (x y : A) → xs ++ x ∷ [] ≡ ys ++ y ∷ [] → (xs ≡ ys) × (x ≡ y)
snoc-same [] [] x y h = (refl, cc)
snoc-same [] (z ∷ ys) x y h = absurd (snoc-not-nil ys y (cc))
snoc-same (z ∷ xs) [] x y h = absurd (snoc-not-nil xs x (cc))
snoc-same (z ∷ xs) (w ∷ ys) x y h =
    let rest = snoc-same xs ys x y (cc) in
    let first : z ≡ w = cc in
    (ap₂ (λ a rs. a ∷ rs) first rest.0, rest.1)

module _ (names : List (List ℕ)) (steps : List (ℕ × ℕ)) (ps : List Pointer) (table : IsTable names steps ps) where
  -- a pointer that isn't the root was made by a step
  by_step : (m : ℕ) (p : Pointer) (t : List ℕ) → m < length ps → get_or ps m [] ≡ p ++ t ∷ []
      → (i : ℕ) × (m ≡ suc i) × (i < length steps) × (get_or ps (get_or steps i (0, 0)).0 [] ≡ p)
      × (word names (get_or steps i (0, 0)).1 ≡ t)
  by_step zero p t less h = absurd (snoc-not-nil p t (sym table.root ∙ h))
  by_step (suc i) p t less h =
      let counted = table.counted in
      let within : i < length steps = omega (arith, less, counted) in
      let step = table.made i within in
      let same = snoc-same _ _ _ _ (sym step.makes ∙ h) in
      (i, refl, within, same.0, same.1)

  -- what leads to a pointer is there
  closed : (q p : Pointer) (m : ℕ) → m < length ps → get_or ps m [] ≡ p ++ q
      → (k : ℕ) × (k < length ps) × (get_or ps k [] ≡ p)
  closed [] p m less h = (m, less, h ∙ append-nil p)
  closed (t ∷ q) p m less h =
      let longer = closed q (p ++ t ∷ []) m less (h ∙ sym (append_assoc p (t ∷ []) q)) in
      let step = by_step longer.0 p t longer.1 longer.2 in
      let counted = table.counted in
      let l = step.2 in
      let e = (table.made step.0 l).earlier in
      (_, omega (arith, counted, l, e), step.3)

  made-word : (n i : ℕ) (p : Pointer) (t : List ℕ) → get_or ps n [] ≡ p → i < length steps
      → (get_or steps i (0, 0)).0 ≡ n → word names (get_or steps i (0, 0)).1 ≡ t
      → (i + 1 < length ps) × (get_or ps (i + 1) [] ≡ p ++ t ∷ [])
  made-word n i p t is within of_is text_is =
      let counted = table.counted in (
        omega (arith, counted, within),
        ap (λ j. get_or ps j []) (add-one i) ∙ (table.made i within).makes
            ∙ ap₂ (λ a b. a ++ b ∷ []) (ap (λ j. get_or ps j []) of_is ∙ is) text_is,
      )

  -- where the step from a pointer by a word is found, its pointer is that one with the word behind it
  pub below-found : (n k i : ℕ) (p : Pointer) (t : List ℕ) → get_or ps n [] ≡ p → word names k ≡ t
      → position (λ s. nat_eq n s.0 && nat_eq k s.1) steps ≡ Some i
      → (i + 1 < length ps) × (get_or ps (i + 1) [] ≡ p ++ t ∷ [])
  below-found n k i p t is known made =
      let found = position-Some (λ s. nat_eq n s.0 && nat_eq k s.1) steps i (0, 0) made in
      let same = same_step-true (n, k) (get_or steps i (0, 0)) found.1 in
      made-word n i p t is found.0 (ap (λ s. s.0) (sym same)) (ap (λ s. word names s.1) (sym same) ∙ known)

  -- what goes on from a pointer does so by a step, and by a word
  goes_on : (n : ℕ) (p : Pointer) (t : List ℕ) (m : ℕ) (q : Pointer) → n < length ps → get_or ps n [] ≡ p
      → m < length ps → get_or ps m [] ≡ (p ++ t ∷ []) ++ q
      → (i : ℕ) × (i < length steps) × (n ≡ (get_or steps i (0, 0)).0) × (word names (get_or steps i (0, 0)).1 ≡ t)
  goes_on n p t m q less is within h =
      let longer = closed q (p ++ t ∷ []) m within h in
      let step = by_step longer.0 p t longer.1 longer.2 in
      let counted = table.counted in
      let l = step.2 in
      let e = (table.made step.0 l).earlier in
      (step.0, l, table.distinct n _ less (omega (arith, counted, l, e)) (is ∙ sym step.3), step.4)

  pub below-unknown : (n : ℕ) (p : Pointer) (t : List ℕ) → n < length ps → get_or ps n [] ≡ p
      → ((k : ℕ) → IsWord names k t → ⊥)
      → (m : ℕ) (q : Pointer) → m < length ps → get_or ps m [] ≡ (p ++ t ∷ []) ++ q → ⊥
  below-unknown n p t less is unknown m q within h =
      let on = goes_on n p t m q less is within h in
      unknown (get_or steps on.0 (0, 0)).1 ((table.made on.0 on.1).known, on.3)

  -- where the step from a pointer by a word isn't there, no pointer of the table leads through it
  pub below-missing : AreNames names → (n k : ℕ) (p : Pointer) (t : List ℕ) → n < length ps → get_or ps n [] ≡ p
      → IsWord names k t → position (λ s. nat_eq n s.0 && nat_eq k s.1) steps ≡ None
      → (m : ℕ) (q : Pointer) → m < length ps → get_or ps m [] ≡ (p ++ t ∷ []) ++ q → ⊥
  below-missing are n k p t less is known missing m q within h =
      let on = goes_on n p t m q less is within h in
      let s = get_or steps on.0 (0, 0) in
      let same = same_number names are k s.1 known.0 (table.made on.0 on.1).known (known.1 ∙ sym on.3) in
      let no = position-None (λ s. nat_eq n s.0 && nat_eq k s.1) steps on.0 (0, 0) missing on.1 in
      false≢true (sym no ∙ ap₂ (λ a b. nat_eq n a && nat_eq k b) (sym on.2) (sym same) ∙ same_step-refl (n, k))
