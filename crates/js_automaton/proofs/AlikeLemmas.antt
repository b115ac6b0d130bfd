-- Which characters sets distinguish.
use Rattle.std.proofs.Common.{◌≡◌, ℕ, zero, suc, ◌-◌, ◌<◌, ◌≤◌, Bool, true, false, ◌&&◌, ◌||◌, not, nat_eq, if◌then◌else◌, List, [], ◌∷◌, ◌++◌, map, flat_map, Option, refl, sym, ◌∙◌, ap, arith, append-nil, length, take, drop}
use Rattle.std.proofs.lemmas.List.Folds.{list_any-append}
use Rattle.std.proofs.lemmas.List.{length-drop, take_all, take-append-drop}
use Rattle.std.specs.Bool.{beq}
use Rattle.std.specs.List.{list_any}
use Rattle.std.proofs.lemmas.Bool.Decides.{nat_tests}
use Rattle.std.proofs.lemmas.Bool.{eqb-true}
use Rattle.patterns.specs.CharSet.{has}
use Rattle.word_states.specs.Position.{times, copies}
use Rattle.word_states.specs.Classes.{are_alike}
use Rattle.js_automaton.specs.Letters.{is_letter}
use Rattle.std.proofs.Math.Bool.{and_assoc}

pub alike-append : (s t : List (List (ℕ × ℕ))) (c d : ℕ) → are_alike (s ++ t) c d ≡ (are_alike s c d && are_alike t c d)
alike-append [] t c d = refl
alike-append (x ∷ s) t c d =
    ap (λ y. beq (has x c) (has x d) && y) (alike-append s t c d)
    ∙ sym (and_assoc (beq (has x c) (has x d)) (are_alike s c d) (are_alike t c d))

-- copies distinguish no more than one of them
pub alike-times : (n : ℕ) (s : List (List (ℕ × ℕ))) (c d : ℕ) → are_alike (times (suc n) s) c d ≡ are_alike s c d
alike-times zero s c d = ap (λ z. are_alike z c d) (append-nil s)
alike-times (suc n) s c d =
    alike-append s (times (suc n) s) c d ∙ ap (λ y. are_alike s c d && y) (alike-times n s c d)
    ∙ own (are_alike s c d) where
      own : (a : Bool) → (a && a) ≡ a
      own true = refl
      own false = refl

pub alike-copies : (low : ℕ) (high : Option ℕ) (s : List (List (ℕ × ℕ))) (c d : ℕ) → 0 < copies low high
    → are_alike (times (copies low high) s) c d ≡ are_alike s c d
alike-copies low high s c d h = go (copies low high) h where
  go : (n : ℕ) → 0 < n → are_alike (times n s) c d ≡ are_alike s c d
  go zero h = absurd (omega (arith, h))
  go (suc n) h = alike-times n s c d

-- ---- letters
abbrev singles : List ℕ → List (List (ℕ × ℕ))
singles = map (λ c. (c, c) ∷ [])

single : (e c : ℕ) → has ((e, e) ∷ []) c ≡ nat_eq c e
single e c = grind (arith, nat_tests)

letter_step : (ce de cd p q : Bool) → (ce ≡ true → de ≡ cd) → (cd ≡ true → ce ≡ de) → (cd ≡ true → p ≡ q)
    → (beq ce de && (if p then cd else not q)) ≡ (if ce || p then cd else not (de || q))
letter_step true true true p q f g h = by p q (h refl) where
  by : (p q : Bool) → p ≡ q → (if p then true else not q) ≡ true
  by true q e = refl
  by false true e = absurd (cc e)
  by false false e = refl
letter_step true true false p q f g h = absurd (cc (f refl))
letter_step true false true p q f g h = absurd (cc (f refl))
letter_step true false false p q f g h = refl
letter_step false true true true q f g h = absurd (cc (g refl))
letter_step false true true false q f g h = absurd (cc (g refl))
letter_step false true false true q f g h = refl
letter_step false true false false q f g h = refl
letter_step false false cd true q f g h = refl
letter_step false false cd false q f g h = refl

same_number : (c d : ℕ) (P : ℕ → Bool) → nat_eq c d ≡ true → P c ≡ P d
same_number c d P e = ap P (eqb-true c d e)

letters_one : (ls : List ℕ) (c d : ℕ)
    → are_alike (singles ls) c d ≡ (if list_any (nat_eq c) ls then nat_eq c d else not (list_any (nat_eq d) ls))
letters_one [] c d = refl
letters_one (e ∷ ls) c d =
    ap (λ x. beq x (has ((e, e) ∷ []) d) && are_alike (singles ls) c d) (single e c)
    ∙ ap (λ x. beq (nat_eq c e) x && are_alike (singles ls) c d) (single e d)
    ∙ ap (λ x. beq (nat_eq c e) (nat_eq d e) && x) (letters_one ls c d)
    ∙ letter_step (nat_eq c e) (nat_eq d e) (nat_eq c d) (list_any (nat_eq c) ls) (list_any (nat_eq d) ls)
    (λ h. turned c d e (eqb-true c e h)) (λ h. same_number c d (λ x. nat_eq x e) h)
    (λ h. same_number c d (λ x. list_any (nat_eq x) ls) h) where
      turned : (c d e : ℕ) → c ≡ e → nat_eq d e ≡ nat_eq c d
      turned c d e q = grind (arith, nat_tests)

joined : (p q r s cd : Bool) → (cd ≡ true → p ≡ r) → (cd ≡ true → q ≡ s)
    → ((if p then cd else not r) && (if q then cd else not s)) ≡ (if p || q then cd else not (r || s))
joined p q r s true f g = by p q r s (f refl) (g refl) where
  by : (p q r s : Bool) → p ≡ r → q ≡ s
      → ((if p then true else not r) && (if q then true else not s)) ≡ (if p || q then true else not (r || s))
  by true true r s e f = refl
  by true false r true e f = absurd (cc f)
  by true false r false e f = refl
  by false q true s e f = absurd (cc e)
  by false true false s e f = refl
  by false false false s e f = refl
joined true true r s false f g = refl
joined true false r s false f g = refl
joined false true true s false f g = refl
joined false true false s false f g = refl
joined false false true s false f g = refl
joined false false false s false f g = refl

pub alike-letters : (ws : List (List ℕ)) (c d : ℕ)
    → are_alike (flat_map (map (λ c. (c, c) ∷ [])) ws) c d
    ≡ (if is_letter ws c then nat_eq c d else not (is_letter ws d))
alike-letters [] c d = refl
alike-letters (w ∷ ws) c d =
    alike-append (singles w) (flat_map singles ws) c d
    ∙ ap (λ x. x && are_alike (flat_map singles ws) c d) (letters_one w c d)
    ∙ ap (λ x. (if list_any (nat_eq c) w then nat_eq c d else not (list_any (nat_eq d) w)) && x) (alike-letters ws c d)
    ∙ joined (list_any (nat_eq c) w) (is_letter ws c) (list_any (nat_eq d) w) (is_letter ws d) (nat_eq c d)
    (λ h. same_number c d (λ x. list_any (nat_eq x) w) h) (λ h. same_number c d (is_letter ws) h)

-- ---- halves
pub halves : {X : Type 0} (test : X → Bool) (k : ℕ) (xs : List X)
    → (list_any test (take k xs) || list_any test (take (length xs - k) (drop k xs))) ≡ list_any test xs
halves test k xs =
    ap (λ ys. list_any test (take k xs) || list_any test ys) (take_all (length xs - k) (drop k xs) (within k xs))
    ∙ sym (list_any-append test (take k xs) (drop k xs)) ∙ ap (list_any test) (take-append-drop k xs) where
      within : {X : Type 0} (k : ℕ) (xs : List X) → length (drop k xs) ≤ length xs - k
      within k xs = omega (arith, length-drop k xs)
