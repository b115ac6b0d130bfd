-- Ranges of characters stay such when more are added.
use Rattle.std.proofs.Common.{◌≡◌, ℕ, ◌<◌, ◌≤◌, ◌⊎◌, inl, inr, ⊎_elim, Bool, true, false, List, [], ◌∷◌, ◌++◌, if◌then◌else◌, refl, arith}
use Rattle.std.specs.Char.{IsScalar}
use Rattle.std.proofs.Math.Utf8.{scalar_cases}
use Rattle.std.proofs.lemmas.Bool.{and_from}
use Rattle.std.proofs.lemmas.Bool.Decides.{nat_tests}
use Rattle.patterns.specs.CharSet.{is_range}
use Rattle.pattern_laws.specs.Laws.{every_range}
use Rattle.js_pattern.specs.Escapes.{class_set}
use Rattle.js_pattern.specs.declared.escape.ClassEscape.{ClassEscape}
use Rattle.js_pattern.specs.declared.escape.ClassEscape.TheVariants.{Digit, NotDigit, Word, NotWord, Space, NotSpace}
use Rattle.js_pattern.proofs.SetOps.{every_range-append}

pub every_range-push : (rs : List (ℕ × ℕ)) (r : ℕ × ℕ) → every_range rs ≡ true → is_range r ≡ true
    → every_range (rs ++ r ∷ []) ≡ true
every_range-push rs r h k = every_range-append rs (r ∷ []) h (and_from _ _ k refl)

pub is_range-one : (c : ℕ) → IsScalar c → is_range (c, c) ≡ true
is_range-one c h =
    elim (scalar_cases c h) [ inl l ↦ grind (arith, nat_tests) | inr l ↦ grind (arith, nat_tests) ]

pub is_range-low : (c : ℕ) → c < 0xd800 → is_range (c, 0xd7ff) ≡ true
is_range-low c h = grind (arith, nat_tests)

pub is_range-high : (c : ℕ) → IsScalar c → 0xdfff < c → is_range (0xe000, c) ≡ true
is_range-high c h k =
    elim (scalar_cases c h) [ inl l ↦ absurd (omega arith) | inr l ↦ grind (arith, nat_tests) ]

pub is_range-up : (c d : ℕ) → IsScalar c → IsScalar d → c ≤ d → ((c < 0xd800) × (d ≤ 0xdfff)) ⊎ (0xd800 ≤ c)
    → is_range (c, d) ≡ true
is_range-up c d h k l apart =
    elim (scalar_cases d k) [
      | inl x ↦ grind (arith, nat_tests)
      | inr x ↦ elim (scalar_cases c h) [
        | inl y ↦ absurd
            (⊎_elim (λ p. omega (arith, p.1, x)) (λ q. omega (arith, y, q)) apart)
        | inr y ↦ grind
            (arith, nat_tests)
      ]
    ]

pub every_range-class_set : (class : ClassEscape) → every_range (class_set class) ≡ true
every_range-class_set Digit = refl
every_range-class_set NotDigit = refl
every_range-class_set Word = refl
every_range-class_set NotWord = refl
every_range-class_set Space = refl
every_range-class_set NotSpace = refl

-- after a call that may fail
pub every_range-tried : (done : Bool) (rs more : List (ℕ × ℕ)) → every_range rs ≡ true → every_range more ≡ true
    → every_range (if done then rs ++ more else rs) ≡ true
every_range-tried true rs more h k = every_range-append rs more h k
every_range-tried false rs more h k = h
