-- Multiples, least common multiples, and the least number that passes a test.
use Rattle.std.specs.Prelude.{◌≡◌, ℕ, zero, suc, ◌*◌, ◌%◌, ◌<◌, ◌==◌, List, [], ◌∷◌, Bool, true, false}
use Rattle.std.specs.List.{list_all}
use Prim.Native.Nat.{◌∣◌}
-- m divides x; every number divides 0
pub use Rattle.documents.specs.Measures.{is_multiple}

-- each of the numbers divides x
abbrev pub is_common : List ℕ → ℕ → Bool
is_common ms x = list_all (λ m. x % m == 0) ms

-- the least k below n that passes the test; n where none does
unfoldable pub least_below : (ℕ → Bool) → ℕ → ℕ
least_below test zero = 0
least_below test (suc n) = elim (test 0) [ true ↦ 0 | false ↦ suc (least_below (λ k. test (suc k)) n) ]

-- the product of all the numbers, 1 without any
abbrev pub product_of : List ℕ → ℕ
product_of [] = 1
product_of (m ∷ ms) = m * product_of ms

-- the least common multiple of positive numbers: the least from 1 to their product that each of them divides
unfoldable pub lcm_of : List ℕ → ℕ
lcm_of ms = suc (least_below (λ k. is_common ms (suc k)) (product_of ms))

-- l is the least common multiple of a and b: a multiple of both that divides each other one
pub record IsLcm (a b l : ℕ) : Type 0 where
  pub first : a ∣ l
  pub second : b ∣ l
  pub least : (x : ℕ) → a ∣ x → b ∣ x → l ∣ x

-- l is the least common multiple of all the numbers
pub record IsLcmOf (ms : List ℕ) (l : ℕ) : Type 0 where
  pub positive : 0 < l
  pub common : is_common ms l ≡ true
  pub least : (x : ℕ) → is_common ms x ≡ true → l ∣ x
