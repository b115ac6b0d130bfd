-- Where each of the steps is found, by its two numbers.
use Rattle.std.specs.Prelude.{◌≡◌, ℕ, ◌<◌, List, length, get_or, Bool, ◌&&◌, nat_eq, Option, Some}
use Rattle.std.specs.Ordering.{nat_cmp, ordering_then}
use Rattle.std.specs.declared.cmp.Ordering.{Ordering}

abbrev pub same_step : ℕ × ℕ → ℕ × ℕ → Bool
same_step a b = nat_eq a.0 b.0 && nat_eq a.1 b.1

-- by the first numbers, and by the second where those are equal
abbrev pub step_order : ℕ × ℕ → ℕ × ℕ → Ordering
step_order a b = ordering_then (nat_cmp a.0 b.0) (nat_cmp a.1 b.1)

-- what is found is there, and each step is found where it is. So no step is there twice
pub record IsNumbered (steps : List (ℕ × ℕ)) (found : ℕ → ℕ → Option ℕ) : Type 0 where
  pub sound : (of token i : ℕ) → found of token ≡ Some i
      → (i < length steps) × (get_or steps i (0, 0) ≡ (of, token))
  pub complete : (i : ℕ) → i < length steps
      → found (get_or steps i (0, 0)).0 (get_or steps i (0, 0)).1 ≡ Some i
