-- A number group, and what it requires of a whole number of any size.
use Rattle.std.specs.Prelude.{ℕ, ◌^◌, nat_lt, nat_le, List, Bool, true, false, not, ◌&&◌, ◌||◌, Option, Some, None, ℤ, int_le, int_lt, unsigned_abs}
use Rattle.std.specs.List.{list_all, list_any}
use Rattle.documents.specs.Numbers.{has}
use Rattle.number_groups.specs.Multiples.{is_multiple}

-- bounds that count where they are given, divisors and sets that are required, and those that are ruled out
pub record Group : Type 0 where
  pub low : Option ℤ
  pub high : Option ℤ
  pub multiples : List ℕ
  pub not_multiples : List ℕ
  pub sets : List (List ℤ)
  pub not_sets : List (List ℤ)

-- x isn't below the lower bound, where there is one
abbrev pub is_above : Option ℤ → ℤ → Bool
is_above None x = true
is_above (Some low) x = int_le low x

-- x isn't above the upper bound, where there is one
abbrev pub is_below : Option ℤ → ℤ → Bool
is_below None x = true
is_below (Some high) x = int_le x high

-- x is in one of the sets
abbrev pub is_listed : List (List ℤ) → ℤ → Bool
is_listed sets x = list_any (λ s. has s x) sets

-- a divisor that is ruled out divides x, or a set that is ruled out has it
abbrev pub is_struck : Group → ℤ → Bool
is_struck g x = list_any (λ m. is_multiple m x) g.not_multiples || is_listed g.not_sets x

-- x is within the bounds, a multiple of each required divisor, and in each required set
abbrev pub is_asked : Group → ℤ → Bool
is_asked g x =
    is_above g.low x && is_below g.high x
    && list_all (λ m. is_multiple m x) g.multiples && list_all (λ s. has s x) g.sets

-- x meets the group
abbrev pub is_met : Group → ℤ → Bool
is_met g x = is_asked g x && not (is_struck g x)

-- the lower bound is above the upper one
abbrev pub is_crossed : Option ℤ → Option ℤ → Bool
is_crossed (Some low) (Some high) = int_lt high low
is_crossed (Some low) None = false
is_crossed None high = false

-- a bound is at most 2^64 in size
abbrev pub is_near : Option ℤ → Bool
is_near None = true
is_near (Some n) = nat_le (unsigned_abs n) (2 ^ 64)

-- what a caller owes: bounds of size at most 2^64, and divisors above 0
abbrev pub is_ready : Group → Bool
is_ready g =
    is_near g.low && is_near g.high
    && list_all (λ m. nat_lt 0 m) g.multiples && list_all (λ m. nat_lt 0 m) g.not_multiples
