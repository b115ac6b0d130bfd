-- What the answers say of whole numbers of any size: what is proved of each answer.
use Rattle.std.specs.Prelude.{◌≡◌, ℕ, ◌%◌, ◌^◌, ◌<◌, ◌≤◌, ◌==◌, ◌⊎◌, ◌↔◌, List, [], ◌∷◌, Some, true, false, ℤ}
use Rattle.std.specs.List.{find, list_any}
use Rattle.number_groups.specs.Cases.{Cases, Found, Empty, LimitMultiples, LimitCandidates}
use Rattle.number_groups.specs.Multiples.{is_multiple, lcm_of, IsLcmOf}
use Rattle.number_groups.specs.Group.{Group, is_above, is_below, is_met, is_struck}
use Rattle.number_groups.specs.Outcome.{candidate, is_over}

-- the k-th candidate remains, but it is over 2^127-1 in size
pub record IsTooLarge (m : ℕ) (g : Group) (k : ℕ) : Type 0 where
  pub remains : is_below g.high (candidate m g k) ≡ true
  pub over : is_over (candidate m g k) ≡ true

-- the k-th candidate remains, and it is at most 2^127-1 in size
pub record IsTried (m : ℕ) (g : Group) (k : ℕ) : Type 0 where
  pub remains : is_below g.high (candidate m g k) ≡ true
  pub small : is_over (candidate m g k) ≡ false

-- the k-th candidate is tried, and it is struck
pub record IsStruckAt (m : ℕ) (g : Group) (k : ℕ) : Type 0 where
  pub tried : IsTried m g k
  pub struck : is_struck g (candidate m g k) ≡ true

-- x is a candidate that is tried, and those before it are struck
pub record IsFirst (limit m : ℕ) (g : Group) (x : ℤ) : Type 0 where
  pub count : ℕ
  pub within : count < limit
  pub is : x ≡ candidate m g count
  pub tried : IsTried m g count
  pub before : (j : ℕ) → j < count → IsStruckAt m g j

-- x meets the group; it is the first candidate to do so, or the first value of the first required set
pub record IsFound (limit m : ℕ) (g : Group) (x : ℤ) : Type 0 where
  pub meets : is_met g x ≡ true
  pub first : g.sets ≡ [] → IsFirst limit m g x
  pub listed : (s : List ℤ) (ss : List (List ℤ)) → g.sets ≡ s ∷ ss → find (is_met g) s ≡ Some x

-- what an answer says, where at most so many candidates may be struck and m is the least common multiple
abbrev pub Says : ℕ → ℕ → Group → Cases → Type 0
Says limit m g (Found x) = IsFound limit m g x
Says limit m g Empty = (x : ℤ) → is_met g x ≡ false
Says limit m g LimitMultiples =
    (2 ^ 127 ≤ m) ⊎ ((k : ℕ) × (k ≤ limit) × ((j : ℕ) → j < k → IsStruckAt m g j) × IsTooLarge m g k)
Says limit m g LimitCandidates = ((j : ℕ) → j < limit → IsStruckAt m g j) × IsTried m g limit

-- the candidates are the multiples of m within the bounds
pub record AreCandidates (m : ℕ) (g : Group) : Type 0 where
  pub multiple : (k : ℕ) → is_multiple m (candidate m g k) ≡ true
  pub above : (k : ℕ) → is_above g.low (candidate m g k) ≡ true
  pub all : (x : ℤ) → is_multiple m x ≡ true → is_above g.low x ≡ true → is_below g.high x ≡ true
      → (k : ℕ) × (candidate m g k ≡ x)

-- a divisor that is ruled out divides m exactly where each multiple of m has such a divisor
abbrev pub StrikesAll : ℕ → List ℕ → Type 0
StrikesAll m bs =
    (list_any (λ b. m % b == 0) bs ≡ true)
    ↔ ((x : ℤ) → is_multiple m x ≡ true → list_any (λ b. is_multiple b x) bs ≡ true)

-- what is proved of each answer
pub record IsRight (limit : ℕ) (g : Group) (answer : Cases) : Type 0 where
  -- the definition of the least common multiple, by a search, has the meaning by divisors
  pub common : IsLcmOf g.multiples (lcm_of g.multiples)
  -- a number that is found is the first to meet the group; where there is none to find, no whole number meets it
  pub says : Says limit (lcm_of g.multiples) g answer
  -- no multiple within the bounds is left out
  pub candidates : AreCandidates (lcm_of g.multiples) g
  -- groups without an end are empty where a divisor strikes them all
  pub divisors : StrikesAll (lcm_of g.multiples) g.not_multiples
