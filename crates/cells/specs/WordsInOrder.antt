-- Words in order: by length, and then by the order of their characters.
use Rattle.std.specs.Prelude.{ℕ, zero, suc, List, [], ◌∷◌, ◌++◌, map, flat_map}

-- the words of length n, in the order of their characters
abbrev pub of_length : List ℕ → ℕ → List (List ℕ)
of_length cs zero = [] ∷ []
of_length cs (suc n) = flat_map (λ c. map (λ w. c ∷ w) (of_length cs n)) cs

-- the words shorter than n, by length and then by the order of characters
abbrev pub shorter : List ℕ → ℕ → List (List ℕ)
shorter cs zero = []
shorter cs (suc n) = shorter cs n ++ of_length cs n
