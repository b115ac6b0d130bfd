-- What is kept while the classes of characters are found, the one with the first character first.
use Rattle.std.specs.Prelude.{◌≡◌, ℕ, List, ◌&&◌}
use Rattle.patterns.specs.CharSet.{has, is_scalar}
use Rattle.word_states.specs.Classes.{are_alike}

-- the set has the characters that no divider distinguishes from this one
abbrev pub IsClass : List (List (ℕ × ℕ)) → List (ℕ × ℕ) → ℕ → Type 0
IsClass sets set first = (d : ℕ) → has set d ≡ (is_scalar d && are_alike sets first d)
