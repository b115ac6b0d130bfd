-- The lines of a report.
use Rattle.std.specs.Prelude.{ℕ, List, [], ◌∷◌, ◌++◌, codes}

abbrev pub line : List ℕ → List ℕ
line words = words ++ 10 ∷ []

-- a refusal of the file with that role
abbrev pub refusal_line : (role words : List ℕ) → List ℕ
refusal_line role words = line (codes "refused " ++ role ++ 32 ∷ words)
