-- The steps that first name rows.
use Rattle.std.specs.Prelude.{◌≡◌, ℕ, ◌<◌, List, [], ◌∷◌, ◌++◌, length, get_or}
use Rattle.word_states.specs.Atom.{Atom}
use Rattle.word_states.specs.Classes.{class_firsts, class_count}
use Rattle.js_row_words.specs.declared.row_steps.Step.{Step}

abbrev pub no_step : Step
no_step = record { row = 0; class = 0 }

-- the word of row i is that of the step's row, with the first character of the step's class
pub record IsStep (atoms : List Atom) (L : List (List ℕ)) (i : ℕ) (s : Step) : Type 0 where
  pub row : s.row < length L
  pub class : s.class < class_count atoms
  pub word : get_or L i [] ≡ get_or L s.row [] ++ get_or (class_firsts atoms) s.class 0 ∷ []

-- of each of the first n rows but row 0
abbrev pub AreSteps : List Atom → List (List ℕ) → List Step → ℕ → Type 0
AreSteps atoms L steps n = (i : ℕ) → 0 < i → i < n → IsStep atoms L i (get_or steps i no_step)
