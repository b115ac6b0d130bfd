-- Rows from which words lead to marked rows, as flags and as a list.
use Rattle.std.specs.Prelude.{◌≡◌, ℕ, ◌<◌, ◌≤◌, List, Bool, true, false, get_or, length}
use Rattle.std.specs.List.{count_by}
use Rattle.word_states.specs.Atom.{Atom}
use Rattle.word_states.specs.Classes.{class_count}
use Rattle.cell_laws.proofs.Rows.{target_in}
use Rattle.js_row_words.specs.Labels.{in_marks, LeadsToMark}

-- the row is in the list
abbrev pub IsListed : List ℕ → ℕ → Type 0
IsListed list r = (i : ℕ) × (i < length list) × (get_or list i 0 ≡ r)

-- the list has those that are seen, each once
pub record AreListed (seen : List Bool) (list : List ℕ) : Type 0 where
  pub count : length list ≡ count_by (λ b. b) seen
  pub listed : (r : ℕ) → get_or seen r false ≡ true → IsListed list r
  pub members : (i : ℕ) → i < length list → get_or seen (get_or list i 0) false ≡ true

-- the list is at the beginning of the later one
abbrev pub GoesOn : List ℕ → List ℕ → Type 0
GoesOn old new =
    (length old ≤ length new) × ((i : ℕ) → i < length old → get_or new i 0 ≡ get_or old i 0)

-- some word leads to a marked row from each that is seen
abbrev pub AllLead : List Atom → List (List ℕ) → List Bool → List Bool → Type 0
AllLead atoms L marks seen = (r : ℕ) → get_or seen r false ≡ true → LeadsToMark atoms L marks r

-- all from which words lead to marked rows
pub record AreReached (atoms : List Atom) (L : List (List ℕ)) (marks seen : List Bool) (list : List ℕ) : Type 0 where
  pub size : length seen ≡ length L
  pub listed : AreListed seen list
  pub leads : AllLead atoms L marks seen
  pub marked : (r : ℕ) → r < length L → in_marks atoms L marks r ≡ true → get_or seen r false ≡ true
  pub closed : (r k : ℕ) → r < length L → k < class_count atoms → get_or seen (target_in atoms L r k) false ≡ true
      → get_or seen r false ≡ true
