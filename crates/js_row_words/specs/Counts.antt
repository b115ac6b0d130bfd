-- Numbers of the words of one length, of each row, and the words that are found by them.
use Rattle.std.specs.Prelude.{◌≡◌, ℕ, ◌<◌, min, List, [], ◌∷◌, length, get_or, Bool, Option, Some, None, true}
use Rattle.patterns.specs.CharSet.{is_scalar}
use Rattle.word_states.specs.Atom.{Atom}
use Rattle.word_states.specs.Classes.{characters, class_of}
use Rattle.word_states.specs.Rows.{targets_of}
use Rattle.cell_laws.specs.FirstWords.{pick, word_at, count_of}
use Rattle.js_row_words.specs.declared.choose.Choice.{Choice}
use Rattle.js_row_words.specs.declared.runs.Run.{Run}
use Rattle.js_row_words.specs.RowWords.{is_marked}
use Rattle.js_row_words.specs.Runs.{spelled, AreRuns}

-- the row to which a character leads
abbrev pub to_row : List Atom → List (List ℕ) → ℕ → ℕ → ℕ
to_row atoms rows r c = get_or (targets_of atoms rows (get_or rows r [])) (class_of atoms c) 0

-- the number of each row, cut at a bound
pub record AreNumbers (rows bound : ℕ) (number : ℕ → ℕ) (numbers : List ℕ) : Type 0 where
  pub size : length numbers ≡ rows
  pub cut : (r : ℕ) → r < rows → get_or numbers r 0 ≡ min bound (number r)

-- the letter by which word k from a row goes on
abbrev pub Chooses : List Atom → List (List ℕ) → List ℕ → ℕ → ℕ → Option Choice → Type 0
Chooses atoms rows numbers r k None =
    (next : ℕ → ℕ → List ℕ) → pick (λ c. get_or numbers (to_row atoms rows r c) 0) next characters k ≡ []
Chooses atoms rows numbers r k (Some x) =
    ((next : ℕ → ℕ → List ℕ) → pick (λ c. get_or numbers (to_row atoms rows r c) 0) next characters k
    ≡ x.letter ∷ next x.letter x.number)
    × (x.row ≡ to_row atoms rows r x.letter) × (x.row < length rows) × (is_scalar x.letter ≡ true)

-- numbers of each length, of each row
abbrev pub numbers_by : List (List ℕ) → ℕ → ℕ → ℕ
numbers_by table m r = get_or (get_or table m []) r 0

-- how many words of so many letters lead from a row to a row that is marked
abbrev pub words_of_length : List Atom → List (List ℕ) → List Bool → ℕ → ℕ → ℕ
words_of_length atoms rows marks m r =
    count_of characters (to_row atoms rows) (λ r. is_marked atoms rows marks (get_or rows r [])) m r

-- a table has the numbers of words of each length
abbrev pub AreLengths : List Atom → List (List ℕ) → List Bool → ℕ → List (List ℕ) → Type 0
AreLengths atoms rows marks bound table = (m : ℕ) → m < length table
    → AreNumbers (length rows) bound (words_of_length atoms rows marks m) (get_or table m [])

-- word k among those from row 0 that have as many letters as there are lengths
abbrev pub word_by : List Atom → List (List ℕ) → List (List ℕ) → ℕ → List ℕ
word_by atoms rows table k = word_at characters (to_row atoms rows) (numbers_by table) (length table) 0 k

-- runs of all characters, and a number of each row at each length
pub record IsTable (atoms : List Atom) (rows : List (List ℕ)) (runs : List Run) (table : List (List ℕ)) : Type 0 where
  pub whole : spelled runs ≡ characters
  pub classed : AreRuns atoms runs
  pub sizes : (m : ℕ) → m < length table → length (get_or table m []) ≡ length rows
