-- Labels of rows: how many words lead from each to marked rows, at least.
use Rattle.std.specs.Prelude.{◌≡◌, ℕ, ◌<◌, ◌≤◌, List, [], Bool, true, false, get_or, length}
use Rattle.std.specs.Coded.{Coded-set, coded_ℕ}
use Rattle.word_states.specs.Atom.{Atom}
use Rattle.word_states.specs.Classes.{characters, class_of, class_count}
use Rattle.cell_laws.specs.Leading.{Leads, HasWords}
use Rattle.cell_laws.specs.Counting.{asked_by}
use Rattle.cell_laws.proofs.Groups.{width}
use Rattle.cell_laws.proofs.Rows.{target_in}
use Rattle.js_row_words.specs.RowWords.{is_marked}

-- the number of characters of a class
abbrev pub width_of : List Atom → ℕ → ℕ
width_of atoms k = width (class_of atoms) characters k

abbrev pub AreWidths : List Atom → List ℕ → Type 0
AreWidths atoms widths =
    (length widths ≡ class_count atoms)
    × ((k : ℕ) → k < class_count atoms → get_or widths k 0 ≡ width_of atoms k)

pub AreWidths-prop : (atoms : List Atom) (widths : List ℕ) → IsProp (AreWidths atoms widths)
AreWidths-prop atoms widths x y =
    λ i. (Coded-set coded_ℕ _ _ x.0 y.0 i, λ k l. Coded-set coded_ℕ _ _ (x.1 k l) (y.1 k l) i)

-- the row to which a row leads by a character
abbrev pub next_row : List Atom → List (List ℕ) → ℕ → ℕ → ℕ
next_row atoms L r c = target_in atoms L r (class_of atoms c)

abbrev pub in_marks : List Atom → List (List ℕ) → List Bool → ℕ → Bool
in_marks atoms L marks r = is_marked atoms L marks (get_or L r [])

abbrev pub label_of : List ℕ → ℕ → ℕ
label_of labels r = get_or labels r 0

-- what a row's targets and its mark require of its label
abbrev pub asked_of : List Atom → List (List ℕ) → List Bool → List ℕ → ℕ → ℕ
asked_of atoms L marks labels r =
    asked_by (class_count atoms) (width_of atoms) (target_in atoms L) (in_marks atoms L marks) (label_of labels) r

-- no label is above the cut
abbrev pub AreCut : List ℕ → Type 0
AreCut labels = (r : ℕ) → get_or labels r 0 ≤ 65537

-- a label below the cut is no less than what is required of it
abbrev pub IsSettled : List Atom → List (List ℕ) → List Bool → List ℕ → ℕ → Type 0
IsSettled atoms L marks labels r = label_of labels r < 65537 → asked_of atoms L marks labels r ≤ label_of labels r

-- from each row as many words lead to marked rows as its label says
abbrev pub HaveWords : List Atom → List (List ℕ) → List Bool → List ℕ → Type 0
HaveWords atoms L marks labels =
    (r : ℕ) → HasWords characters (next_row atoms L) (in_marks atoms L marks) r (label_of labels r)

-- some word leads from the row to a marked row
abbrev pub LeadsToMark : List Atom → List (List ℕ) → List Bool → ℕ → Type 0
LeadsToMark atoms L marks r =
    (w : List ℕ) × Leads characters (next_row atoms L) (in_marks atoms L marks) r w

-- some class leads from the row to a row of these
abbrev pub HasNext : List Atom → List (List ℕ) → List Bool → ℕ → Type 0
HasNext atoms L loops r =
    (k : ℕ) × (k < class_count atoms) × (get_or loops (target_in atoms L r k) false ≡ true)

-- all of the second are of the first
abbrev pub IsPart : List Bool → List Bool → Type 0
IsPart old new = (r : ℕ) → get_or new r false ≡ true → get_or old r false ≡ true
