-- What a contract sees of rows.
use Rattle.std.specs.Prelude.{ℕ, List}
use Rattle.word_states.specs.Atom.{Atom}
use Rattle.word_states.specs.Classes.{class_count}
use Rattle.verdicts.specs.RowLines.{Table, table}
use Rattle.js_check_rows.specs.declared.rows.Rows.{Rows}
use Rattle.js_check_rows.specs.MentionsView.{atoms_in, words_in}
use Rattle.js_check_rows.specs.Lines.{lines_of}

-- the atoms
abbrev pub atoms_of : Rows → List Atom
atoms_of rows = atoms_in rows.mentions

-- how many rows there are to be
abbrev pub count_of : Rows → ℕ
count_of rows = rows.mentions.count

-- a word for each row that was mentioned, and the targets of those that were stated
abbrev pub table_of : Rows → Table (List ℕ)
table_of rows =
    table (words_in rows.mentions) (lines_of (class_count (atoms_in rows.mentions)) rows.stated rows.targets.items)
