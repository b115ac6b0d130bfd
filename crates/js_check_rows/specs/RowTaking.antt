-- What faults say of rows and of a line.
use Rattle.std.specs.Prelude.{◌≡◌, ℕ, List, [], Bool, false, ◌&&◌, nat_lt, Err}
use Rattle.word_states.specs.Atom.{Atom}
use Rattle.word_states.specs.WordState.{have_same_state}
use Rattle.verdicts.specs.Rules.{no_row, wrong_target}
use Rattle.verdicts.specs.RowLines.{Table, next, is_row, extend, row_taken}
use Rattle.verdicts.specs.Leaves.{are_within_limits}
use Rattle.js_check_rows.specs.declared.fault.RowFault.{RowFault}
use Rattle.js_check_rows.specs.declared.fault.RowFault.TheVariants as R
use Rattle.js_check_rows.specs.Taking.{IsFirstWrong}

-- there are rows, and the atoms are within the limits
abbrev pub may_begin : List Atom → ℕ → Bool
may_begin atoms count = nat_lt 0 count && are_within_limits atoms

abbrev pub BeginTells : List Atom → ℕ → RowFault → Type 0
BeginTells atoms count R.Start = may_begin atoms count ≡ false
BeginTells atoms count R.Memory = Unit {0}
BeginTells atoms count _ = ⊥

-- of the line of the next row; a step names the first class with a wrong target
abbrev pub RowTells : List Atom → ℕ → Table (List ℕ) → List ℕ → RowFault → Type 0
RowTells atoms count t ts R.Width =
    (is_row (have_same_state atoms) (extend atoms) [] t ts ≡ false) × (row_taken atoms count t ts ≡ Err no_row)
RowTells atoms count t ts (R.Step k) =
    IsFirstWrong atoms count t.words (next (have_same_state atoms) (extend atoms) [] t) ts k
    × (row_taken atoms count t ts ≡ Err wrong_target)
RowTells atoms count t ts R.Memory = Unit {0}
RowTells atoms count t ts _ = ⊥
