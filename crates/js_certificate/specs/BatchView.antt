-- For which lines a batch stands.
use Rattle.std.specs.Prelude.{◌≡◌, ℕ, ◌+◌, ◌≤◌, List, ◌++◌, map, Option, Some, vec_len}
use Rattle.positions.specs.Position.{Position}
use Rattle.certificate_lines.specs.Line.{Line}
use Rattle.verdicts.specs.Verdict.{Start}
use Rattle.js_lines.specs.View.{line_view}
use Rattle.js_checker.specs.Standing.{Stands}
use Rattle.js_checker.specs.CheckerView as C
use Rattle.js_checker.specs.CheckerView.{standing}
use Rattle.js_checker.specs.declared.fault.CheckFault.{CheckFault}
use Rattle.js_certificate.specs.ReadBehind.{most_waiting}
use Rattle.js_certificate.specs.declared.batch.Batch.{Batch}

abbrev pub table_of : Batch → List Position
table_of b = C.table_of b.checker

abbrev pub premise_of : Batch → ℕ
premise_of b = C.premise_of b.checker

abbrev pub conclusion_of : Batch → ℕ
conclusion_of b = C.conclusion_of b.checker

-- how many lines were taken, those that wait with them
abbrev pub lines_of : Batch → ℕ
lines_of b = C.lines_of b.checker + vec_len b.waiting

-- between pieces
abbrev pub FewWait : ℕ → Batch → Type 0
FewWait workers b = vec_len b.waiting ≤ most_waiting workers

-- the first fault
abbrev pub fault_of : Batch → Option CheckFault
fault_of b = C.fault_of b.checker

-- the checker stands for the first lines, and the others wait
pub record StandsFor (b : Batch) (ls : List Line) : Type 0 where
  pub taken : List Line
  pub checker : C.StandsFor b.checker taken
  pub all : ls ≡ taken ++ map line_view b.waiting.items

-- whatever comes after the lines, they are judged as the fault says
abbrev pub AreToldBy : List Position → ℕ → ℕ → CheckFault → List Line → Type 0
AreToldBy T a b fault ls = Stands T a b (standing (Some fault) Start 0) ls
