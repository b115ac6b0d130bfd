-- What a contract sees of a checker.
use Rattle.std.specs.Prelude.{◌≡◌, ℕ, List, Option, Some, None}
use Rattle.positions.specs.Position.{Position}
use Rattle.certificate_lines.specs.Line.{Line}
use Rattle.verdicts.specs.Verdict.{Stage}
use Rattle.js_checker.specs.Standing.{Standing, Going, Broken, Refused, Stands}
use Rattle.js_checker.specs.JudgeView.{stage_of}
use Rattle.js_checker.specs.declared.fault.CheckFault.{CheckFault}
use Rattle.js_checker.specs.declared.fault.CheckFault.TheVariants as F
use Rattle.js_checker.specs.declared.checker.Checker.{Checker}

-- the table, and the positions of which the first is to imply the second
abbrev pub table_of : Checker → List Position
table_of c = c.question.core.now.positions

abbrev pub premise_of : Checker → ℕ
premise_of c = c.question.premise.0

abbrev pub conclusion_of : Checker → ℕ
conclusion_of c = c.question.conclusion.0

-- the table and both positions are the same
pub record IsSameQuestion (old new : Checker) : Type 0 where
  pub table : table_of new ≡ table_of old
  pub premise : premise_of new ≡ premise_of old
  pub conclusion : conclusion_of new ≡ conclusion_of old

-- how many lines were taken
abbrev pub lines_of : Checker → ℕ
lines_of c = c.lines

-- the first fault
abbrev pub fault_of : Checker → Option CheckFault
fault_of c = c.fault

abbrev pub standing : Option CheckFault → Stage → ℕ → Standing
standing None s n = Going s n
standing (Some (F.Rejected k r)) s n = Broken k r
standing (Some F.Memory) s n = Refused

-- the checker stands for the lines
abbrev pub StandsFor : Checker → List Line → Type 0
StandsFor c ls = Stands (table_of c) (premise_of c) (conclusion_of c) (standing c.fault (stage_of c.judge) c.lines) ls
