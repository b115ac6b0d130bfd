-- The rules that faults of rows stand for.
use Rattle.js_check_rows.specs.declared.fault.RowFault.{RowFault}
use Rattle.js_check_rows.specs.declared.fault.RowFault.TheVariants as R
use Rattle.js_rules.specs.declared.rule.Rule.TheVariants as U
use Rattle.js_rules.specs.declared.fault.RuleFault.{RuleFault}
use Rattle.js_rules.specs.declared.fault.RuleFault.TheVariants as F

abbrev pub rule_of : RowFault → RuleFault
rule_of R.Start = F.Breaks U.NoRows
rule_of R.Width = F.Breaks U.NoRow
rule_of (R.Step k) = F.Breaks U.WrongTarget
rule_of (R.Least r) = F.Breaks U.WrongLeast
rule_of (R.Capacity r) = F.Breaks U.WrongBound
rule_of R.Memory = F.Memory
