-- What a fault says of a verdict.
use Rattle.std.specs.Prelude.{◌≡◌, ℕ, ◌+◌, ⊤}
use Rattle.verdicts.specs.Verdict.{Verdict, Rejected}
use Rattle.js_rules.specs.RuleView.{rule_view}
use Rattle.js_rules.specs.declared.fault.RuleFault.{RuleFault}
use Rattle.js_rules.specs.declared.fault.RuleFault.TheVariants as R
use Rattle.js_checker.specs.declared.fault.CheckFault.{CheckFault}
use Rattle.js_checker.specs.declared.fault.CheckFault.TheVariants as F

-- the fault of the line of that number
abbrev pub fault_at : ℕ → RuleFault → CheckFault
fault_at k (R.Breaks r) = F.Rejected k (rule_view r)
fault_at k R.Memory = F.Memory

-- the verdict is what the fault says; want of memory says nothing
abbrev pub Tells : CheckFault → Verdict → Type 0
Tells (F.Rejected k r) v = v ≡ Rejected k r
Tells F.Memory v = ⊤

-- the line that is rejected is the next one after so many; want of memory says nothing
abbrev pub IsNextAfter : ℕ → CheckFault → Type 0
IsNextAfter n (F.Rejected k r) = k ≡ n + 1
IsNextAfter n F.Memory = ⊤
