-- What is reported of a line that isn't taken: the rule that it breaks, unless there was no memory.
use Rattle.std.specs.Prelude.{◌≡◌, ℕ, ⊤, Result, Ok, Err}
use Rattle.js_rules.specs.declared.fault.RuleFault.{RuleFault}
use Rattle.js_rules.specs.declared.fault.RuleFault.TheVariants as F
use Rattle.js_rules.specs.RuleView.{rule_view}

-- the first argument is what the definition says of the line
abbrev pub Breaks : {A : Type 0} → Result A ℕ → RuleFault → Type 0
Breaks v (F.Breaks r) = v ≡ Err (rule_view r)
Breaks v F.Memory = ⊤
