-- How the fault of an automaton is one of rows.
use Rattle.std.specs.Prelude.{◌≡◌}
use Rattle.js_automaton.specs.declared.fault.AutoFault.{AutoFault}
use Rattle.js_automaton.specs.declared.fault.AutoFault.TheVariants as A
use Rattle.js_check_rows.specs.declared.fault.RowFault.{RowFault}
use Rattle.js_check_rows.specs.declared.fault.RowFault.TheVariants as R

abbrev pub Becomes : AutoFault → RowFault → Type 0
Becomes A.LimitPositions made = made ≡ R.Start
Becomes A.LimitClasses made = made ≡ R.Start
Becomes A.LimitStates made = made ≡ R.Start
Becomes A.Memory made = made ≡ R.Memory
