-- How the fault of a pattern is one of its automaton.
use Rattle.std.specs.Prelude.{◌≡◌}
use Rattle.js_nfa.specs.declared.fault.NfaFault.{NfaFault}
use Rattle.js_nfa.specs.declared.fault.NfaFault.TheVariants as N
use Rattle.js_automaton.specs.declared.fault.AutoFault.{AutoFault}
use Rattle.js_automaton.specs.declared.fault.AutoFault.TheVariants as A

abbrev pub Becomes : NfaFault → AutoFault → Type 0
Becomes N.LimitPositions made = made ≡ A.LimitPositions
Becomes N.Memory made = made ≡ A.Memory
