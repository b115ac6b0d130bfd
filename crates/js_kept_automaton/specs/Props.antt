-- That something was built of atoms is a fact.
use Rattle.std.specs.Prelude.{List, Option, Result, Ok, Err}
use Rattle.std.specs.Coded.{Coded, Coded-set, codes}
use Rattle.word_states.specs.Atom.{Atom}
use Rattle.alternatives.specs.Limit.{LimitKind}
use Rattle.js_algebra.specs.TreeCode.{tree_code}
use Rattle.js_automaton.specs.declared.automaton.Automaton.{Automaton}
use Rattle.js_automaton.specs.declared.fault.AutoFault.{AutoFault}
use Rattle.js_automaton.specs.declared.fault.AutoFault.TheVariants as F
use Rattle.js_kept_automaton.specs.Outcomes.{IsOutcome}

atoms_code : Coded (List Atom)
atoms_code = Prim.hlevel (codes, tree_code)

limit_code : Coded (Option LimitKind)
limit_code = Prim.hlevel (codes)

pub IsOutcome-prop : (atoms : List Atom) (r : Result Automaton AutoFault) → IsProp (IsOutcome atoms r)
IsOutcome-prop atoms (Ok a) x y = λ i. (Coded-set atoms_code _ _ x.0 y.0 i, Coded-set limit_code _ _ x.1 y.1 i)
IsOutcome-prop atoms (Err F.LimitPositions) x y = Coded-set limit_code _ _ x y
IsOutcome-prop atoms (Err F.LimitClasses) x y = Coded-set limit_code _ _ x y
IsOutcome-prop atoms (Err F.LimitStates) x y = Coded-set limit_code _ _ x y
IsOutcome-prop atoms (Err F.Memory) x y = absurd x
