-- What is built of atoms: their automaton, or the limit that they pass first.
use Rattle.std.specs.Prelude.{◌≡◌, List, Option, None, Some, Result, Ok, Err, Bool, true, false, ⊤}
use Rattle.word_states.specs.Atom.{Atom}
use Rattle.word_states.specs.Classes.{characters}
use Rattle.alternatives.specs.Limit.{LimitKind, Positions, Classes, States, most_states}
use Rattle.finders.specs.Limits.{limit_passed}
use Rattle.js_automaton.specs.AutomatonView.{atoms_of}
use Rattle.js_automaton.specs.declared.automaton.Automaton.{Automaton}
use Rattle.js_automaton.specs.declared.fault.AutoFault.{AutoFault}
use Rattle.js_automaton.specs.declared.fault.AutoFault.TheVariants as F

abbrev pub passed : List Atom → Option LimitKind
passed atoms = limit_passed characters most_states atoms

-- the limit that is passed first; want of memory says nothing
abbrev pub Passes : List Atom → AutoFault → Type 0
Passes atoms F.LimitPositions = passed atoms ≡ Some Positions
Passes atoms F.LimitClasses = passed atoms ≡ Some Classes
Passes atoms F.LimitStates = passed atoms ≡ Some States
Passes atoms F.Memory = ⊤

-- what may be kept: want of memory may not
abbrev pub IsOutcome : List Atom → Result Automaton AutoFault → Type 0
IsOutcome atoms (Ok a) = (atoms_of a ≡ atoms) × (passed atoms ≡ None)
IsOutcome atoms (Err F.LimitPositions) = passed atoms ≡ Some Positions
IsOutcome atoms (Err F.LimitClasses) = passed atoms ≡ Some Classes
IsOutcome atoms (Err F.LimitStates) = passed atoms ≡ Some States
IsOutcome atoms (Err F.Memory) = ⊥

-- want of memory
abbrev pub is_lacking : Result Automaton AutoFault → Bool
is_lacking (Ok a) = false
is_lacking (Err F.LimitPositions) = false
is_lacking (Err F.LimitClasses) = false
is_lacking (Err F.LimitStates) = false
is_lacking (Err F.Memory) = true
