-- What a fault says of the word that is to be found.
use Rattle.std.specs.Prelude.{◌≡◌, ℕ, List, Option, Result, Err}
use Rattle.alternatives.specs.Limit.{LimitKind, Positions, Classes, States}
use Rattle.js_automaton.specs.declared.fault.AutoFault.{AutoFault}
use Rattle.js_automaton.specs.declared.fault.AutoFault.TheVariants as F

-- the limit that is passed, but for want of memory
abbrev pub FaultSays : Result (Option (List ℕ)) LimitKind → AutoFault → Type 0
FaultSays found F.LimitPositions = found ≡ Err Positions
FaultSays found F.LimitClasses = found ≡ Err Classes
FaultSays found F.LimitStates = found ≡ Err States
FaultSays found F.Memory = Unit {0}
