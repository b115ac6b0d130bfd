-- The exit status of the program.
use Rattle.std.specs.Prelude.{ℕ}
use Rattle.js_top.specs.declared.status.Status.{Status}
use Rattle.js_top.specs.declared.status.Status.TheVariants.{Done, Other, Usage, Refused, Limit, ReadFault, WriteFault, Memory}

abbrev pub code_of : Status → ℕ
code_of Done = 0
code_of Other = 1
code_of Usage = 2
code_of Refused = 3
code_of Limit = 4
code_of ReadFault = 5
code_of WriteFault = 6
code_of Memory = 7
