-- A whole file, and why it was not read.
use Rattle.std.specs.Prelude.{◌≡◌, ℕ, ◌<◌, ◌≤◌, List, length, Option, None, Some}
use Rattle.js_outside.specs.Counts.{Rose}
use Rattle.js_outside.specs.Told.{Files}
use Rattle.js_report.specs.declared.reading.FileFault.{FileFault}
use Rattle.js_report.specs.declared.reading.FileFault.TheVariants.{TooLong, Read, Memory}

-- how many bytes a file may have
abbrev pub longest_file : ℕ
longest_file = 16777216

-- the file of the name has these bytes, where files are known
abbrev pub HasBytes : Option Files → List ℕ → List ℕ → Type 0
HasBytes None name bytes = Unit {0}
HasBytes (Some files) name bytes = files name ≡ Some bytes

-- these are all bytes of the file, and not too many
abbrev pub IsWholeFile : Option Files → List ℕ → List ℕ → Type 0
IsWholeFile told name bytes = (length bytes ≤ longest_file) × HasBytes told name bytes

-- the file of the name has too many bytes, where files are known
abbrev pub IsTooLong : Option Files → List ℕ → Type 0
IsTooLong told name = (bytes : List ℕ) × HasBytes told name bytes × (longest_file < length bytes)

-- what a fault says of the file and of the shelf's count of faults before and after
abbrev pub FaultSays : Option Files → List ℕ → ℕ → ℕ → FileFault → Type 0
FaultSays told name before after TooLong = IsTooLong told name × (after ≡ before)
FaultSays told name before after Read = Rose before after
FaultSays told name before after Memory = after ≡ before
