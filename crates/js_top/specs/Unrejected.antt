-- What `check` says of a certificate that isn't judged to its end.
use Rattle.std.specs.Prelude.{◌≡◌, ℕ, List, Option, Some, None, codes}
use Rattle.std.specs.Io.KnownBytes.{Appends}
use Rattle.js_outside.specs.Told.{Files}
use Rattle.js_words.specs.Commands.{Command, Sat, Include, Valid, Check, Norm, Gen, command}
use Rattle.js_commands.specs.CheckUnrejected.{IsTooLongUnrejected, IsFaultUnrejected}
use Rattle.js_report.specs.Lines.{line}

-- A read of the certificate's file failed, of which so much is left. Both schemas are read, and no whole line that was
-- read before is rejected by the definition's verdict (`IsUnrejected` of `js_commands`).
abbrev pub IsFaultUnrejectedOf : Option Files → Option Command → (left : Option (List ℕ)) → Type 0
IsFaultUnrejectedOf told None left = Unit {0}
IsFaultUnrejectedOf told (Some (Sat a w)) left = Unit {0}
IsFaultUnrejectedOf told (Some (Include a b w)) left = Unit {0}
IsFaultUnrejectedOf told (Some (Valid a d)) left = Unit {0}
IsFaultUnrejectedOf told (Some (Check a b c w)) left = IsFaultUnrejected told a b c left
IsFaultUnrejectedOf told (Some (Norm a)) left = Unit {0}
IsFaultUnrejectedOf told (Some (Gen f n w)) left = Unit {0}

-- for the words of `check`
abbrev pub IsReadFaultUnrejected : Option Files → List (List ℕ) → (left : Option (List ℕ)) → Type 0
IsReadFaultUnrejected told words left = IsFaultUnrejectedOf told (command words) left

-- a line, and where it is that of a certificate with too many bytes, both schemas are read, and no whole line before
-- the last piece that was read is rejected
abbrev pub WritesUnrejected : Option Files → (first second certificate : List ℕ) → (left old new : Option (List ℕ))
    → Type 0
WritesUnrejected told first second certificate left old new =
    (text : List ℕ) × Appends old new text
    × (text ≡ line (codes "refused certificate toolong") → IsTooLongUnrejected told first second certificate left)

abbrev pub IsRefusalUnrejectedOf : Option Files → Option Command → (left old new : Option (List ℕ)) → Type 0
IsRefusalUnrejectedOf told None left old new = Unit {0}
IsRefusalUnrejectedOf told (Some (Sat a w)) left old new = Unit {0}
IsRefusalUnrejectedOf told (Some (Include a b w)) left old new = Unit {0}
IsRefusalUnrejectedOf told (Some (Valid a d)) left old new = Unit {0}
IsRefusalUnrejectedOf told (Some (Check a b c w)) left old new = WritesUnrejected told a b c left old new
IsRefusalUnrejectedOf told (Some (Norm a)) left old new = Unit {0}
IsRefusalUnrejectedOf told (Some (Gen f n w)) left old new = Unit {0}

-- for the words of `check`
abbrev pub IsRefusalUnrejected : Option Files → List (List ℕ) → (left old new : Option (List ℕ)) → Type 0
IsRefusalUnrejected told words left old new = IsRefusalUnrejectedOf told (command words) left old new
