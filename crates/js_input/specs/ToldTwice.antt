-- The files of a shelf at two readings, one after the other.
use Rattle.std.specs.Prelude.{◌≡◌, Option, Some, None}
use Rattle.js_outside.specs.Told.{Files}

-- the files of a shelf that are known stay as they are; where none are, they may be any, and others at the second
-- reading
abbrev pub AreFiles : Option Files → Files → Files → Type 0
AreFiles None files later = Unit {0}
AreFiles (Some told) files later = (files ≡ told) × (later ≡ told)
