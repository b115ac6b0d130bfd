-- What has nothing wrong in it.
use Rattle.std.specs.Prelude.{ℕ, List, Bool, true, false, Option, Some, is_none}
use Rattle.documents.specs.Tests.{every}
use Rattle.documents.specs.Json.{Json, string, object, Members, null, entries}
use Rattle.schemas.specs.Places.{Pointer}
use Rattle.schemas.specs.Keyword.{Shape, Count, PositiveNumber}
use Rattle.schemas.specs.Fault.{pattern_fault}
use Rattle.schemas.specs.Reading.{members_fault}
use Rattle.js_keywords.specs.Reading.{rules}

-- nothing is wrong in the members of an object without a reference, whatever the file is that they are in
abbrev pub is_faultless : Pointer → Members → Bool
is_faultless p ms = is_none (members_fault rules null ms p ms)

abbrev pub is_pattern : List ℕ → Bool
is_pattern w = is_none (pattern_fault rules w)

abbrev pub is_pattern_word : Json → Bool
is_pattern_word (string w) = is_pattern w
is_pattern_word _ = false

-- each name is a pattern
abbrev pub names_are_patterns : Members → Bool
names_are_patterns ms = every (λ m. is_pattern m.0) (entries ms)

abbrev pub are_patterns : Json → Bool
are_patterns (object ms) = names_are_patterns ms
are_patterns _ = true

-- a number that isn't below 0
abbrev pub is_natural : Option Shape → Bool
is_natural (Some Count) = true
is_natural (Some PositiveNumber) = true
is_natural _ = false
