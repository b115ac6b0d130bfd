-- The JSON value that a text stands for.
use Rattle.std.specs.Prelude.{ℕ, List, pos, Option, None, option_map, if◌then◌else◌}
use Rattle.std.specs.Str.{chars, is_utf8}
use Rattle.serde_json.specs.Data as R
use Rattle.serde_json.specs.Read.{read}
use Rattle.documents.specs.Json as J

-- a number that isn't held as a 64-bit integer isn't whole
abbrev pub json_number : R.Num → J.Json
json_number (R.unsigned n) = J.number (pos n)
json_number (R.negative z) = J.number z
json_number (R.float x) = J.not_whole

-- what was read, with each text as its scalar values
abbrev mutual
  pub json_of : R.Data → J.Json
  json_of R.null = J.null
  json_of (R.boolean b) = J.boolean b
  json_of (R.number n) = json_number n
  json_of (R.string s) = J.string (chars s)
  json_of (R.array ds) = J.array (json_items ds)
  json_of (R.object ms) = J.object (json_members ms)

  pub json_items : R.Items → J.Items
  json_items R.no_items = J.no_items
  json_items (R.item d ds) = J.item (json_of d) (json_items ds)

  pub json_members : R.Members → J.Members
  json_members R.no_members = J.no_members
  json_members (R.member k d ms) = J.member (chars k) (json_of d) (json_members ms)

-- The value of a JSON text in UTF-8, and None of anything else. A name that comes twice keeps its last value,
-- and members are in ascending order of their names.
unfoldable pub value_of : List ℕ → Option J.Json
value_of bytes = if is_utf8 bytes then option_map json_of (read bytes) else None
