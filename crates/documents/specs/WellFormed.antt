-- Which JSON values are those of a text.
use Rattle.std.specs.Prelude.{ℕ, List, Bool, true, ◌&&◌}
use Rattle.documents.specs.Json.{Json, null, boolean, number, not_whole, string, array, object, Items, no_items, item, Members, no_members, member}
use Rattle.documents.specs.Tests.{every, comes_before, is_scalar}

-- the name comes before the first name of the members
abbrev pub is_before : List ℕ → Members → Bool
is_before k no_members = true
is_before k (member l e ms) = comes_before k l

-- each name comes before the next one
abbrev pub names_rise : Members → Bool
names_rise no_members = true
names_rise (member k d ms) = is_before k ms && names_rise ms

-- strings and names are scalar values, and an object has each name once, in ascending order
abbrev mutual
  pub is_json : Json → Bool
  is_json null = true
  is_json (boolean b) = true
  is_json (number n) = true
  is_json not_whole = true
  is_json (string s) = every is_scalar s
  is_json (array ds) = are_items ds
  is_json (object ms) = are_members ms

  pub are_items : Items → Bool
  are_items no_items = true
  are_items (item d ds) = is_json d && are_items ds

  pub are_members : Members → Bool
  are_members no_members = true
  are_members (member k d ms) = every is_scalar k && is_json d && is_before k ms && are_members ms
