-- What the places of a schema weigh. The table of a schema has at most as many positions as its places weigh together.
use Rattle.std.specs.Prelude.{ℕ, suc, ◌+◌, ◌*◌, length, Option, Some, None, codes}
use Rattle.documents.specs.Json.{Json, array, object, Members, no_members, member, lookup, count, elements, entries}
use Rattle.schemas.specs.Places.{Place}
use Rattle.schemas.specs.Keyword.{Shape, TypeWords, AnyValues, AnyValue, WholeNumber, PositiveNumber, Count, PatternWord, Words, Schema, SchemaOrList, SchemaList, SchemaMap, PatternMap, NeedMap, Flag, read_shape}

-- a list with its elements, and an object with its members' values
abbrev pub list_values : Json → ℕ
list_values (array vs) = suc (length (elements vs))
list_values _ = 1

abbrev pub map_values : Json → ℕ
map_values (object ms) = suc (length (entries ms))
map_values _ = 1

-- the names that a dependency needs count, and what lies in a schema doesn't
abbrev pub need_values : Members → ℕ
need_values no_members = 0
need_values (member k v ms) = list_values v + need_values ms

abbrev pub need_map_values : Json → ℕ
need_map_values (object ms) = suc (need_values ms)
need_map_values _ = 1

-- the values of a keyword: its own and those in it, a schema as one
abbrev pub values : Shape → Json → ℕ
values Schema v = 1
values SchemaOrList v = list_values v
values SchemaList v = list_values v
values SchemaMap v = map_values v
values PatternMap v = map_values v
values NeedMap v = need_map_values v
values TypeWords v = count v
values AnyValues v = count v
values AnyValue v = count v
values WholeNumber v = count v
values PositiveNumber v = count v
values Count v = count v
values PatternWord v = count v
values Words v = count v
values Flag v = count v

abbrev pub member_values : Option Shape → Json → ℕ
member_values None v = 0
member_values (Some S) v = values S v

-- the values of the keywords of the object `ms`, from some member on
abbrev pub keyword_values : (ms : Members) → Members → ℕ
keyword_values ms no_members = 0
keyword_values ms (member k v rest) = member_values (read_shape ms k) v + keyword_values ms rest

-- an object weighs 1, and 8 for each value of its keywords; a reference and a boolean weigh 1
abbrev pub object_weight : Option Json → Members → ℕ
object_weight (Some r) ms = 1
object_weight None ms = 1 + 8 * keyword_values ms ms

abbrev pub weight : Place → ℕ
weight (p, object ms) = object_weight (lookup (codes "$ref") ms) ms
weight _ = 1

-- the greatest weight of a schema that is read
abbrev pub most_weight : ℕ
most_weight = 2147483647
