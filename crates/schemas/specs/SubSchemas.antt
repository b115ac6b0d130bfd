-- The schemas that lie directly in a keyword's value, in pre-order.
use Rattle.std.specs.Prelude.{List, [], ◌∷◌, ◌++◌, Option, Some, None}
use Rattle.documents.specs.Json.{Json, array, object, Members, no_members, member}
use Rattle.schemas.specs.Places.{Pointer, Place, elements_under}
use Rattle.schemas.specs.Keyword.{Shape, TypeWords, AnyValues, AnyValue, WholeNumber, PositiveNumber, Count, PatternWord, Words, Schema, SchemaOrList, SchemaList, SchemaMap, PatternMap, NeedMap, Flag, read_shape}

-- the elements of a list
abbrev pub in_list : Pointer → Json → List Place
in_list p (array vs) = elements_under p 0 vs
in_list p _ = []

-- the elements of a list, or the value itself
abbrev pub in_list_or_one : Pointer → Json → List Place
in_list_or_one p (array vs) = elements_under p 0 vs
in_list_or_one p v = (p, v) ∷ []

-- the values of members
abbrev pub members_under : Pointer → Members → List Place
members_under p no_members = []
members_under p (member k v ms) = (p ++ k ∷ [], v) ∷ members_under p ms

abbrev pub in_map : Pointer → Json → List Place
in_map p (object ms) = members_under p ms
in_map p _ = []

-- a value that isn't a list, with what comes after it
abbrev pub unless_list : Pointer → Json → List Place → List Place
unless_list p (array vs) cs = cs
unless_list p v cs = (p, v) ∷ cs

-- the values of members but for lists, which are names that a dependency needs
abbrev pub needs_under : Pointer → Members → List Place
needs_under p no_members = []
needs_under p (member k v ms) = unless_list (p ++ k ∷ []) v (needs_under p ms)

abbrev pub in_needs : Pointer → Json → List Place
in_needs p (object ms) = needs_under p ms
in_needs p _ = []

-- in the value of a keyword of that shape, which is at that pointer
abbrev pub in_value : Shape → Pointer → Json → List Place
in_value Schema p v = (p, v) ∷ []
in_value SchemaOrList p v = in_list_or_one p v
in_value SchemaList p v = in_list p v
in_value SchemaMap p v = in_map p v
in_value PatternMap p v = in_map p v
in_value NeedMap p v = in_needs p v
in_value TypeWords p v = []
in_value AnyValues p v = []
in_value AnyValue p v = []
in_value WholeNumber p v = []
in_value PositiveNumber p v = []
in_value Count p v = []
in_value PatternWord p v = []
in_value Words p v = []
in_value Flag p v = []

-- in a member that is a keyword of that shape, and in one that is none
abbrev pub in_member : Option Shape → Pointer → Json → List Place
in_member None p v = []
in_member (Some S) p v = in_value S p v

-- in the members of the object `ms` from some member on
abbrev pub in_members : (ms : Members) → Pointer → Members → List Place
in_members ms p no_members = []
in_members ms p (member k v rest) = in_member (read_shape ms k) (p ++ k ∷ []) v ++ in_members ms p rest

-- in the keywords of an object at a pointer, by the names of the keywords
abbrev pub sub_schemas : Pointer → Members → List Place
sub_schemas p ms = in_members ms p ms
