-- Which schemas lie in the value of a keyword, by fewer cases than there are shapes.
use Rattle.std.specs.Prelude.{ℕ, ◌+◌, ◌^◌, ◌-◌, min, List, [], ◌∷◌, ◌++◌, Bool, Option, Some, None, option_map}
use Rattle.documents.specs.Json.{Json, Members, no_members, member, count}
use Rattle.schemas.specs.Places.{Pointer, Place}
use Rattle.schemas.specs.Keyword as S
use Rattle.schemas.specs.Keyword.{Shape}
use Rattle.schemas.specs.SubSchemas.{in_list, in_list_or_one, in_map, in_needs}
use Rattle.schemas.specs.Weight.{list_values, map_values, need_map_values}
use Rattle.js_keywords.specs.Member.{shape_beside}
use Rattle.js_walk.specs.declared.holding.Holding.{Holding}
use Rattle.js_walk.specs.declared.holding.Holding.TheVariants as H

abbrev pub holding_of : Shape → Holding
holding_of S.TypeWords = H.Nothing
holding_of S.AnyValues = H.Nothing
holding_of S.AnyValue = H.Nothing
holding_of S.WholeNumber = H.Nothing
holding_of S.PositiveNumber = H.Nothing
holding_of S.Count = H.Nothing
holding_of S.PatternWord = H.Nothing
holding_of S.Words = H.Nothing
holding_of S.Schema = H.One
holding_of S.SchemaOrList = H.OneOrList
holding_of S.SchemaList = H.List
holding_of S.SchemaMap = H.Map
holding_of S.PatternMap = H.Map
holding_of S.NeedMap = H.Needs
holding_of S.Flag = H.Nothing

-- of a member, where it is a keyword that is read beside `items` that is a list or isn't
abbrev pub read_holding : Bool → List ℕ → Option Holding
read_holding listed w = option_map holding_of (shape_beside listed w)

-- the schemas in the value at a pointer
abbrev pub held : Holding → Pointer → Json → List Place
held H.Nothing p v = []
held H.One p v = (p, v) ∷ []
held H.OneOrList p v = in_list_or_one p v
held H.List p v = in_list p v
held H.Map p v = in_map p v
held H.Needs p v = in_needs p v

abbrev pub member_held : Option Holding → Pointer → Json → List Place
member_held None p v = []
member_held (Some h) p v = held h p v

abbrev pub members_held : Bool → Pointer → Members → List Place
members_held listed p no_members = []
members_held listed p (member k v rest) =
    member_held (read_holding listed k) (p ++ k ∷ []) v ++ members_held listed p rest

-- the values that count
abbrev pub held_values : Holding → Json → ℕ
held_values H.Nothing v = count v
held_values H.One v = 1
held_values H.OneOrList v = list_values v
held_values H.List v = list_values v
held_values H.Map v = map_values v
held_values H.Needs v = need_map_values v

abbrev pub values_by : Option Holding → Json → ℕ
values_by None v = 0
values_by (Some h) v = held_values h v

abbrev pub members_values : Bool → Members → ℕ
members_values listed no_members = 0
members_values listed (member k v rest) = values_by (read_holding listed k) v + members_values listed rest

-- a count in 64 bits
abbrev pub capped : ℕ → ℕ
capped n = min n (2 ^ 64 - 1)
