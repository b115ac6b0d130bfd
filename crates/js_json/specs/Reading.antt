-- What the tokens of a text are read into: the value that the text stands for, without a tree in between. An object's
-- members are kept by the bytes of their names until all of them are read.
use Rattle.std.specs.Prelude.{ℕ, List, [], ◌∷◌, map, Option, Some, None, option_map, option_and_then, String, string_bytes}
use Rattle.std.specs.declared.alloc.Global.{Global}
use Rattle.std.specs.Str.{chars}
use Rattle.std.specs.Ordering.{nat_cmp, match_ordering}
use Rattle.std.specs.Cmp.Lexicographic.{slice_cmp}
use Rattle.json.specs.Token.{Token}
use Rattle.json.specs.Json as T
use Rattle.serde_json.specs.Read.{number_of}
use Rattle.documents.specs.Json as J
use Rattle.js_json.specs.Value.{json_number}
use Rattle.js_json.specs.declared.number.Written.{Written}
use Rattle.js_json.specs.declared.number.Written.TheVariants.{Whole, NotWhole, TooLarge}

-- the members, with the value at its name: the last value of a name stays, and names are in the order of their bytes
abbrev pub put_named : List ℕ → J.Json → List (List ℕ × J.Json) → List (List ℕ × J.Json)
put_named k j [] = (k, j) ∷ []
put_named k j (e ∷ es) =
    match_ordering (slice_cmp nat_cmp k e.0) ((k, j) ∷ e ∷ es) ((e.0, j) ∷ es) (e ∷ put_named k j es)

-- an object of members whose names are bytes
abbrev pub object_of : List (List ℕ × J.Json) → J.Json
object_of es = J.object (J.members_of (map (λ e. (chars e.0, e.1)) es))

-- the value of what the grammar reads
abbrev mutual
  pub json_of_tree : T.Json → Option J.Json
  json_of_tree T.null = Some J.null
  json_of_tree (T.boolean b) = Some (J.boolean b)
  json_of_tree (T.number s) = option_map json_number (number_of s)
  json_of_tree (T.string s) = Some (J.string (chars s))
  json_of_tree (T.array js) = option_map J.array (items_of_tree js)
  json_of_tree (T.object ms) = option_map object_of (named_of_tree ms [])

  pub items_of_tree : T.Items → Option J.Items
  items_of_tree T.no_items = Some J.no_items
  items_of_tree (T.item t ts) = option_and_then (λ j. option_map (J.item j) (items_of_tree ts)) (json_of_tree t)

  -- the members of a tree behind those so far, of which a later one takes the place of an earlier one
  pub named_of_tree : T.Members → List (List ℕ × J.Json) → Option (List (List ℕ × J.Json))
  named_of_tree T.no_members so_far = Some so_far
  named_of_tree (T.member k t ms) so_far =
      option_and_then (λ j. named_of_tree ms (put_named k j so_far)) (json_of_tree t)

-- the value of one token, where it is one by itself
abbrev pub scalar_of : Token → Option J.Json
scalar_of Token.begin_object = None
scalar_of Token.end_object = None
scalar_of Token.begin_array = None
scalar_of Token.end_array = None
scalar_of (Token.key s) = None
scalar_of (Token.string s) = Some (J.string (chars s))
scalar_of (Token.number s) = option_map json_number (number_of s)
scalar_of (Token.boolean b) = Some (J.boolean b)
scalar_of Token.null = Some J.null
scalar_of Token.bad = None

-- a number as its text writes it
abbrev pub json_written : Written → Option J.Json
json_written (Whole n) = Some (J.number n)
json_written NotWhole = Some J.not_whole
json_written TooLarge = None

-- ---- the entries of a map, by what their values stand for

-- an entry with the bytes of its name
abbrev pub named_by : {V : Type 0} → (V → J.Json) → String Global × V → List ℕ × J.Json
named_by f e = (string_bytes e.0, f e.1)

-- an entry with its name as scalar values
abbrev pub spelled_by : {V : Type 0} → (V → J.Json) → String Global × V → List ℕ × J.Json
spelled_by f e = (chars (string_bytes e.0), f e.1)
