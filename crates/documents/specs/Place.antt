-- The value at a place of a JSON value (RFC 6901, section 4).
use Rattle.std.specs.Prelude.{ℕ, List, [], ◌∷◌, Bool, false, not, ◌&&◌, ◌==◌, if◌then◌else◌, Option, Some, None, option_and_then, slice_get}
use Rattle.std.specs.Char.{is_ascii_digit}
use Rattle.std.specs.List.{list_all}
use Rattle.std.specs.Str.Parse.{digits_value}
use Rattle.documents.specs.Json.{Json, null, boolean, number, not_whole, string, array, object, elements, lookup}

-- a digit, or more digits of which the first isn't `0`
abbrev pub is_index : List ℕ → Bool
is_index [] = false
is_index (c ∷ []) = is_ascii_digit c
is_index (c ∷ d ∷ cs) = not (c == 48) && list_all is_ascii_digit (c ∷ d ∷ cs)

-- the number that the token writes, where it is an index
abbrev pub index_of : List ℕ → Option ℕ
index_of token = if is_index token then Some (digits_value 10 token) else None

-- the element at that index, or the member of that name
abbrev pub child_at : List ℕ → Json → Option Json
child_at token null = None
child_at token (boolean b) = None
child_at token (number n) = None
child_at token not_whole = None
child_at token (string s) = None
child_at token (array ds) = option_and_then (slice_get (elements ds)) (index_of token)
child_at token (object ms) = lookup token ms

-- the value that the tokens lead to, outermost first
abbrev pub value_at : List (List ℕ) → Json → Option Json
value_at [] j = Some j
value_at (token ∷ tokens) j = option_and_then (value_at tokens) (child_at token j)
