-- What a reference names in a file (RFC 3986, section 3.5, and RFC 6901, sections 3 to 6). Texts are scalar values.
use Rattle.std.specs.Prelude.{◌≡◌, ℕ, List, [], ◌∷◌, Bool, true, false, not, ◌&&◌, ◌||◌, ◌==◌, if◌then◌else◌, map, Option, Some, None, option_and_then, Result, Ok, Err, chars, encode_utf8_all}
use Rattle.std.specs.List.{slice_split}
use Rattle.std.specs.Str.{is_utf8}
use Rattle.percent_encoding.specs.Percent.{percent_decode}
use Rattle.documents.specs.Json.{Json, null, boolean, number, not_whole, string, array, object}
use Rattle.documents.specs.Tests.{every, same_word}
use Rattle.js_json.specs.declared.fault.RefFault.{RefFault}
use Rattle.js_json.specs.declared.fault.RefFault.TheVariants.{Remote, BadPointer, Missing, NotASchema, Memory}
use Rattle.documents.specs.Place.{value_at}

-- what comes before the first `#`, or all where there is none
abbrev pub before_hash : List ℕ → List ℕ
before_hash [] = []
before_hash (c ∷ cs) = if c == 35 then [] else c ∷ before_hash cs

-- what comes after the first `#`, or nothing where there is none
abbrev pub after_hash : List ℕ → List ℕ
after_hash [] = []
after_hash (c ∷ cs) = if c == 35 then cs else after_hash cs

-- the text, without one `#` where it ends with one
abbrev pub without_last_hash : List ℕ → List ℕ
without_last_hash [] = []
without_last_hash (c ∷ []) = if c == 35 then [] else c ∷ []
without_last_hash (c ∷ d ∷ cs) = c ∷ without_last_hash (d ∷ cs)

-- what comes before the `#` names this file: nothing does, and so does the file's own `$id`
abbrev pub is_own : List ℕ → Option (List ℕ) → Bool
is_own [] id = true
is_own (c ∷ cs) None = false
is_own (c ∷ cs) (Some id) = same_word (c ∷ cs) (without_last_hash id)

-- the fragment with its percent escapes read, where their bytes are UTF-8
abbrev pub decoded : List ℕ → Option (List ℕ)
decoded fragment =
    if is_utf8 (percent_decode (encode_utf8_all fragment))
    then Some (chars (percent_decode (encode_utf8_all fragment)))
    else None

-- after each `~` comes `0` or `1`
abbrev pub are_escapes : List ℕ → Bool
are_escapes [] = true
are_escapes (c ∷ []) = not (c == 126)
are_escapes (c ∷ d ∷ cs) = (not (c == 126) || d == 48 || d == 49) && are_escapes (d ∷ cs)

-- each `~` that comes before this digit becomes, with the digit, the one character
abbrev pub replaced : (digit character : ℕ) → List ℕ → List ℕ
replaced digit character [] = []
replaced digit character (c ∷ []) = c ∷ []
replaced digit character (c ∷ d ∷ cs) =
    if c == 126 && d == digit
    then character ∷ replaced digit character cs
    else c ∷ replaced digit character (d ∷ cs)

-- first `~1` becomes `/`, and then `~0` becomes `~`
abbrev pub unescaped : List ℕ → List ℕ
unescaped token = replaced 48 126 (replaced 49 47 token)

-- the pieces between slashes
abbrev pub pieces : List ℕ → List (List ℕ)
pieces text = slice_split (λ c. c == 47) text

-- the token that is written so
abbrev pub token_of : List ℕ → Option (List ℕ)
token_of piece = if are_escapes piece then Some (unescaped piece) else None

-- the tokens that are between slashes
abbrev pub tokens_between : List ℕ → Option (List (List ℕ))
tokens_between text = if every are_escapes (pieces text) then Some (map unescaped (pieces text)) else None

-- the tokens of a pointer as it is written: nothing, or a `/` before each token
abbrev pub tokens_of : List ℕ → Option (List (List ℕ))
tokens_of [] = Some []
tokens_of (c ∷ cs) = if c == 47 then tokens_between cs else None

-- a schema is a boolean or an object
abbrev pub found : List (List ℕ) → Option Json → Result (List (List ℕ)) RefFault
found place None = Err Missing
found place (Some null) = Err NotASchema
found place (Some (boolean b)) = Ok place
found place (Some (number n)) = Err NotASchema
found place (Some not_whole) = Err NotASchema
found place (Some (string s)) = Err NotASchema
found place (Some (array ds)) = Err NotASchema
found place (Some (object ms)) = Ok place

abbrev pub pointed : Json → Option (List (List ℕ)) → Result (List (List ℕ)) RefFault
pointed j None = Err BadPointer
pointed j (Some place) = found place (value_at place j)

-- the place in the file's value that the reference names, or the first fault
abbrev pub target_of : Json → List ℕ → Option (List ℕ) → Result (List (List ℕ)) RefFault
target_of j text id =
    if is_own (before_hash text) id
    then pointed j (option_and_then tokens_of (decoded (after_hash text)))
    else Err Remote

-- the result is what is owed, unless memory was refused
abbrev pub Answers : Result (List (List ℕ)) RefFault → Result (List (List ℕ)) RefFault → Type 0
Answers owed (Ok place) = owed ≡ Ok place
Answers owed (Err Remote) = owed ≡ Err Remote
Answers owed (Err BadPointer) = owed ≡ Err BadPointer
Answers owed (Err Missing) = owed ≡ Err Missing
Answers owed (Err NotASchema) = owed ≡ Err NotASchema
Answers owed (Err Memory) = Unit {0}
