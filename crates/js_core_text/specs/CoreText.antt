-- The text of a core table: the number of its positions, and then a line for each. It is bytes, and all but strings are
-- ASCII.
use Rattle.std.specs.Prelude.{ℕ, suc, List, [], ◌∷◌, ◌++◌, length, map, flat_map, Bool, true, false, codes}
use Rattle.std.specs.Fmt.{decimal, signed_decimal}
use Rattle.documents.specs.KindWords.{kind_word}
use Rattle.positions.specs.Position.{NameSet, Named, Matching, Others, Position, True, False, Same, Not, All, Any, One, Depends, Types, BoolIs, NumMin, NumMax, Multiple, NumIn, Words, Match, LengthMin, LengthMax, Items, Contains, CountMin, CountMax, MembersOf, Has, PropsMin, PropsMax, NamesIn}
use Rattle.js_json.specs.Pointer.{quoted}

-- each after a blank, so that an empty list leaves the bare word before it
abbrev pub number_text : ℕ → List ℕ
number_text n = 32 ∷ decimal n

abbrev pub numbers_text : List ℕ → List ℕ
numbers_text ns = flat_map number_text ns

-- a string as JSON has it
abbrev pub string_text : List ℕ → List ℕ
string_text w = 32 ∷ quoted w

abbrev pub strings_text : List (List ℕ) → List ℕ
strings_text ws = flat_map string_text ws

abbrev pub truth_word : Bool → List ℕ
truth_word true = codes "true"
truth_word false = codes "false"

-- the names and the texts of the patterns of `others`, each list after its length
abbrev pub set_text : NameSet → List ℕ
set_text (Named k) = codes " named" ++ string_text k
set_text (Matching r) = codes " matching" ++ string_text r.source
set_text (Others ks rs) =
    codes " others" ++ number_text (length ks) ++ strings_text ks ++ number_text (length rs)
    ++ strings_text (map (λ r. r.source) rs)

-- the word for the kind of a position
abbrev pub position_word : Position → List ℕ
position_word True = codes "true"
position_word False = codes "false"
position_word (Same q) = codes "same"
position_word (Not q) = codes "not"
position_word (All qs) = codes "all"
position_word (Any qs) = codes "any"
position_word (One qs) = codes "one"
position_word (Depends h q) = codes "depends"
position_word (Types ts) = codes "types"
position_word (BoolIs b) = codes "boolis"
position_word (NumMin n) = codes "nummin"
position_word (NumMax n) = codes "nummax"
position_word (Multiple m) = codes "multiple"
position_word (NumIn ns) = codes "numin"
position_word (Words ws) = codes "words"
position_word (Match r) = codes "match"
position_word (LengthMin n) = codes "lengthmin"
position_word (LengthMax n) = codes "lengthmax"
position_word (Items qs q) = codes "items"
position_word (Contains q) = codes "contains"
position_word (CountMin n) = codes "countmin"
position_word (CountMax n) = codes "countmax"
position_word (MembersOf s q) = codes "members"
position_word (Has w) = codes "has"
position_word (PropsMin n) = codes "propsmin"
position_word (PropsMax n) = codes "propsmax"
position_word (NamesIn q) = codes "namesin"

-- what a position requires, after its word
abbrev pub asked_text : Position → List ℕ
asked_text True = []
asked_text False = []
asked_text (Same q) = number_text q
asked_text (Not q) = number_text q
asked_text (All qs) = numbers_text qs
asked_text (Any qs) = numbers_text qs
asked_text (One qs) = numbers_text qs
asked_text (Depends h q) = number_text h ++ number_text q
asked_text (Types ts) = flat_map (λ t. 32 ∷ kind_word t) ts
asked_text (BoolIs b) = 32 ∷ truth_word b
asked_text (NumMin n) = 32 ∷ signed_decimal n
asked_text (NumMax n) = 32 ∷ signed_decimal n
asked_text (Multiple m) = number_text m
asked_text (NumIn ns) = flat_map (λ n. 32 ∷ signed_decimal n) ns
asked_text (Words ws) = strings_text ws
asked_text (Match r) = string_text r.source
asked_text (LengthMin n) = number_text n
asked_text (LengthMax n) = number_text n
asked_text (Items qs q) = number_text q ++ numbers_text qs
asked_text (Contains q) = number_text q
asked_text (CountMin n) = number_text n
asked_text (CountMax n) = number_text n
asked_text (MembersOf s q) = set_text s ++ number_text q
asked_text (Has w) = string_text w
asked_text (PropsMin n) = number_text n
asked_text (PropsMax n) = number_text n
asked_text (NamesIn q) = number_text q

-- a position after its number
abbrev pub line_text : ℕ → Position → List ℕ
line_text n P = decimal n ++ 32 ∷ position_word P ++ asked_text P ++ 10 ∷ []

abbrev pub lines_text : ℕ → List Position → List ℕ
lines_text n [] = []
lines_text n (P ∷ Ps) = line_text n P ++ lines_text (suc n) Ps

-- the text of a table
abbrev pub core_text : List Position → List ℕ
core_text T = codes "core " ++ decimal (length T) ++ 10 ∷ lines_text 0 T
