-- The definitions, computed on worked examples.
use Rattle.std.proofs.Common.{◌≡◌, [], ◌∷◌, ◌++◌, true, Some, None, Ok, Err, pos, negsuc, codes, decimal, refl}
use Rattle.std.specs.Option.{option_and_then}
use Rattle.percent_encoding.proofs.OnLiterals.{percent_encoding_on_literals}
use Rattle.documents.specs.Json.{Json, boolean, number, not_whole, string, array, object, no_items, item, no_members, member, lookup}
use Rattle.documents.specs.Document as D
use Rattle.js_json.specs.Documents.{json_of_document, unwhole_places}
use Rattle.js_json.specs.Pointer.{quoted, pointer_text}
use Rattle.js_json.specs.declared.fault.RefFault.TheVariants.{Remote, BadPointer, Missing, NotASchema}
use Rattle.documents.specs.Place.{value_at}
use Rattle.js_json.specs.Reference.{decoded, tokens_of, target_of}
use Rattle.js_json.specs.Value.{value_of}
use Rattle.js_json.proofs.OnTexts.{json_on_texts}

-- a name that comes twice keeps its last value
repeated : value_of (codes "{\"a\":1,\"a\":2}")
    ≡ Some (object (member (codes "a") (number (pos 2)) no_members))
unfolding json_on_texts
repeated = refl

-- members are in the order of their names
ordered : value_of (codes "{\"b\":1,\"a\":true}")
    ≡ Some (object (member (codes "a") (boolean true) (member (codes "b") (number (pos 1)) no_members)))
unfolding json_on_texts
ordered = refl

-- whole are the numbers that 64 bits hold and that are written without a fraction or an exponent
numbers : value_of (codes "[1.0,-0,1e3,18446744073709551615,18446744073709551616,-9223372036854775808]")
    ≡ Some (array (item not_whole (item not_whole (item not_whole
    (item (number (pos 18446744073709551615)) (item not_whole
    (item (number (negsuc 9223372036854775807)) no_items)))))))
unfolding json_on_texts
numbers = refl

-- an escaped pair of surrogates is one scalar value
pair : value_of (codes "\"\\ud83d\\ude00\"") ≡ Some (string (128512 ∷ []))
unfolding json_on_texts
pair = refl

-- a lone surrogate, a comma at the end, no value, a byte order mark, a number too large for a float
lone_surrogate : value_of (codes "\"\\ud83d\"") ≡ None
unfolding json_on_texts
lone_surrogate = refl

trailing_comma : value_of (codes "[1,]") ≡ None
unfolding json_on_texts
trailing_comma = refl

empty : value_of [] ≡ None
unfolding json_on_texts
empty = refl

byte_order_mark : value_of (239 ∷ 187 ∷ 191 ∷ codes "1") ≡ None
unfolding json_on_texts
byte_order_mark = refl

not_utf8 : value_of (34 ∷ 255 ∷ 34 ∷ []) ≡ None
unfolding json_on_texts
not_utf8 = refl

too_large : value_of (codes "1e999") ≡ None
unfolding json_on_texts
too_large = refl

-- pointers as they are printed: the whole value, an element, and tokens with a slash, a tilde and quotes
whole : quoted (pointer_text []) ≡ codes "\"\""
unfolding json_on_texts
whole = refl

element : quoted (pointer_text (codes "allOf" ∷ decimal 0 ∷ [])) ≡ codes "\"/allOf/0\""
unfolding json_on_texts
element = refl

escapes : quoted (pointer_text (codes "a/b" ∷ codes "~" ∷ codes "\"x\"" ∷ []))
    ≡ codes "\"/a~1b/~0/\\\"x\\\"\""
unfolding json_on_texts
escapes = refl

-- the escapes come before those of JSON, and what is not ASCII is kept as it is
line_feed : quoted (pointer_text ((233 ∷ 10 ∷ 31 ∷ []) ∷ []))
    ≡ codes "\"/" ++ 195 ∷ 169 ∷ codes "\\n\\u001f\""
unfolding json_on_texts
line_feed = refl

-- a member is found by its whole name
looked_up : lookup (codes "b") (member (codes "a") (boolean true) (member (codes "b") not_whole no_members))
    ≡ Some not_whole
looked_up = refl

absent : lookup (codes "ab") (member (codes "a") (boolean true) (member (codes "abc") not_whole no_members))
    ≡ None
absent = refl

-- an array and an object with two numbers that aren't whole, the first of them deep inside
abbrev fractions : Json
fractions =
    object (member (codes "a") (array (item (number (pos 1)) (item (object (member (codes "x/y") not_whole no_members))
    no_items))) (member (codes "b") not_whole no_members))

-- places are in the order of elements and of names, outer tokens first, and names aren't escaped
places : unwhole_places fractions ≡ (codes "a" ∷ codes "1" ∷ codes "x/y" ∷ []) ∷ (codes "b" ∷ []) ∷ []
unfolding json_on_texts
places = refl

-- a value may be such a number itself, and whole numbers of any size have no place
itself : unwhole_places not_whole ≡ [] ∷ []
itself = refl

large : unwhole_places (array (item (number (pos 99999999999999999999999)) no_items)) ≡ []
large = refl

-- a document is the same value
document : json_of_document
    (D.object (D.member (codes "a") (D.array (D.item (D.number (negsuc 0)) D.no_items)) D.no_members))
    ≡ object (member (codes "a") (array (item (number (negsuc 0)) no_items)) no_members)
document = refl

-- the file that RFC 6901 resolves its examples in (section 5), but for its numbers' order: names are in order
abbrev sample : Json
sample = object (member [] (number (pos 0)) (member (codes " ") (number (pos 7)) (member (codes "a/b") (number (pos 1))
    (member (codes "c%d") (number (pos 2)) (member (codes "e^f") (number (pos 3))
    (member (codes "foo") (array (item (string (codes "bar")) (item (string (codes "baz")) no_items)))
    (member (codes "g|h") (number (pos 4)) (member (codes "i\\j") (number (pos 5))
    (member (codes "k\"l") (number (pos 6)) (member (codes "m~n") (number (pos 8)) no_members))))))))))

-- the whole value, an element, a member with an empty name
whole_value : value_at [] sample ≡ Some sample
whole_value = refl

first_element : value_at (codes "foo" ∷ codes "0" ∷ []) sample ≡ Some (string (codes "bar"))
first_element = refl

empty_name : value_at ([] ∷ []) sample ≡ Some (number (pos 0))
empty_name = refl

-- no leading zero, no `-`, no sign, nothing past the end; and an element is no member
padded_index : value_at (codes "foo" ∷ codes "00" ∷ []) sample ≡ None
padded_index = refl

past_the_end : value_at (codes "foo" ∷ codes "2" ∷ []) sample ≡ None
past_the_end = refl

after_the_last : value_at (codes "foo" ∷ codes "-" ∷ []) sample ≡ None
after_the_last = refl

signed_index : value_at (codes "foo" ∷ codes "+1" ∷ []) sample ≡ None
signed_index = refl

-- an object has names, also where they are digits
index_as_name : value_at (codes "0" ∷ []) (object (member (codes "0") (boolean true) no_members)) ≡ Some (boolean true)
index_as_name = refl

-- nothing lies below a scalar
below_a_number : value_at ([] ∷ codes "0" ∷ []) sample ≡ None
below_a_number = refl

-- pointers as they are written in fragments (RFC 6901, section 6), and the tokens that they have
slash_and_percent : option_and_then tokens_of (decoded (codes "/a~1b/c%25d/m~0n/k%22l/ /i%5Cj"))
    ≡ Some (codes "a/b" ∷ codes "c%d" ∷ codes "m~n" ∷ codes "k\"l" ∷ codes " " ∷ codes "i\\j" ∷ [])
unfolding json_on_texts percent_encoding_on_literals
slash_and_percent = refl

-- `~01` is `~1` and no slash
tilde_before_one : option_and_then tokens_of (decoded (codes "/~01")) ≡ Some (codes "~1" ∷ [])
unfolding json_on_texts percent_encoding_on_literals
tilde_before_one = refl

-- escaped slashes and tildes part and escape as plain ones do, and a `%` that begins no escape stays
escaped_slash : option_and_then tokens_of (decoded (codes "%2Fa%7e1b%2f%zz")) ≡ Some (codes "a/b" ∷ codes "%zz" ∷ [])
unfolding json_on_texts percent_encoding_on_literals
escaped_slash = refl

-- a wrong escape, one at the end of a token, a byte that is no text, a name without a slash
wrong_escape : option_and_then tokens_of (decoded (codes "/~2")) ≡ None
unfolding json_on_texts percent_encoding_on_literals
wrong_escape = refl

cut_escape : option_and_then tokens_of (decoded (codes "/a~/1")) ≡ None
unfolding json_on_texts percent_encoding_on_literals
cut_escape = refl

no_text : option_and_then tokens_of (decoded (codes "/%ff")) ≡ None
unfolding json_on_texts percent_encoding_on_literals
no_text = refl

no_slash : option_and_then tokens_of (decoded (codes "x")) ≡ None
unfolding json_on_texts percent_encoding_on_literals
no_slash = refl

-- references: into this file by nothing or by its own name, and into another
own_name : target_of (object no_members) (codes "s.json#") (Some (codes "s.json#")) ≡ Ok []
unfolding json_on_texts percent_encoding_on_literals
own_name = refl

own_name_alone : target_of (object no_members) (codes "s.json") (Some (codes "s.json")) ≡ Ok []
unfolding json_on_texts percent_encoding_on_literals
own_name_alone = refl

one_hash_removed : target_of (object no_members) (codes "s.json#") (Some (codes "s.json##")) ≡ Err Remote
unfolding json_on_texts percent_encoding_on_literals
one_hash_removed = refl

other_file : target_of sample (codes "o.json") None ≡ Err Remote
unfolding json_on_texts percent_encoding_on_literals
other_file = refl

-- the file is looked up first, then the pointer, then the place, then what is there
bad_pointer : target_of sample (codes "#/foo/~") None ≡ Err BadPointer
unfolding json_on_texts percent_encoding_on_literals
bad_pointer = refl

missing : target_of sample (codes "#/foo/00") None ≡ Err Missing
unfolding json_on_texts percent_encoding_on_literals
missing = refl

no_schema : target_of sample (codes "#/foo") None ≡ Err NotASchema
unfolding json_on_texts percent_encoding_on_literals
no_schema = refl

-- a second `#` is part of the fragment
second_hash : target_of sample (codes "##") None ≡ Err BadPointer
unfolding json_on_texts percent_encoding_on_literals
second_hash = refl
