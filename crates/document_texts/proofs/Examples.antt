-- Worked examples of texts and measures, each computed from the definitions.
use Rattle.std.specs.Prelude.{◌≡◌, [], ◌∷◌, ◌++◌, true, false, refl, codes, pos, negsuc}
use Rattle.std.specs.Char.{encode_utf8}
use Rattle.std.specs.Fmt.{digits}
use Rattle.documents.specs.Document as D
use Rattle.shared_documents.specs.Part.{null, boolean, number, string, array, object}
use Rattle.document_texts.specs.Scalars.{string_text}
use Rattle.document_texts.specs.DocumentText.{document_text}
use Rattle.document_texts.specs.PartsText.{parts_text}
use Rattle.document_texts.specs.Measured.{measured}

-- a quote, a backslash, a slash, the short escapes, the first and the last control character, and characters of one to
-- four bytes
quote_and_backslash : string_text (codes "a\"\\/") ≡ codes "\"a\\\"\\\\/\""
unfolding encode_utf8
quote_and_backslash = refl

short_escapes : string_text (8 ∷ 9 ∷ 10 ∷ 12 ∷ 13 ∷ []) ≡ codes "\"\\b\\t\\n\\f\\r\""
short_escapes = refl

control_characters : string_text (0 ∷ 11 ∷ 31 ∷ 127 ∷ []) ≡ codes "\"\\u0000\\u000b\\u001f" ++ 127 ∷ 34 ∷ []
unfolding encode_utf8
control_characters = refl

characters : string_text (233 ∷ 8364 ∷ 128512 ∷ [])
    ≡ 34 ∷ 195 ∷ 169 ∷ 226 ∷ 130 ∷ 172 ∷ 240 ∷ 159 ∷ 152 ∷ 128 ∷ 34 ∷ []
unfolding encode_utf8
characters = refl

abbrev document : D.Document
document =
    D.object (D.members_of ((codes "a", D.array (D.items_of (D.null ∷ D.number (negsuc 6) ∷ D.boolean false ∷ [])))
    ∷ (codes "b", D.object D.no_members) ∷ (codes "c", D.array D.no_items) ∷ []))

members_and_elements : document_text document ≡ codes "{\"a\":[null,-7,false],\"b\":{},\"c\":[]}"
unfolding encode_utf8 digits
members_and_elements = refl

document_measured : measured document ≡ record { length = 35; depth = 2; short_numbers = true }
unfolding encode_utf8 digits
document_measured = refl

-- the greatest short number, and the one behind it
greatest : (measured (D.number (pos 18446744073709551615))).short_numbers ≡ true
greatest = refl

too_great : (measured (D.number (pos 18446744073709551616))).short_numbers ≡ false
too_great = refl

least : (measured (D.number (negsuc 9223372036854775807))).short_numbers ≡ true
least = refl

too_small : (measured (D.array (D.items_of (D.number (negsuc 9223372036854775808) ∷ D.null ∷ [])))).short_numbers
    ≡ false
too_small = refl

-- parts of each kind, one of them named twice
all_kinds : parts_text (null ∷ boolean true ∷ number (negsuc 0) ∷ string (codes "x") ∷ array (0 ∷ 3 ∷ 0 ∷ [])
    ∷ object ((codes "a", 4) ∷ (codes "b\n", 1) ∷ []) ∷ array [] ∷ object [] ∷ [])
    ≡ codes "parts 8\n0 null\n1 true\n2 -1\n3 \"x\"\n4 [#0,#3,#0]\n5 {\"a\":#4,\"b\\n\":#1}\n6 []\n7 {}\n"
unfolding encode_utf8 digits
all_kinds = refl
