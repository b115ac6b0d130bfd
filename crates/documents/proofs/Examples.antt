-- Worked examples of documents and JSON values, each computed from the definitions.
use Rattle.std.specs.Prelude.{◌≡◌, ℕ, List, [], ◌∷◌, true, false, refl, codes, pos, Some, None}
use Rattle.documents.specs.Document.{Document, Members, null, number, string, array, object, no_items, item}
use Rattle.documents.specs.Document.{no_members, member, is_document, depth, lookup}
use Rattle.documents.specs.Document as D
use Rattle.documents.specs.Json as J
use Rattle.documents.specs.Tests.{comes_before}

-- an object whose members are all null
abbrev names : List (List ℕ) → Members
names [] = no_members
names (k ∷ ks) = member k null (names ks)

-- an object of one member
abbrev with_name : List ℕ → Document → Document
with_name k d = object (member k d no_members)

-- an array of one element
abbrev single : Document → Document
single d = array (item d no_items)

-- members are listed by name, a prefix before the longer name, the empty name first
names_in_order : is_document (object (names ([] ∷ codes "a" ∷ codes "aa" ∷ codes "b" ∷ []))) ≡ true
names_in_order = refl

-- in another order the members are no document
names_out_of_order : is_document (object (names (codes "b" ∷ codes "a" ∷ []))) ≡ false
names_out_of_order = refl

-- each member is compared with the next, not with the first alone
late_name_out_of_order : is_document (object (names (codes "a" ∷ codes "c" ∷ codes "b" ∷ []))) ≡ false
late_name_out_of_order = refl

-- an object has each name once
name_twice : is_document (object (names (codes "a" ∷ codes "a" ∷ []))) ≡ false
name_twice = refl

-- that the names rise is said of names alone
names_rise_alone : D.names_rise (names (codes "a" ∷ (55296 ∷ []) ∷ [])) ≡ true
names_rise_alone = refl

-- each name is compared with the next one
names_fall_late : D.names_rise (names (codes "a" ∷ codes "c" ∷ codes "b" ∷ [])) ≡ false
names_fall_late = refl

-- an object has each name once, and rising names say so
name_twice_does_not_rise : D.names_rise (names (codes "a" ∷ codes "a" ∷ [])) ≡ false
name_twice_does_not_rise = refl

-- names are compared by scalar value: U+FFFF comes before U+10000, which UTF-16 would put first
names_by_scalar_value : comes_before (65535 ∷ []) (65536 ∷ []) ≡ true
names_by_scalar_value = refl

-- the least and the greatest scalar values, and those on both sides of the surrogates
scalar_values : is_document (string (0 ∷ 55295 ∷ 57344 ∷ 1114111 ∷ [])) ≡ true
scalar_values = refl

-- the first surrogate is no scalar value
first_surrogate : is_document (string (55296 ∷ [])) ≡ false
first_surrogate = refl

-- the last surrogate is none
last_surrogate : is_document (string (57343 ∷ [])) ≡ false
last_surrogate = refl

-- a number past the last code point is none
past_unicode : is_document (string (1114112 ∷ [])) ≡ false
past_unicode = refl

-- names are strings of scalar values too
surrogate_in_name : is_document (object (names ((55296 ∷ []) ∷ []))) ≡ false
surrogate_in_name = refl

-- every string inside is looked at
surrogate_deep_inside : is_document (single (with_name (codes "a") (string (55296 ∷ [])))) ≡ false
surrogate_deep_inside = refl

-- a scalar has depth 0, however large it is
number_depth : depth (number (pos 99999999999999999999999999)) ≡ 0
number_depth = refl

-- an empty container has depth 1
empty_depth : depth (array no_items) ≡ 1
empty_depth = refl

-- the deepest element counts, wherever it is
deepest_depth : depth (array (item null (item (single (single null)) (item (array no_items) no_items)))) ≡ 3
deepest_depth = refl

-- the deepest member counts
member_depth : depth (object (member (codes "a") (array no_items) (member (codes "b") null no_members))) ≡ 2
member_depth = refl

-- every member is looked at
lookup_last : lookup (codes "b") (member (codes "a") null (member (codes "b") (number (pos 1)) no_members))
    ≡ Some (number (pos 1))
lookup_last = refl

-- a longer name that begins with the name is another
lookup_longer_name : lookup (codes "a") (member (codes "ab") null no_members) ≡ None
lookup_longer_name = refl

-- in a value with a repeated name the first member of that name is taken
lookup_first : J.lookup (codes "a")
    (J.member (codes "a") J.null (J.member (codes "a") J.not_whole J.no_members)) ≡ Some J.null
lookup_first = refl

-- a name is looked up whole
lookup_prefix : J.lookup (codes "a") (J.member (codes "ab") J.null J.no_members) ≡ None
lookup_prefix = refl

-- every value counts, containers and numbers that aren't whole included
count_nested : J.count
    (J.object (J.member (codes "a") (J.array (J.item J.null (J.item J.not_whole J.no_items))) J.no_members))
    ≡ 4
count_nested = refl
