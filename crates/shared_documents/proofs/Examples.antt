-- Worked examples of tables and of the documents of their parts, each computed from the definitions.
use Rattle.std.specs.Prelude.{◌≡◌, List, [], ◌∷◌, true, false, refl, codes, pos, Some, None}
use Rattle.documents.specs.Document as D
use Rattle.shared_documents.specs.Part.{Part, null, number, array, object, is_table, first_forward}
use Rattle.shared_documents.specs.Unshared.{unshared}

-- one number, a pair of it with itself, and an object of that pair under two names
abbrev shared : List Part
shared =
    number (pos 1) ∷ array (0 ∷ 0 ∷ []) ∷ object ((codes "a", 1) ∷ (codes "b", 1) ∷ []) ∷ []

abbrev pair : D.Document
pair = D.array (D.items_of (D.number (pos 1) ∷ D.number (pos 1) ∷ []))

is_a_table : is_table shared ≡ true
is_a_table = refl

-- each name is replaced, also of one part named twice
last_unshared : unshared shared 2 ≡ D.object (D.members_of ((codes "a", pair) ∷ (codes "b", pair) ∷ []))
unfolding unshared
last_unshared = refl

-- no part names its own number
names_itself : is_table (array (0 ∷ []) ∷ []) ≡ false
names_itself = refl

-- nor one that is still to come
names_a_later_part : is_table (array (1 ∷ []) ∷ null ∷ []) ≡ false
names_a_later_part = refl

-- the first part names none, and every later one may name it
names_the_first : is_table (null ∷ null ∷ array (1 ∷ 0 ∷ []) ∷ []) ≡ true
names_the_first = refl

-- names rise
names_fall : is_table (null ∷ object ((codes "b", 0) ∷ (codes "a", 0) ∷ []) ∷ []) ≡ false
names_fall = refl

-- no name is there twice
name_twice : is_table (null ∷ object ((codes "a", 0) ∷ (codes "a", 0) ∷ []) ∷ []) ≡ false
name_twice = refl

-- of two numbers that aren't below, the first in order is reported, and not the larger or the smaller one
first_in_order : first_forward 2 (array (1 ∷ 3 ∷ 2 ∷ 4 ∷ [])) ≡ Some 3
first_in_order = refl

-- of members too, the first number that isn't below is reported
first_member : first_forward 2 (object ((codes "a", 1) ∷ (codes "b", 2) ∷ (codes "c", 3) ∷ [])) ≡ Some 2
first_member = refl

none_forward : first_forward 2 (array (1 ∷ 0 ∷ [])) ≡ None
none_forward = refl
