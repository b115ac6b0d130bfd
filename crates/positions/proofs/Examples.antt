-- Worked examples of tables and of what their positions hold of, each computed from the definitions.
use Rattle.std.specs.Prelude.{◌≡◌, ◌^◌, ◌+◌, ◌-◌, List, [], ◌∷◌, map, Bool, true, false, pos, negsuc, refl, codes}
use Rattle.documents.specs.Kind.{Text, Array}
use Rattle.documents.specs.Document.{Document, null, boolean, number, string, array, object, items_of, members_of, no_items, no_members}
use Rattle.levels.specs.Levels.{is_met}
use Rattle.patterns.specs.Tree as tree
use Rattle.patterns.specs.Tree.{Tree, trees_of}
use Rattle.positions.specs.Position as P
use Rattle.positions.specs.Position.{Position, True, False, Same, Not, All, Any, One, Depends, Types, Pattern, Named, Matching, Others, position_at, is_table}
use Rattle.positions.specs.Holds.{holds}
use Rattle.positions.specs.NameFormula.{Is, In, Holds, name_meets}

-- "no string, and an array or something false", with its parts behind it
abbrev table : List Position
table = All (1 ∷ 3 ∷ []) ∷ Not 2 ∷ Types (Text ∷ []) ∷ Any (4 ∷ 5 ∷ []) ∷ Types (Array ∷ []) ∷ False ∷ []

-- ranks fall from each position to those that it names; equal ranks elsewhere do no harm
table_is_table : is_table table (3 ∷ 1 ∷ 0 ∷ 2 ∷ 0 ∷ 1 ∷ []) ≡ true
table_is_table = refl

-- ranks may be any numbers that fall
large_ranks : is_table (Not 1 ∷ True ∷ []) (99999999999 ∷ 77 ∷ []) ≡ true
large_ranks = refl

-- a rank that stays level doesn't fall
level_ranks : is_table (Not 1 ∷ True ∷ []) (1 ∷ 1 ∷ []) ≡ false
level_ranks = refl

-- a position can't name itself, whatever its rank
names_itself : is_table (Not 0 ∷ []) (5 ∷ []) ≡ false
names_itself = refl

-- nor can two positions name each other
names_each_other : is_table (Not 1 ∷ Not 0 ∷ []) (1 ∷ 0 ∷ []) ≡ false
names_each_other = refl

-- a position may name earlier ones
names_backward : is_table (True ∷ Not 0 ∷ []) (0 ∷ 1 ∷ []) ≡ true
names_backward = refl

-- a table names no place past its end
names_past_end : is_table (Not 2 ∷ True ∷ []) (1 ∷ 0 ∷ []) ≡ false
names_past_end = refl

-- there are as many ranks as positions
ranks_to_spare : is_table (Not 1 ∷ True ∷ []) (1 ∷ 0 ∷ 0 ∷ []) ≡ false
ranks_to_spare = refl

-- a position may name another twice, or none at all
named_twice : is_table (All (1 ∷ 1 ∷ []) ∷ Any [] ∷ []) (3 ∷ 2 ∷ []) ≡ true
named_twice = refl

-- a position past the end is false
past_end : position_at table 6 ≡ False
past_end = refl

-- all of the names have to hold, and they do of an array
all_hold : holds table 0 (array no_items) ≡ true
unfolding is_met
all_hold = refl

-- of a string the first name doesn't hold
one_fails : holds table 0 (string []) ≡ false
unfolding is_met
one_fails = refl

-- of null neither of the choices holds
none_holds : holds table 3 null ≡ false
unfolding is_met
none_holds = refl

-- one choice is enough
one_holds : holds table 3 (array no_items) ≡ true
unfolding is_met
one_holds = refl

-- an opposite holds where the other position doesn't
opposite_holds : holds table 1 null ≡ true
unfolding is_met
opposite_holds = refl

-- all of nothing holds
all_of_nothing : holds (All [] ∷ []) 0 null ≡ true
unfolding is_met
all_of_nothing = refl

-- any of nothing doesn't
any_of_nothing : holds (Any [] ∷ []) 0 null ≡ false
unfolding is_met
any_of_nothing = refl

-- no kind is one of no kinds
no_kinds : holds (Types [] ∷ []) 0 null ≡ false
unfolding is_met
no_kinds = refl

-- a position past the end holds of nothing
past_end_fails : holds table 6 null ≡ false
unfolding is_met
past_end_fails = refl

-- the longest chain of names that fits in a table is read to its end
longest_chain : holds (Not 1 ∷ Not 2 ∷ Not 3 ∷ False ∷ []) 0 null ≡ true
unfolding is_met
longest_chain = refl

-- positions that name others

-- the same position, however far away
same_holds : holds (Same 1 ∷ Same 2 ∷ True ∷ []) 0 null ≡ true
unfolding is_met
same_holds = refl

-- how the position that names truths and falsehoods holds of null
abbrev of_truths : Position → Bool
of_truths p = holds (p ∷ True ∷ False ∷ True ∷ []) 0 null

-- exactly one of several
one_of_three : of_truths (One (2 ∷ 1 ∷ 2 ∷ [])) ≡ true
unfolding is_met
one_of_three = refl

one_of_none : of_truths (One (2 ∷ 2 ∷ [])) ≡ false
unfolding is_met
one_of_none = refl

one_of_two : of_truths (One (1 ∷ 2 ∷ 3 ∷ [])) ≡ false
unfolding is_met
one_of_two = refl

-- a position that is named twice counts twice
one_of_itself : of_truths (One (1 ∷ 1 ∷ [])) ≡ false
unfolding is_met
one_of_itself = refl

-- exactly one of nothing
one_of_nothing : of_truths (One []) ≡ false
unfolding is_met
one_of_nothing = refl

-- objects where the condition holds need the other position
abbrev depends : Position → Position → Document → Bool
depends h p J = holds (Depends 1 2 ∷ h ∷ p ∷ []) 0 J

depends_fails : depends True False (object no_members) ≡ false
unfolding is_met
depends_fails = refl

depends_met : depends True True (object no_members) ≡ true
unfolding is_met
depends_met = refl

depends_without : depends False False (object no_members) ≡ true
unfolding is_met
depends_without = refl

-- other documents need nothing, whatever holds of them
depends_elsewhere : depends True False null ≡ true
unfolding is_met
depends_elsewhere = refl

-- typed positions

-- alone in a table, with a true position 1 and a false position 2 for its parts
abbrev alone : Position → Document → Bool
alone p J = holds (p ∷ True ∷ False ∷ []) 0 J

-- of documents of other kinds each holds
elsewhere : map (λ p. alone p null)
    (P.BoolIs true ∷ P.NumMin (pos 1) ∷ P.NumMax (pos 0) ∷ P.Multiple 2 ∷ P.NumIn [] ∷ P.Words []
    ∷ P.Match (record { source = codes "[]"; tree = tree.one_of [] }) ∷ P.LengthMin 1 ∷ P.LengthMax 0
    ∷ P.Items [] 2 ∷ P.Contains 2 ∷ P.CountMin 1 ∷ P.CountMax 0
    ∷ P.MembersOf (Others [] []) 2 ∷ P.Has (codes "a") ∷ P.PropsMin 1 ∷ P.PropsMax 0 ∷ P.NamesIn 2 ∷ [])
    ≡ true ∷ true ∷ true ∷ true ∷ true ∷ true ∷ true ∷ true ∷ true ∷ true ∷ true ∷ true ∷ true ∷ true ∷ true ∷ true
    ∷ true ∷ true ∷ []
unfolding is_met
elsewhere = refl

truth_values : alone (P.BoolIs true) (boolean true) ∷ alone (P.BoolIs true) (boolean false)
    ∷ alone (P.BoolIs false) (boolean false) ∷ [] ≡ true ∷ false ∷ true ∷ []
unfolding is_met
truth_values = refl

-- bounds are inclusive
bounds : alone (P.NumMin (negsuc 2)) (number (negsuc 2)) ∷ alone (P.NumMin (negsuc 2)) (number (negsuc 3))
    ∷ alone (P.NumMax (pos 3)) (number (pos 3)) ∷ alone (P.NumMax (pos 3)) (number (pos 4)) ∷ []
    ≡ true ∷ false ∷ true ∷ false ∷ []
unfolding is_met
bounds = refl

-- multiples may be negative, and 0 is one of every number
multiples : map (λ x. alone (P.Multiple 3) (number x)) (pos 0 ∷ negsuc 5 ∷ pos 4 ∷ pos 300000000000000000003 ∷ [])
    ≡ true ∷ true ∷ false ∷ true ∷ []
unfolding is_met
multiples = refl

listed_numbers : map (λ x. alone (P.NumIn (pos 3 ∷ negsuc 0 ∷ [])) (number x)) (negsuc 0 ∷ pos 3 ∷ pos 1 ∷ [])
    ≡ true ∷ true ∷ false ∷ []
unfolding is_met
listed_numbers = refl

-- a word is listed whole
words : map (λ w. alone (P.Words (codes "ab" ∷ [] ∷ [])) (string w)) (codes "ab" ∷ [] ∷ codes "a" ∷ codes "abc" ∷ [])
    ≡ true ∷ true ∷ false ∷ false ∷ []
unfolding is_met
words = refl

-- a pattern matches anywhere
abbrev letter_a : P.Pattern
letter_a = record { source = codes "a"; tree = tree.one_of ((97, 97) ∷ []) }

matching : map (λ w. alone (P.Match letter_a) (string w)) (codes "a" ∷ codes "bab" ∷ codes "b" ∷ [] ∷ [])
    ≡ true ∷ true ∷ false ∷ false ∷ []
unfolding is_met
matching = refl

-- lengths count scalar values: this one is of four bytes
lengths : alone (P.LengthMin 2) (string (128512 ∷ [])) ∷ alone (P.LengthMax 1) (string (128512 ∷ [])) ∷ []
    ≡ false ∷ true ∷ []
unfolding is_met
lengths = refl

-- an array of nulls
abbrev nulls : List Document → Document
nulls ds = array (items_of ds)

-- the first element by the prefix, the later ones by the rest
items : map (λ ds. alone (P.Items (1 ∷ []) 2) (nulls ds)) ([] ∷ (null ∷ []) ∷ (null ∷ null ∷ []) ∷ [])
    ≡ true ∷ true ∷ false ∷ []
unfolding is_met
items = refl

-- a prefix may be longer than the array
items_prefix : map (λ ds. alone (P.Items (1 ∷ 2 ∷ []) 1) (nulls ds)) ((null ∷ []) ∷ (null ∷ null ∷ []) ∷ [])
    ≡ true ∷ false ∷ []
unfolding is_met
items_prefix = refl

-- an empty array contains nothing
containing : alone (P.Contains 1) (nulls []) ∷ alone (P.Contains 1) (nulls (null ∷ []))
    ∷ alone (P.Contains 2) (nulls (null ∷ [])) ∷ [] ≡ false ∷ true ∷ false ∷ []
unfolding is_met
containing = refl

counts : map (λ p. alone p (nulls (null ∷ null ∷ [])))
    (P.CountMin 2 ∷ P.CountMin 3 ∷ P.CountMax 2 ∷ P.CountMax 1 ∷ []) ≡ true ∷ false ∷ true ∷ false ∷ []
unfolding is_met
counts = refl

-- an object with the members a and b, both null
abbrev two_members : Document
two_members = object (members_of ((codes "a", null) ∷ (codes "b", null) ∷ []))

-- the members of a set; one that isn't there is met
members : map (λ s. alone (P.MembersOf s 2) two_members)
    (Named (codes "a") ∷ Named (codes "c") ∷ Matching letter_a ∷ Others (codes "a" ∷ codes "b" ∷ []) []
    ∷ Others (codes "b" ∷ []) (letter_a ∷ []) ∷ Others (codes "a" ∷ []) (letter_a ∷ []) ∷ Others [] [] ∷ [])
    ≡ false ∷ true ∷ false ∷ true ∷ true ∷ false ∷ false ∷ []
unfolding is_met
members = refl

members_met : alone (P.MembersOf (Others [] []) 1) two_members ≡ true
unfolding is_met
members_met = refl

names : map (λ p. alone p two_members)
    (P.Has (codes "b") ∷ P.Has (codes "c") ∷ P.PropsMin 2 ∷ P.PropsMin 3 ∷ P.PropsMax 2 ∷ P.PropsMax 1 ∷ [])
    ≡ true ∷ false ∷ true ∷ false ∷ true ∷ false ∷ []
unfolding is_met
names = refl

-- each name as a string, and no value
names_as_strings : holds (P.NamesIn 1 ∷ Types (Text ∷ []) ∷ []) 0 two_members ≡ true
unfolding is_met
names_as_strings = refl

-- a position may name itself for the parts of a document: arrays of arrays of arrays, and nothing else
abbrev nested : List Position
nested = All (1 ∷ 2 ∷ []) ∷ Types (Array ∷ []) ∷ P.Items [] 0 ∷ []

nested_is_table : is_table nested (1 ∷ 0 ∷ 0 ∷ []) ≡ true
nested_is_table = refl

nested_holds : holds nested 0 (nulls (nulls (nulls [] ∷ []) ∷ nulls [] ∷ [])) ∷ holds nested 0 (nulls (nulls (null ∷ []) ∷ []))
    ∷ [] ≡ true ∷ false ∷ []
unfolding is_met
nested_holds = refl

-- what a table owes of parts and numbers

-- parts are named in the table
part_past_end : is_table (P.Items (0 ∷ []) 1 ∷ []) (0 ∷ []) ≡ false
part_past_end = refl

prefix_past_end : is_table (P.Items (1 ∷ []) 0 ∷ []) (0 ∷ []) ≡ false
prefix_past_end = refl

-- a table of one position, if it is one
abbrev is_alone : Position → Bool
is_alone p = is_table (p ∷ []) (0 ∷ [])

-- lower bounds go from -2^63 to 2^64
least_bounds : map (λ n. is_alone (P.NumMin n))
    (negsuc (2 ^ 63) ∷ negsuc (2 ^ 63 - 1) ∷ pos (2 ^ 64) ∷ pos (2 ^ 64 + 1) ∷ [])
    ≡ false ∷ true ∷ true ∷ false ∷ []
least_bounds = refl

-- upper bounds go from -2^63 - 1 to 2^64 - 1
greatest_bounds : map (λ n. is_alone (P.NumMax n))
    (negsuc (2 ^ 63 + 1) ∷ negsuc (2 ^ 63) ∷ pos (2 ^ 64 - 1) ∷ pos (2 ^ 64) ∷ [])
    ≡ false ∷ true ∷ true ∷ false ∷ []
greatest_bounds = refl

-- 0 divides nothing
no_divisor : is_alone (P.Multiple 0) ∷ is_alone (P.Multiple 1) ∷ [] ≡ false ∷ true ∷ []
no_divisor = refl

-- what is required of names

name_formulas : map (λ f. name_meets (Types (Text ∷ []) ∷ P.LengthMin 2 ∷ []) f (codes "a"))
    (Is (codes "a") ∷ Is (codes "b") ∷ In (Matching letter_a) ∷ In (Named (codes "b")) ∷ Holds 0 ∷ Holds 1 ∷ [])
    ≡ true ∷ false ∷ true ∷ false ∷ true ∷ false ∷ []
unfolding is_met
name_formulas = refl
