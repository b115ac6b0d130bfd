-- Worked examples of goals, choices and trees, each computed from the definitions.
use Rattle.std.specs.Prelude.{◌≡◌, List, [], ◌∷◌, map, true, false, pos, refl, Some, None}
use Rattle.documents.specs.Kind.{Null, Boolean, Number, Text, Array, Object}
use Rattle.positions.specs.Position as P
use Rattle.positions.specs.Position.{Position, True, False, Same, Not, All, Any, One, Depends, Types}
use Rattle.goals.specs.Signed.{Plus, Minus}
use Rattle.goals.specs.Goal.{form, follow, contains}
use Rattle.goals.specs.Choices.{choices, is_wrong}
use Rattle.goals.specs.Tree.{Clash, Wrong, Rule, Saturated, steps, ends, branches, next}

-- a table with each kind of position; positions 11 to 13 are references, one to the next
abbrev table : List Position
table =
    True  -- 0
    ∷ False  -- 1
    ∷ Types (Text ∷ [])  -- 2
    ∷ Not 2  -- 3
    ∷ Not 3  -- 4
    ∷ Any (2 ∷ 3 ∷ [])  -- 5
    ∷ All (2 ∷ 4 ∷ [])  -- 6
    ∷ All []  -- 7
    ∷ Any []  -- 8
    ∷ Types []  -- 9
    ∷ Any (1 ∷ 2 ∷ [])  -- 10
    ∷ Not 0  -- 11
    ∷ Not 11  -- 12
    ∷ Not 12  -- 13
    ∷ []

-- a list with a false position clashes, so it forms no goal
false_clashes : form table (Plus 1 ∷ Plus 2 ∷ []) ≡ None
unfolding follow
false_clashes = refl

-- what every document meets is dropped
always_dropped : form table (Plus 0 ∷ Minus 1 ∷ []) ≡ Some []
unfolding follow
always_dropped = refl

-- a reference stands for the other position with the other sign
reference_followed : form table (Plus 3 ∷ []) ≡ Some (Minus 2 ∷ [])
unfolding follow
reference_followed = refl

-- references are followed to their end: here to what every document meets
references_dropped : form table (Plus 2 ∷ Minus 13 ∷ []) ≡ Some (Plus 2 ∷ [])
unfolding follow
references_dropped = refl

-- with the other sign the same references lead to what no document meets
references_clash : form table (Plus 2 ∷ Plus 13 ∷ []) ≡ None
unfolding follow
references_clash = refl

-- a goal is sorted, and each signed position is in it once
sorted_once : form table (Minus 5 ∷ Plus 4 ∷ Plus 2 ∷ Minus 3 ∷ Plus 2 ∷ []) ≡ Some (Plus 2 ∷ Minus 5 ∷ [])
unfolding follow
sorted_once = refl

-- a position with both signs clashes, also where they are found by following
both_signs : form table (Plus 2 ∷ Plus 3 ∷ []) ≡ None
unfolding follow
both_signs = refl

-- all or any of nothing is kept: only true and false themselves are dropped or clash
of_nothing_kept : form table (Plus 7 ∷ Plus 8 ∷ []) ≡ Some (Plus 7 ∷ Plus 8 ∷ [])
unfolding follow
of_nothing_kept = refl

-- a position past the end is false
past_end_clashes : form table (Plus 99 ∷ []) ≡ None
unfolding follow
past_end_clashes = refl

-- a goal contains another with fewer signed positions
contains_fewer : contains (Plus 1 ∷ Minus 2 ∷ []) (Minus 2 ∷ []) ≡ true
contains_fewer = refl

-- but not the same position with the other sign
contains_not_opposite : contains (Minus 2 ∷ []) (Plus 2 ∷ []) ≡ false
contains_not_opposite = refl

-- where all are to hold there is one choice, of all of them
choices_all : choices table Null (Plus 6) ≡ Some ((Plus 2 ∷ Plus 4 ∷ []) ∷ [])
choices_all = refl

-- where not all are to hold there is a choice for each
choices_not_all : choices table Null (Minus 6) ≡ Some ((Minus 2 ∷ []) ∷ (Minus 4 ∷ []) ∷ [])
choices_not_all = refl

-- a literal is no rule, so it has no list of choices
choices_literal : choices table Null (Plus 2) ≡ None
choices_literal = refl

-- any of nothing is a rule with an empty list of choices
choices_of_nothing : choices table Null (Plus 8) ≡ Some []
choices_of_nothing = refl

-- a position with both signs comes before a wrong literal, also before a lesser one
clash_before_wrong : next table Null (Plus 2 ∷ Plus 6 ∷ Minus 6 ∷ []) ≡ Clash 6
clash_before_wrong = refl

-- a wrong literal comes before a rule
wrong_before_rule : next table Null (Plus 5 ∷ Plus 9 ∷ []) ≡ Wrong (Plus 9)
wrong_before_rule = refl

-- the least signed position of which no choice is in the set is the next rule: +5 is met by +2
least_unmet_rule : next table Text (Plus 2 ∷ Plus 5 ∷ Minus 10 ∷ [])
    ≡ Rule (Minus 10) ((Minus 1 ∷ Minus 2 ∷ []) ∷ [])
least_unmet_rule = refl

-- a set with nothing left to choose is saturated; the one choice of all of nothing is in every set
saturated : steps table Null (Plus 7 ∷ Minus 8 ∷ []) ≡ Saturated (Plus 7 ∷ Minus 8 ∷ []) ∷ []
unfolding steps
saturated = refl

-- a rule without choices has no tree below it
rule_without_choices : steps table Null (Plus 8 ∷ []) ≡ Rule (Plus 8) [] ∷ []
unfolding steps
rule_without_choices = refl

-- a rule without choices counts as an end
rule_without_choices_ends : ends (steps table Null (Plus 8 ∷ [])) ≡ 1
unfolding steps
rule_without_choices_ends = refl

-- the steps are in pre-order, the tree of the first choice before that of the second
pre_order : steps table Text (Plus 10 ∷ [])
    ≡ Rule (Plus 10) ((Plus 1 ∷ []) ∷ (Plus 2 ∷ []) ∷ [])
    ∷ Rule (Plus 1) []
    ∷ Saturated (Plus 2 ∷ Plus 10 ∷ []) ∷ []
unfolding steps
pre_order = refl

-- the branches are the sets of the saturated ends alone
branches_saturated : branches (steps table Text (Plus 10 ∷ [])) ≡ (Plus 2 ∷ Plus 10 ∷ []) ∷ []
unfolding steps
branches_saturated = refl

-- no document is neither a string nor no string: the tree closes at +2 and -2
closed_by_clash : steps table Null (Minus 5 ∷ [])
    ≡ Rule (Minus 5) ((Minus 2 ∷ Minus 3 ∷ []) ∷ []) ∷ Rule (Minus 3) ((Plus 2 ∷ []) ∷ []) ∷ Clash 2 ∷ []
unfolding steps
closed_by_clash = refl

-- all of two choices of two
abbrev twofold : List Position
twofold = All (1 ∷ 2 ∷ []) ∷ Any (3 ∷ 4 ∷ []) ∷ Any (5 ∷ 6 ∷ []) ∷ True ∷ True ∷ True ∷ True ∷ []

-- each end of the first choice has the ends of the second below it
ends_multiply : ends (steps twofold Null (Plus 0 ∷ [])) ≡ 4
unfolding steps
ends_multiply = refl

-- further kinds of position

abbrev wide : List Position
wide =
    Same 2  -- 0
    ∷ Not 0  -- 1
    ∷ P.NumMin (pos 1)  -- 2
    ∷ One (2 ∷ 4 ∷ 5 ∷ [])  -- 3
    ∷ P.Has []  -- 4
    ∷ P.CountMin 1  -- 5
    ∷ Depends 4 5  -- 6
    ∷ One []  -- 7
    ∷ []

-- a reference to the same position keeps the sign, and references of both kinds are followed to the end
same_followed : form wide (Plus 0 ∷ Minus 4 ∷ []) ≡ Some (Plus 2 ∷ Minus 4 ∷ [])
unfolding follow
same_followed = refl

opposite_of_same : form wide (Plus 1 ∷ []) ≡ Some (Minus 2 ∷ [])
unfolding follow
opposite_of_same = refl

-- followed to one position with both signs
same_clashes : form wide (Plus 0 ∷ Plus 1 ∷ []) ≡ None
unfolding follow
same_clashes = refl

-- a set may hold a reference, which then has one choice
choices_same : choices wide Null (Minus 0) ≡ Some ((Minus 2 ∷ []) ∷ [])
choices_same = refl

-- exactly one of three: which one it is
choices_one : choices wide Null (Plus 3)
    ≡ Some (
    (Plus 2 ∷ Minus 4 ∷ Minus 5 ∷ []) ∷ (Minus 2 ∷ Plus 4 ∷ Minus 5 ∷ []) ∷ (Minus 2 ∷ Minus 4 ∷ Plus 5 ∷ []) ∷ []
    )
choices_one = refl

-- and not exactly one: none of them, or two
choices_not_one : choices wide Null (Minus 3)
    ≡ Some (
    (Minus 2 ∷ Minus 4 ∷ Minus 5 ∷ []) ∷ (Plus 2 ∷ Plus 4 ∷ []) ∷ (Plus 2 ∷ Plus 5 ∷ []) ∷ (Plus 4 ∷ Plus 5 ∷ []) ∷ []
    )
choices_not_one = refl

-- none of nothing is what isn't exactly one of it
choices_one_of_nothing : choices wide Null (Plus 7) ∷ choices wide Null (Minus 7) ∷ [] ≡ Some [] ∷ Some ([] ∷ []) ∷ []
choices_one_of_nothing = refl

-- a dependency has choices at objects
choices_depends : choices wide Object (Plus 6) ∷ choices wide Object (Minus 6) ∷ []
    ≡ Some ((Minus 4 ∷ []) ∷ (Plus 5 ∷ []) ∷ []) ∷ Some ((Plus 4 ∷ Minus 5 ∷ []) ∷ []) ∷ []
choices_depends = refl

-- other documents have nothing to choose, and can't fail it
choices_depends_elsewhere : choices wide Array (Plus 6) ∷ choices wide Array (Minus 6) ∷ []
    ≡ Some ([] ∷ []) ∷ Some [] ∷ []
choices_depends_elsewhere = refl

-- a typed position holds of other kinds: only its failing is wrong there
typed_wrong : map (λ t. is_wrong wide t (Minus 2)) (Null ∷ Boolean ∷ Number ∷ Text ∷ Array ∷ Object ∷ [])
    ≡ true ∷ true ∷ false ∷ true ∷ true ∷ true ∷ []
typed_wrong = refl

typed_not_wrong : map (λ t. is_wrong wide t (Plus 2)) (Null ∷ Boolean ∷ Number ∷ Text ∷ Array ∷ Object ∷ [])
    ≡ false ∷ false ∷ false ∷ false ∷ false ∷ false ∷ []
typed_not_wrong = refl

-- of a number the positions that speak of arrays and objects hold, so never exactly one of the three
one_at_number : branches (steps wide Number (Plus 3 ∷ [])) ≡ []
unfolding steps
one_at_number = refl

-- of an array one of them may fail: any two of the three may be those that hold
not_one_at_array : branches (steps wide Array (Minus 3 ∷ []))
    ≡ (Plus 2 ∷ Minus 3 ∷ Plus 4 ∷ []) ∷ (Plus 2 ∷ Minus 3 ∷ Plus 5 ∷ []) ∷ (Minus 3 ∷ Plus 4 ∷ Plus 5 ∷ []) ∷ []
unfolding steps
not_one_at_array = refl
