-- Worked verdicts, each computed from the definitions: certificates that are accepted, and changes of them that are
-- rejected, each by its rule at its line. Rows and what follows them need all characters, and aren't computed.
use Rattle.std.specs.Prelude.{◌≡◌, ℕ, suc, min, List, [], ◌∷◌, ◌++◌, flat_map, cond, Bool, true, false, nat_eq, Ok, Err, pos, refl, codes}
use Rattle.std.specs.Fmt.{digits}
use Rattle.documents.specs.Kind.{Kind, Null, Boolean, Number, Text, Array, Object, all_kinds, same_kind}
use Rattle.positions.specs.Position.{Position, False, All, Types, BoolIs, NumMin, NumMax, Items, CountMin, CountMax, LengthMin, LengthMax, PropsMin, PropsMax}
use Rattle.goals.specs.Signed.{Signed, Plus, Minus}
use Rattle.goals.specs.Goal.{follow}
use Rattle.number_groups.specs.Multiples.{least_below, lcm_of}
use Rattle.number_groups.specs.Outcome.{reached, outcome}
use Rattle.certificate_lines.specs.Line as L
use Rattle.certificate_lines.specs.Line.{Line, Clashes, Cites, Kept, Ends}
use Rattle.certificate_lines.specs.Text.{fits}
use Rattle.certificate_lines.specs.Cut.{cut_from}
use Rattle.verdicts.specs.Rules.{not_a_line, too_long, no_end, out_of_place, no_goal, root_not_listed, other_entry, other_kind, no_choices, no_clash, not_wrong, other_leaf, bounds_meet, truth_left, number_left, no_rows, no_row, wrong_target, no_demand, not_refuted, plan_left}
use Rattle.verdicts.specs.RowLines.{table, row}
use Rattle.verdicts.specs.Verdict.{Verdict, Accepted, Rejected, verdict, verdict_of_cut, verdict_of_bytes}

-- position 0 holds of the documents of one kind of which two other positions hold; position 4 holds of none
leaf_table : Kind → Position → Position → List Position
leaf_table t P Q = All (1 ∷ 2 ∷ 3 ∷ []) ∷ Types (t ∷ []) ∷ P ∷ Q ∷ False ∷ []

header : List Line
header = L.Version ∷ L.Goals 1 ∷ L.Goal (Plus 0 ∷ []) ∷ L.Entry 0 ∷ []

-- each other kind is wrong; at this one these lines show it
trees : Kind → List Line → List Line
trees t ls =
    flat_map (λ u. L.At u ∷ L.Rule (Plus 0) ∷ cond (same_kind u t) ls (L.OfKind (Plus 1) ∷ [])) all_kinds
    ++ L.End ∷ []

-- that no document of the kind has both positions holding
shows : Kind → Position → Position → List Line → Verdict
shows t P Q ls = verdict (leaf_table t P Q) 0 4 (header ++ trees t ls)

-- crossed bounds, at each kind that has bounds

crossed_lengths : shows Text (LengthMin 2) (LengthMax 1) (L.Count ∷ []) ≡ Accepted
unfolding leaf_table header trees shows follow
crossed_lengths = refl

crossed_counts : shows Array (CountMin 2) (CountMax 1) (L.Count ∷ []) ≡ Accepted
unfolding leaf_table header trees shows follow
crossed_counts = refl

crossed_members : shows Object (PropsMin 2) (PropsMax 1) (L.Count ∷ []) ≡ Accepted
unfolding leaf_table header trees shows follow
crossed_members = refl

open_lengths : shows Text (LengthMin 1) (LengthMax 1) (L.Count ∷ []) ≡ Rejected 16 bounds_meet
unfolding leaf_table header trees shows follow
open_lengths = refl

truths_have_no_bounds : shows Boolean (BoolIs true) (BoolIs false) (L.Count ∷ []) ≡ Rejected 10 other_leaf
unfolding leaf_table header trees shows follow
truths_have_no_bounds = refl

-- truth values

no_truth : shows Boolean (BoolIs true) (BoolIs false) (L.NoTruth ∷ []) ≡ Accepted
unfolding leaf_table header trees shows follow
no_truth = refl

one_truth : shows Boolean (BoolIs true) (BoolIs true) (L.NoTruth ∷ []) ≡ Rejected 10 truth_left
unfolding leaf_table header trees shows follow
one_truth = refl

-- numbers

no_number : shows Number (NumMin (pos 3)) (NumMax (pos 2)) (L.NoNumber ∷ []) ≡ Accepted
unfolding leaf_table header trees shows follow outcome
no_number = refl

one_number : shows Number (NumMin (pos 2)) (NumMax (pos 2)) (L.NoNumber ∷ []) ≡ Rejected 13 number_left
unfolding leaf_table header trees shows follow outcome lcm_of least_below reached
one_number = refl

-- lines of other leaves, and rows where there are none

arrays_at_text : shows Text (LengthMin 2) (LengthMax 1) (L.Arrays ∷ []) ≡ Rejected 16 other_leaf
unfolding leaf_table header trees shows follow
arrays_at_text = refl

-- of two rules that the line breaks the lesser one
rows_at_array : shows Array (CountMin 2) (CountMax 1) (L.Strings 0 ∷ []) ≡ Rejected 19 other_leaf
unfolding leaf_table header trees shows follow
rows_at_array = refl

without_rows : shows Text (LengthMin 2) (LengthMax 1) (L.Strings 0 ∷ []) ≡ Rejected 16 no_rows
unfolding leaf_table header trees shows follow
without_rows = refl

without_names : shows Object (PropsMin 2) (PropsMax 1) (L.Objects 0 0 ∷ []) ≡ Rejected 22 no_rows
unfolding leaf_table header trees shows follow
without_names = refl

row_alone : shows Text (LengthMin 2) (LengthMax 1) (L.Row [] ∷ []) ≡ Rejected 16 out_of_place
unfolding leaf_table header trees shows follow
row_alone = refl

-- sets

no_such_clash : shows Text (LengthMin 2) (LengthMax 1) (L.Clash 2 ∷ []) ≡ Rejected 16 no_clash
unfolding leaf_table header trees shows follow
no_such_clash = refl

right_kind : shows Text (LengthMin 2) (LengthMax 1) (L.OfKind (Plus 1) ∷ []) ≡ Rejected 16 not_wrong
unfolding leaf_table header trees shows follow
right_kind = refl

literal_rule : shows Text (LengthMin 2) (LengthMax 1) (L.Rule (Plus 2) ∷ []) ≡ Rejected 16 no_choices
unfolding leaf_table header trees shows follow
literal_rule = refl

rule_of_none : shows Text (LengthMin 2) (LengthMax 1) (L.Rule (Minus 0) ∷ []) ≡ Rejected 16 no_choices
unfolding leaf_table header trees shows follow
rule_of_none = refl

-- a set may be stated again
twice : shows Text (LengthMin 2) (LengthMax 1) (L.Rule (Plus 0) ∷ L.Count ∷ []) ≡ Accepted
unfolding leaf_table header trees shows follow
twice = refl

-- rows, over numbers that are distinguished up to 2, each leading to the next one and to itself

alike : ℕ → ℕ → Bool
alike m n = nat_eq (min m 2) (min n 2)

goes_to : ℕ → List ℕ
goes_to n = suc n ∷ n ∷ []

-- of three rows the first, and with each of the others
first_row : row alike goes_to 0 3 (table (0 ∷ []) []) (1 ∷ 0 ∷ []) ≡ Ok (table (0 ∷ 1 ∷ []) ((1 ∷ 0 ∷ []) ∷ []))
unfolding alike goes_to
first_row = refl

second_row : row alike goes_to 0 3 (table (0 ∷ 1 ∷ []) ((1 ∷ 0 ∷ []) ∷ [])) (2 ∷ 1 ∷ [])
    ≡ Ok (table (0 ∷ 1 ∷ 2 ∷ []) ((1 ∷ 0 ∷ []) ∷ (2 ∷ 1 ∷ []) ∷ []))
unfolding alike goes_to
second_row = refl

-- a further row may have a state that another one has
state_twice : row alike goes_to 0 3 (table (0 ∷ []) []) (1 ∷ 2 ∷ [])
    ≡ Ok (table (0 ∷ 1 ∷ 0 ∷ []) ((1 ∷ 2 ∷ []) ∷ []))
unfolding alike goes_to
state_twice = refl

other_state : row alike goes_to 0 3 (table (0 ∷ []) []) (0 ∷ 0 ∷ []) ≡ Err wrong_target
unfolding alike goes_to
other_state = refl

left_out : row alike goes_to 0 3 (table (0 ∷ []) []) (2 ∷ 0 ∷ []) ≡ Err wrong_target
unfolding alike goes_to
left_out = refl

-- the next number, but there are to be so many rows
past_the_count : row alike goes_to 0 1 (table (0 ∷ []) []) (1 ∷ 0 ∷ []) ≡ Err wrong_target
unfolding alike goes_to
past_the_count = refl

too_few_targets : row alike goes_to 0 3 (table (0 ∷ []) []) (7 ∷ []) ≡ Err no_row
unfolding alike goes_to
too_few_targets = refl

without_state : row alike goes_to 0 3 (table (0 ∷ []) ((0 ∷ 0 ∷ []) ∷ [])) (1 ∷ 0 ∷ []) ≡ Err no_row
unfolding alike goes_to
without_state = refl

-- goals, entries and kinds, over strings of crossed lengths

strings : List Line → Verdict
strings ls = verdict (leaf_table Text (LengthMin 2) (LengthMax 1)) 0 4 ls

good_trees : List Line
good_trees = trees Text (L.Count ∷ [])

no_version : strings (L.Goals 1 ∷ []) ≡ Rejected 1 out_of_place
unfolding leaf_table strings follow
no_version = refl

other_number : strings (L.Version ∷ L.Goals 1 ∷ L.Goal (Plus 0 ∷ []) ∷ L.Entry 1 ∷ good_trees) ≡ Rejected 4 other_entry
unfolding leaf_table trees strings good_trees follow
other_number = refl

other_first : strings (header ++ L.At Boolean ∷ []) ≡ Rejected 5 other_kind
unfolding leaf_table header strings follow
other_first = refl

not_in_table : strings (L.Version ∷ L.Goals 1 ∷ L.Goal (Plus 5 ∷ []) ∷ []) ≡ Rejected 3 no_goal
unfolding leaf_table strings follow
not_in_table = refl

-- a list that clashes forms no goal
clashing : strings (L.Version ∷ L.Goals 1 ∷ L.Goal (Plus 4 ∷ []) ∷ []) ≡ Rejected 3 no_goal
unfolding leaf_table strings follow
clashing = refl

unsorted : strings (L.Version ∷ L.Goals 1 ∷ L.Goal (Plus 1 ∷ Plus 0 ∷ []) ∷ []) ≡ Rejected 3 no_goal
unfolding leaf_table strings follow
unsorted = refl

no_goals : strings (L.Version ∷ L.Goals 0 ∷ L.End ∷ []) ≡ Rejected 2 root_not_listed
unfolding leaf_table strings follow
no_goals = refl

-- reported at the last goal
not_the_root : strings (L.Version ∷ L.Goals 2 ∷ L.Goal (Plus 1 ∷ []) ∷ L.Goal (Plus 2 ∷ []) ∷ [])
    ≡ Rejected 4 root_not_listed
unfolding leaf_table strings follow
not_the_root = refl

cut_short : strings header ≡ Rejected 5 no_end
unfolding leaf_table header strings follow
cut_short = refl

early_end : strings (header ++ L.End ∷ []) ≡ Rejected 5 out_of_place
unfolding leaf_table header strings follow
early_end = refl

behind_the_end : strings (header ++ good_trees ++ L.End ∷ []) ≡ Rejected 24 out_of_place
unfolding leaf_table header trees strings good_trees follow
behind_the_end = refl

-- arrays without elements that can be met

-- one element at least, none of which can be met
no_elements : List Line → Verdict
no_elements ls = shows Array (CountMin 1) (Items [] 4) (L.Arrays ∷ ls)

filler_clashes : no_elements (L.Short (Ends Clashes ∷ []) ∷ []) ≡ Accepted
unfolding leaf_table header trees shows no_elements follow
filler_clashes = refl

filler_kept : no_elements (L.Short (Kept ∷ []) ∷ []) ≡ Rejected 20 plan_left
unfolding leaf_table header trees shows no_elements follow
filler_kept = refl

no_entry : no_elements (L.Short [] ∷ []) ≡ Rejected 20 plan_left
unfolding leaf_table header trees shows no_elements follow
no_entry = refl

cites_none : no_elements (L.Short (Ends (Cites 0) ∷ []) ∷ []) ≡ Rejected 20 plan_left
unfolding leaf_table header trees shows no_elements follow
cites_none = refl

not_over : no_elements (L.Count ∷ []) ≡ Rejected 20 plan_left
unfolding leaf_table header trees shows no_elements follow
not_over = refl

nothing_to_split : no_elements (L.Split ∷ []) ≡ Rejected 20 no_demand
unfolding leaf_table header trees shows no_elements follow
nothing_to_split = refl

-- the first element has a place of its own
no_first : List Line → Verdict
no_first ls = shows Array (CountMin 1) (Items (4 ∷ []) 4) (L.Arrays ∷ ls)

first_clashes : no_first (L.OfIndex 0 Clashes ∷ []) ≡ Accepted
unfolding leaf_table header trees shows no_first follow
first_clashes = refl

past_the_first : no_first (L.OfIndex 1 Clashes ∷ []) ≡ Rejected 20 not_refuted
unfolding leaf_table header trees shows no_first follow
past_the_first = refl

no_tail : no_first (L.OfTail 0 Clashes ∷ []) ≡ Rejected 20 not_refuted
unfolding leaf_table header trees shows no_first follow
no_tail = refl

-- nothing is needed but what has a place
nothing_short : no_first (L.Short (Ends Clashes ∷ []) ∷ []) ≡ Rejected 20 plan_left
unfolding leaf_table header trees shows no_first follow
nothing_short = refl

-- 0: arrays of strings, beside a position that nothing names; 5: arrays of strings

array_table : List Position
array_table =
    All (2 ∷ 3 ∷ []) ∷ Types (Text ∷ []) ∷ Types (Array ∷ []) ∷ Items [] 1 ∷ False
    ∷ All (7 ∷ 8 ∷ []) ∷ Types (Text ∷ []) ∷ Types (Array ∷ []) ∷ Items [] 6 ∷ []

at_other : Kind → Signed → List Line
at_other t x = L.At t ∷ L.OfKind x ∷ []

under_rule : Kind → List Line
under_rule t = L.At t ∷ L.Rule (Plus 0) ∷ L.OfKind (Plus 2) ∷ []

-- two goals: of arrays, and of their elements
two_goals : List Line
two_goals = L.Version ∷ L.Goals 2 ∷ L.Goal (Plus 0 ∷ Minus 5 ∷ []) ∷ L.Goal (Plus 1 ∷ Minus 6 ∷ []) ∷ []

at_arrays : List Line
at_arrays = L.At Array ∷ L.Rule (Plus 0) ∷ L.Rule (Minus 5) ∷ L.OfKind (Minus 7) ∷ L.Arrays ∷ []

second_entry : List Line
second_entry =
    L.Entry 1 ∷ (at_other Null (Plus 1) ++ at_other Boolean (Plus 1) ++ at_other Number (Plus 1)
    ++ at_other Text (Minus 6) ++ at_other Array (Plus 1) ++ at_other Object (Plus 1) ++ L.End ∷ [])

-- with these lines for the plan of arrays, which begins at line 23: some element isn't a string
array_lines : List Line → List Line
array_lines ls =
    two_goals ++ L.Entry 0 ∷ (under_rule Null ++ under_rule Boolean ++ under_rule Number ++ under_rule Text
    ++ at_arrays ++ ls ++ under_rule Object ++ second_entry)

arrays : List Line → Verdict
arrays ls = verdict array_table 0 5 (array_lines ls)

tail_cites : arrays (L.Split ∷ L.OfTail 0 (Cites 1) ∷ []) ≡ Accepted
unfolding array_table at_other under_rule two_goals at_arrays second_entry array_lines arrays follow
tail_cites = refl

-- the element's goal doesn't contain that goal
cites_another : arrays (L.Split ∷ L.OfTail 0 (Cites 0) ∷ []) ≡ Rejected 24 not_refuted
unfolding array_table at_other under_rule two_goals at_arrays second_entry array_lines arrays follow
cites_another = refl

cites_unlisted : arrays (L.Split ∷ L.OfTail 0 (Cites 2) ∷ []) ≡ Rejected 24 not_refuted
unfolding array_table at_other under_rule two_goals at_arrays second_entry array_lines arrays follow
cites_unlisted = refl

no_index : arrays (L.Split ∷ L.OfIndex 0 (Cites 1) ∷ []) ≡ Rejected 24 not_refuted
unfolding array_table at_other under_rule two_goals at_arrays second_entry array_lines arrays follow
no_index = refl

-- members are of objects
no_member : arrays (L.Split ∷ L.OfMember 0 (Cites 1) ∷ []) ≡ Rejected 24 out_of_place
unfolding array_table at_other under_rule two_goals at_arrays second_entry array_lines arrays follow
no_member = refl

demand_left : arrays (L.Short (Ends (Cites 1) ∷ []) ∷ []) ≡ Rejected 23 plan_left
unfolding array_table at_other under_rule two_goals at_arrays second_entry array_lines arrays follow
demand_left = refl

second_split : arrays (L.Split ∷ L.Split ∷ []) ≡ Rejected 24 no_demand
unfolding array_table at_other under_rule two_goals at_arrays second_entry array_lines arrays follow
second_split = refl

-- bytes; the root list of the same position twice clashes, so that nothing is left to show

of_bytes : List ℕ → Verdict
of_bytes bytes = verdict_of_bytes array_table 1 1 bytes

three_lines : of_bytes (codes "certificate 1\ngoals 0\nend\n") ≡ Accepted
unfolding array_table of_bytes follow digits
three_lines = refl

no_line : of_bytes (codes "certificate 1\ngoals  0\nend\n") ≡ Rejected 2 not_a_line
unfolding array_table of_bytes follow digits
no_line = refl

-- the end of the bytes doesn't end a line
no_last_feed : of_bytes (codes "certificate 1\ngoals 0\nend") ≡ Rejected 3 no_end
unfolding array_table of_bytes follow digits
no_last_feed = refl

no_bytes : of_bytes [] ≡ Rejected 1 no_end
unfolding array_table of_bytes
no_bytes = refl

line_behind : of_bytes (codes "certificate 1\ngoals 0\nend\nend\n") ≡ Rejected 4 out_of_place
unfolding array_table of_bytes follow digits
line_behind = refl

part_behind : of_bytes (codes "certificate 1\ngoals 0\nend\nen") ≡ Rejected 4 out_of_place
unfolding array_table of_bytes follow digits
part_behind = refl

-- a whole line that isn't in the grammar is reported as such, behind `end` too
no_line_behind : of_bytes (codes "certificate 1\ngoals 0\nend\nen\n") ≡ Rejected 4 not_a_line
unfolding array_table of_bytes follow digits
no_line_behind = refl

-- the line before a faulty one is reported first
earlier_line : of_bytes (codes "certificate 1\nend\nen\n") ≡ Rejected 2 out_of_place
unfolding array_table of_bytes follow digits
earlier_line = refl

-- a certificate of strings as it is written
strings_text : List ℕ
strings_text =
    codes "certificate 1\ngoals 1\ngoal +0\nentry 0\nat null\nrule +0\nkind +1\nat boolean\nrule +0\nkind +1\n"
    ++ codes "at number\nrule +0\nkind +1\nat string\nrule +0\ncount\nat array\nrule +0\nkind +1\n"
    ++ codes "at object\nrule +0\nkind +1\nend\n"

written : verdict_of_bytes (leaf_table Text (LengthMin 2) (LengthMax 1)) 0 4 strings_text ≡ Accepted
unfolding leaf_table strings_text follow digits
written = refl

-- whatever follows a line that is too long
long_line : (T : List Position) (a b : ℕ) (p : List ℕ) (ps : List (List ℕ)) → fits p ≡ false
    → verdict_of_cut T a b (cut_from 1 (p ∷ ps)) ≡ Rejected 1 too_long
long_line T a b p [] e = rw e refl
long_line T a b p (q ∷ ps) e = rw e refl
