-- The rules that a certificate can break, by the numbers that are printed. Where a line breaks several, the least is
-- reported; so what a line is tested for is in the order of these numbers.
use Rattle.std.specs.Prelude.{ℕ}

-- a whole line that isn't too long and isn't in the grammar
abbrev pub not_a_line : ℕ
not_a_line = 1

-- more bytes than the longest line has
abbrev pub too_long : ℕ
too_long = 2

-- the bytes end before the line `end`
abbrev pub no_end : ℕ
no_end = 3

-- a line that isn't allowed here, or anything behind `end`
abbrev pub out_of_place : ℕ
out_of_place = 4

-- a position that isn't in the table, or a goal that isn't the one formed from its list
abbrev pub no_goal : ℕ
no_goal = 5

-- the root neither clashes nor contains a listed goal; reported at the last goal line, or where no goals are to follow
abbrev pub root_not_listed : ℕ
root_not_listed = 6

-- another goal's number than the next
abbrev pub other_entry : ℕ
other_entry = 7

-- another kind than the next
abbrev pub other_kind : ℕ
other_kind = 8

-- a signed position that isn't in the set, or a literal, which has no choices
abbrev pub no_choices : ℕ
no_choices = 9

-- the set hasn't both signs of the position
abbrev pub no_clash : ℕ
no_clash = 10

-- a signed position that isn't in the set, or isn't wrong at the kind
abbrev pub not_wrong : ℕ
not_wrong = 11

-- a line of a leaf of another kind
abbrev pub other_leaf : ℕ
other_leaf = 12

-- the bounds aren't crossed
abbrev pub bounds_meet : ℕ
bounds_meet = 13

-- a truth value is left
abbrev pub truth_left : ℕ
truth_left = 14

-- a number is left, or a limit is passed in deciding that none is
abbrev pub number_left : ℕ
number_left = 15

-- no rows, or atoms with too many positions or classes
abbrev pub no_rows : ℕ
no_rows = 16

-- a row without a state, or another number of targets than there are classes
abbrev pub no_row : ℕ
no_row = 17

-- a target that isn't the row to which the row leads
abbrev pub wrong_target : ℕ
wrong_target = 18

-- a least length above 0 for the first row or more than one above that of a row which leads there, or another number of
-- them than there are rows
abbrev pub wrong_least : ℕ
wrong_least = 19

-- a wanted row whose least length is within the upper bound
abbrev pub wanted_left : ℕ
wanted_left = 20

-- a bound of no cell, out of order, too small, or with another number of labels than there are rows
abbrev pub wrong_bound : ℕ
wrong_bound = 21

-- lines of plans: their numbers are stated in `frames`

-- no demand is left
abbrev pub no_demand : ℕ
no_demand = 22

-- nothing is placed there, or its list neither clashes nor forms a goal that contains the listed one
abbrev pub not_refuted : ℕ
not_refuted = 23

-- the plan hasn't too many; or it has demands left, or fillers with room enough, or not an entry for each filler
abbrev pub plan_left : ℕ
plan_left = 24
