-- What a leaf has left to show.
use Rattle.std.specs.Prelude.{List, [], Bool, true, false}
use Rattle.positions.specs.Position.{Position}
use Rattle.verdicts.specs.Duties.{Duty}
use Rattle.js_check_strings.specs.View as S
use Rattle.js_check_arrays.specs.ArrayDuties as A
use Rattle.js_check_objects.specs.View as O
use Rattle.js_checker.specs.declared.leaf.Leaf.{Leaf}
use Rattle.js_checker.specs.declared.leaf.Leaf.TheVariants as V

abbrev pub leaf_duties : Leaf → List Duty
leaf_duties V.Closed = []
leaf_duties (V.Strings s) = S.duties_of s
leaf_duties (V.Array s) = A.duties_of s
leaf_duties (V.Object s) = O.duties_of s

abbrev pub is_open : Leaf → Bool
is_open V.Closed = false
is_open _ = true

-- the table of a leaf; where it is closed it may be any
abbrev pub leaf_table : List Position → Leaf → List Position
leaf_table T V.Closed = T
leaf_table T (V.Strings s) = S.table_of s
leaf_table T (V.Array s) = A.table_of s
leaf_table T (V.Object s) = O.table_of s
