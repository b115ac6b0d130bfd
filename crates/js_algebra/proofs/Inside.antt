-- A set with a member in the table has a table with places.
use Rattle.std.proofs.Common.{◌≡◌, ◌<◌, List, length, true, arith}
use Rattle.std.proofs.lemmas.Bool.{ltb-true}
use Rattle.positions.specs.Position.{Position}
use Rattle.goals.specs.Signed.{Signed, position_of}
use Rattle.js_algebra.specs.View.{is_in_table}

-- where a signed position is in the table, the table has a position
pub is_in_table-some : (T : List Position) (x : Signed) → is_in_table T x ≡ true → 0 < length T
is_in_table-some T x h = let l = ltb-true (position_of x) (length T) h in omega (arith, l)
