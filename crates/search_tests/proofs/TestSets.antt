-- A list with one more signed position of the table is in the table.
use Rattle.std.proofs.Common.{◌≡◌, ◌<◌, Bool, true, false, List, [], ◌∷◌, ◌++◌, map, length, refl}
use Rattle.std.proofs.lemmas.Bool.{and_parts, and_from, lt-ltb}
use Rattle.positions.specs.Position.{Position}
use Rattle.js_algebra.specs.View.{with_sign, signed_view, is_in_table, are_in_table}
use Rattle.js_algebra.specs.declared.signed.Signed.{Signed}

is_in : (T : List Position) (x : Signed) → x.pos.0 < length T → is_in_table T (signed_view x) ≡ true
is_in T x l = go x.plus where
  go : (b : Bool) → is_in_table T (with_sign b x.pos.0) ≡ true
  go true = lt-ltb x.pos.0 (length T) l
  go false = lt-ltb x.pos.0 (length T) l

-- a list in the table is in the table with one more signed position of it
pub in_table_more : (T : List Position) (xs : List Signed) (x : Signed) → are_in_table T (map signed_view xs) ≡ true
    → x.pos.0 < length T → are_in_table T (map signed_view (xs ++ x ∷ [])) ≡ true
in_table_more T [] x h l = and_from (is_in_table T (signed_view x)) true (is_in T x l) refl
in_table_more T (y ∷ xs) x h l =
    let (a, b) = and_parts (is_in_table T (signed_view y)) (are_in_table T (map signed_view xs)) h in
    and_from (is_in_table T (signed_view y)) (are_in_table T (map signed_view (xs ++ x ∷ []))) a
    (in_table_more T xs x b l)
