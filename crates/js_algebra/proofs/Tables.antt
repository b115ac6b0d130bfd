-- What a table's nodes stand for, place by place.
use Rattle.std.proofs.Common.{◌≡◌, ℕ, zero, suc, ◌<◌, List, [], ◌∷◌, map, get_or, length, true, Bool, arith, ap, sym}
use Rattle.std.proofs.lemmas.Bool.{and_parts}
use Rattle.documents.specs.Tests.{every}
use Rattle.positions.specs.Position.{Position, position_at, names_below, is_table}
use Rattle.position_laws.proofs.Tables.{is_table-below}
use Rattle.js_algebra.specs.View.{node_view}
use Rattle.js_algebra.specs.declared.node.Node.{Node}

-- the position at a place is that of the node there
pub position_at-map : (ns : List Node) (p : ℕ) (n : Node) → p < length ns → n ≡ get_or ns p n
    → position_at (map node_view ns) p ≡ node_view n
position_at-map [] p n l e = absurd (omega (arith, l))
position_at-map (m ∷ ns) zero n l e = ap node_view (sym e)
position_at-map (m ∷ ns) (suc p) n l e = position_at-map ns p n (omega (arith, l)) e

-- what each position passes, the one at a place passes
pub every-position_at : (f : Position → Bool) (T : List Position) (p : ℕ) → p < length T → every f T ≡ true
    → f (position_at T p) ≡ true
every-position_at f [] p l e = absurd (omega (arith, l))
every-position_at f (x ∷ T) zero l e = (and_parts (f x) (every f T) e).0
every-position_at f (x ∷ T) (suc p) l e = every-position_at f T p (omega (arith, l)) (and_parts (f x) (every f T) e).1

-- each position that is named is in the table
pub names_below-position_at : (T : List Position) (ranks : List ℕ) (p : ℕ) → is_table T ranks ≡ true → p < length T
    → names_below (length T) (position_at T p) ≡ true
names_below-position_at T ranks p e l = every-position_at (names_below (length T)) T p l (is_table-below T ranks e)
