-- The kinds, positions and signed positions that the program's values stand for.
use Rattle.std.specs.Prelude.{◌≡◌, ℕ, ◌<◌, ◌^◌, List, map, length, Bool, true, false, nat_lt}
use Rattle.documents.specs.Tests.{every}
use Rattle.documents.specs.Kind as K
use Rattle.positions.specs.Position as P
use Rattle.positions.specs.NameFormula as F
use Rattle.goals.specs.Signed as S
use Rattle.js_algebra.specs.Ends.{AreEnds}
use Rattle.js_pattern.specs.View.{view}
use Rattle.js_algebra.specs.declared.node.JsonKind.{JsonKind}
use Rattle.js_algebra.specs.declared.node.JsonKind.TheVariants as V
use Rattle.js_algebra.specs.declared.node.Pos.{Pos}
use Rattle.js_algebra.specs.declared.node.Node.{Node}
use Rattle.js_algebra.specs.declared.node.Node.TheVariants as N
use Rattle.js_algebra.specs.declared.names.Pattern.{Pattern}
use Rattle.js_algebra.specs.declared.names.NameSet.{NameSet}
use Rattle.js_algebra.specs.declared.names.NameSet.TheVariants as E
use Rattle.js_algebra.specs.declared.names.NameFormula.{NameFormula}
use Rattle.js_algebra.specs.declared.names.NameFormula.TheVariants as A
use Rattle.js_algebra.specs.declared.signed.Signed.{Signed}

abbrev pub kind_view : JsonKind → K.Kind
kind_view V.Null = K.Null
kind_view V.Boolean = K.Boolean
kind_view V.Number = K.Number
kind_view V.Text = K.Text
kind_view V.Array = K.Array
kind_view V.Object = K.Object

-- the places of positions
abbrev pub places : List Pos → List ℕ
places ps = map (λ p. p.0) ps

abbrev pub pattern_view : Pattern → P.Pattern
pattern_view r = record { source = r.source; tree = view r.re }

abbrev pub name_set_view : NameSet → P.NameSet
name_set_view (E.Named n) = P.Named n
name_set_view (E.Matching r) = P.Matching (pattern_view r)
name_set_view (E.Others ns rs) = P.Others ns (map pattern_view rs)

abbrev pub formula_view : NameFormula → F.NameFormula
formula_view (A.Is n) = F.Is n
formula_view (A.In s) = F.In (name_set_view s)
formula_view (A.Holds p) = F.Holds p.0

abbrev pub node_view : Node → P.Position
node_view N.True = P.True
node_view N.False = P.False
node_view (N.Same p) = P.Same p.0
node_view (N.Not p) = P.Not p.0
node_view (N.All ps) = P.All (places ps)
node_view (N.Any ps) = P.Any (places ps)
node_view (N.One ps) = P.One (places ps)
node_view (N.Depends h p) = P.Depends h.0 p.0
node_view (N.Types ks) = P.Types (map kind_view ks)
node_view (N.BoolIs b) = P.BoolIs b
node_view (N.NumMin n) = P.NumMin n
node_view (N.NumMax n) = P.NumMax n
node_view (N.Multiple m) = P.Multiple m
node_view (N.NumIn ns) = P.NumIn ns
node_view (N.Words ws) = P.Words ws
node_view (N.Match r) = P.Match (pattern_view r)
node_view (N.LengthMin n) = P.LengthMin n
node_view (N.LengthMax n) = P.LengthMax n
node_view (N.Items ps r) = P.Items (places ps) r.0
node_view (N.Contains p) = P.Contains p.0
node_view (N.CountMin n) = P.CountMin n
node_view (N.CountMax n) = P.CountMax n
node_view (N.MembersOf s p) = P.MembersOf (name_set_view s) p.0
node_view (N.Has n) = P.Has n
node_view (N.PropsMin n) = P.PropsMin n
node_view (N.PropsMax n) = P.PropsMax n
node_view (N.NamesIn p) = P.NamesIn p.0

abbrev pub with_sign : Bool → ℕ → S.Signed
with_sign true p = S.Plus p
with_sign false p = S.Minus p

abbrev pub signed_view : Signed → S.Signed
signed_view x = with_sign x.plus x.pos.0

-- the position is in the table
abbrev pub is_in_table : List P.Position → S.Signed → Bool
is_in_table T x = nat_lt (S.position_of x) (length T)

-- each of the positions is in the table
abbrev pub are_in_table : List P.Position → List S.Signed → Bool
are_in_table T xs = every (is_in_table T) xs

-- what a table of the program stands for: its positions with their ranks
pub record Table : Type 0 where
  pub positions : List P.Position
  pub ranks : List ℕ

-- a table has fewer positions than a place can number, and the ends of its references
pub record IsCore (positions : List P.Position) (ranks : List ℕ) (ends : List S.Signed) : Type 0 where
  pub table : P.is_table positions ranks ≡ true
  pub small : length positions < 2 ^ 32
  pub ended : AreEnds positions ends
