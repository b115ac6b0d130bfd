-- The expander that the tests have: it answers a goal by the first of its rows that has it, and any other by nothing.
use Rattle.std.specs.Prelude.{◌≡◌, List, [], ◌∷◌, ◌++◌, map, Bool, true, false, cond, Option, None, refl}
use Rattle.std.proofs.lemmas.Bool.{and_from}
use Rattle.documents.specs.Kind as K
use Rattle.documents.specs.Tests.{every}
use Rattle.list_laws.proofs.Lists.{every_from}
use Rattle.goals.specs.Signed.{Signed}
use Rattle.alternatives.specs.Alternative.{Index, Null, Elements, Alternative, named}
use Rattle.alternatives.specs.Limit.{LimitKind}
use Rattle.alternatives.specs.Expansion.{Expansion, expansion_of}
use Rattle.js_algebra.specs.Equality.{same_goal}

-- a goal, whether null meets it, the goals of which an array of one element meets it, and its hole
pub record Row : Type 0 where
  pub goal : List Signed
  pub has_null : Bool
  pub elements : List (List Signed)
  pub hole : Option LimitKind

abbrev pub row : List Signed → Bool → List (List Signed) → Option LimitKind → Row
row g b gs o = record { goal = g; has_null = b; elements = gs; hole = o }

abbrev pub null : Alternative
null = record { kind = K.Null; branch = 0; shape = Null; members = []; need = 0; fillers = [] }

abbrev pub array_of : List Signed → Alternative
array_of g = record {
  kind = K.Array;
  branch = 0;
  shape = Elements;
  members = record { slot = Index 0; goal = g } ∷ [];
  need = 0;
  fillers = [];
}

abbrev pub alternatives_of : Bool → List (List Signed) → List Alternative
alternatives_of b gs = cond b (null ∷ []) [] ++ map array_of gs

abbrev pub answer : Row → Expansion
answer r = expansion_of (alternatives_of r.has_null r.elements) r.hole

abbrev pub answer_to : List Row → List Signed → Expansion
answer_to [] g = expansion_of [] None
answer_to (r ∷ rs) g = cond (same_goal g r.goal) (answer r) (answer_to rs g)

-- what holds of null and of each array holds of all alternatives of an answer
module _ (P : Alternative → Bool) (of_null : P null ≡ true) (of_array : (g : List Signed) → P (array_of g) ≡ true) where
  of_arrays : (gs : List (List Signed)) → every P (map array_of gs) ≡ true
  of_arrays [] = refl
  of_arrays (g ∷ gs) = and_from (P (array_of g)) (every P (map array_of gs)) (of_array g) (of_arrays gs)

  of_either : (b : Bool) (gs : List (List Signed)) → every P (alternatives_of b gs) ≡ true
  of_either true gs = and_from (P null) (every P (map array_of gs)) of_null (of_arrays gs)
  of_either false gs = of_arrays gs

  pub of_all : (rs : List Row) (g : List Signed) → every P (answer_to rs g).alternatives ≡ true
  of_all [] g = refl
  of_all (r ∷ rs) g = go (same_goal g r.goal) (of_all rs g) where
    go : (b : Bool) → every P (answer_to rs g).alternatives ≡ true
        → every P (cond b (answer r) (answer_to rs g)).alternatives ≡ true
    go true h = of_either r.has_null r.elements
    go false h = h

-- the expander of rows takes each goal
pub takes_all : (rs : List Row) (g : List Signed) → every (λ h. true) (named (answer_to rs g).alternatives) ≡ true
takes_all rs g = every_from (λ h. true) (named (answer_to rs g).alternatives) (λ h i. refl)
