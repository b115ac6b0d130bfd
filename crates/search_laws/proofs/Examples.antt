-- A goal that wants an array with a null in it, computed: its expansion, its explored goals and its rounds.
use Rattle.std.proofs.Common.{◌≡◌, ℕ, true, false, List, [], ◌∷◌, Some, None, Ok, Err, refl}
use Rattle.documents.specs.Kind as K
use Rattle.documents.specs.Document.{null, array, items_of}
use Rattle.positions.specs.Position.{Position, Types, Contains, CountMin, CountMax, All}
use Rattle.goals.specs.Signed.{Plus}
use Rattle.goals.specs.Goal as GG
use Rattle.goals.specs.Tree as G
use Rattle.frames.specs.Plan.{plan_steps}
use Rattle.alternatives.specs.Alternative.{Index, Null, Truth, Elements, Alternative}
use Rattle.alternatives.specs.Limit.{States, Counts}
use Rattle.expansions.specs.Leaves.{Finders, scalar, leaf}
use Rattle.expansions.specs.Expansion.{expansion}
use Rattle.alternatives.specs.Expansion.{expansion_of}
use Rattle.search.specs.Explored.{Found, explored}
use Rattle.search.specs.Rounds.{round}
use Rattle.search.specs.Documents.{document}

T : List Position
T = Types (K.Array ∷ []) ∷ Contains 2 ∷ Types (K.Null ∷ []) ∷ All (0 ∷ 1 ∷ []) ∷ []

F : Finders
F = record { numbers = λ S. Ok None; strings = λ S. Ok None; cells = λ S. Err States }

with_null : Alternative
with_null = record {
  kind = K.Array;
  branch = 0;
  shape = Elements;
  members = record { slot = Index 0; goal = Plus 2 ∷ [] } ∷ [];
  need = 0;
  fillers = [];
}

the_null : Alternative
the_null = record { kind = K.Null; branch = 0; shape = Null; members = []; need = 0; fillers = [] }

wanted : expansion T (leaf F T) (Plus 3 ∷ []) ≡ expansion_of (with_null ∷ []) None
unfolding T F with_null expansion G.steps plan_steps GG.follow
wanted = refl

wanted_null : expansion T (leaf F T) (Plus 2 ∷ []) ≡ expansion_of (the_null ∷ []) None
unfolding T F the_null expansion G.steps plan_steps GG.follow
wanted_null = refl

all_found : Found
unfolding T F
all_found = explored 4 100 (expansion T (leaf F T)) (Plus 3 ∷ [])

goals_are : all_found.goals ≡ (Plus 3 ∷ []) ∷ (Plus 2 ∷ []) ∷ []
unfolding T F all_found explored expansion G.steps plan_steps GG.follow
goals_are = refl

first_round : round (expansion T (leaf F T)) all_found 1 0 ≡ false
unfolding T F all_found explored expansion G.steps plan_steps GG.follow
first_round = refl

second_round : round (expansion T (leaf F T)) all_found 2 0 ≡ true
unfolding T F all_found explored expansion G.steps plan_steps GG.follow
second_round = refl

made : document (λ g t b c k. []) (expansion T (leaf F T)) all_found 2 0 ≡ array (items_of (null ∷ []))
unfolding T F all_found explored expansion G.steps plan_steps GG.follow
made = refl

-- at least two elements, one of them null: a place and a filler
U : List Position
U = Types (K.Array ∷ []) ∷ Contains 2 ∷ Types (K.Null ∷ []) ∷ All (0 ∷ 1 ∷ 4 ∷ []) ∷ CountMin 2 ∷ []

with_two : Alternative
with_two = record {
  kind = K.Array;
  branch = 0;
  shape = Elements;
  members = record { slot = Index 0; goal = Plus 2 ∷ [] } ∷ [];
  need = 1;
  fillers = record { slot = Index 1; goal = []; room = 65537 } ∷ [];
}

wanted_two : expansion U (leaf F U) (Plus 3 ∷ []) ≡ expansion_of (with_two ∷ []) None
unfolding U F with_two expansion G.steps plan_steps GG.follow
wanted_two = refl

-- a count that is too large is a hole; with crossed bounds there is none
counts : ℕ → ℕ → List Position
counts m n = Types (K.Array ∷ []) ∷ CountMin m ∷ CountMax n ∷ All (0 ∷ 1 ∷ 2 ∷ []) ∷ []

too_many : expansion (counts 65537 70000) (leaf F (counts 65537 70000)) (Plus 3 ∷ []) ≡ expansion_of [] (Some Counts)
unfolding counts F expansion G.steps plan_steps GG.follow
too_many = refl

crossed : expansion (counts 65537 3) (leaf F (counts 65537 3)) (Plus 3 ∷ []) ≡ expansion_of [] None
unfolding counts F expansion G.steps plan_steps GG.follow
crossed = refl

-- either truth value, or null: by kinds, then in order
V : List Position
V = Types (K.Boolean ∷ K.Null ∷ []) ∷ []

scalars : expansion V (leaf F V) (Plus 0 ∷ []) ≡ expansion_of
    (scalar K.Null 0 Null ∷ scalar K.Boolean 0 (Truth false) ∷ scalar K.Boolean 0 (Truth true) ∷ []) None
unfolding V F expansion G.steps plan_steps GG.follow
scalars = refl
