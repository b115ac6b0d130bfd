-- Decisions on small tables with small limits, computed.
use Rattle.std.proofs.Common.{◌≡◌, ℕ, List, [], ◌∷◌, Some, None, Ok, Err, refl}
use Rattle.documents.specs.Kind as K
use Rattle.shared_documents.specs.Part as P
use Rattle.positions.specs.Position.{Position, True, False, Types, Contains, CountMin, All}
use Rattle.goals.specs.Signed.{Plus}
use Rattle.goals.specs.Goal as GG
use Rattle.goals.specs.Tree as G
use Rattle.frames.specs.Plan.{plan_steps}
use Rattle.alternatives.specs.Limit.{States, Counts, Goals, Total}
use Rattle.expansions.specs.Leaves.{Finders, leaf, words_of}
use Rattle.expansions.specs.Expansion.{expansion}
use Rattle.expansions.specs.DocumentOf.{by_branch}
use Rattle.search.specs.Explored.{explored}
use Rattle.decisions.specs.Decision.{Decided, Document, Limit, NoDocument, decided, of_root, root_of}

F : Finders
F = record { numbers = λ S. Ok None; strings = λ S. Ok None; cells = λ S. Err States }

-- position a of a table against position b, with room for so many goals and so many of their places
abbrev decide : ℕ → ℕ → List Position → ℕ → ℕ → Decided
decide most most_places T a b =
    of_root (by_branch T (words_of F)) (expansion T (leaf F T)) most most_places (root_of T a b)

-- arrays with a null among their elements
T : List Position
T = Types (K.Array ∷ []) ∷ Contains 2 ∷ Types (K.Null ∷ []) ∷ All (0 ∷ 1 ∷ []) ∷ False ∷ True ∷ All (0 ∷ 2 ∷ []) ∷ []

-- there is one, the array of a null
some_array : decide 4 100 T 3 4 ≡ decided (Document (P.null ∷ P.array (0 ∷ []) ∷ []) 1) 2 2
unfolding T F expansion G.steps plan_steps GG.follow explored
some_array = refl

-- no array is a null
no_array : decide 4 100 T 6 4 ≡ decided NoDocument 1 0
unfolding T F expansion G.steps plan_steps GG.follow explored
no_array = refl

-- an array with a null among its elements is an array
an_array : decide 4 100 T 3 0 ≡ decided NoDocument 1 0
unfolding T F expansion G.steps plan_steps GG.follow explored
an_array = refl

-- no document is none of all: nothing is explored
of_all : decide 4 100 T 3 5 ≡ decided NoDocument 0 0
unfolding T F expansion G.steps plan_steps GG.follow explored
of_all = refl

-- with room for one goal its element has no number; with room for one place the root isn't taken
one_goal : decide 1 100 T 3 4 ≡ decided (Limit Goals None) 1 0
unfolding T F expansion G.steps plan_steps GG.follow explored
one_goal = refl

one_place : decide 4 1 T 3 4 ≡ decided (Limit Total None) 1 0
unfolding T F expansion G.steps plan_steps GG.follow explored
one_place = refl

-- a count that is too large is a hole of the root, reported before the limit on goals
U : List Position
U = Types (K.Array ∷ []) ∷ CountMin 65537 ∷ All (0 ∷ 1 ∷ []) ∷ False ∷ []

too_many : decide 4 100 U 2 3 ≡ decided (Limit Counts (Some (Plus 2 ∷ []))) 1 0
unfolding U F expansion G.steps plan_steps GG.follow explored
too_many = refl
