-- The parts of the document of a goal: one for each goal that it uses.
use Rattle.std.specs.Prelude.{ℕ, suc, List, [], ◌∷◌, map, cond, nat_eq, Option, Some, None, slice_get}
use Rattle.documents.specs.Kind.{Kind}
use Rattle.documents.specs.Tests.{comes_before}
use Rattle.goals.specs.Signed.{Signed}
use Rattle.shared_documents.specs.Part as P
use Rattle.shared_documents.specs.Part.{Part}
use Rattle.alternatives.specs.Alternative.{Shape, Null, Truth, Number, Text, Elements, Members}
use Rattle.alternatives.specs.Expansion.{Expansion}
use Rattle.expansions.specs.DocumentOf.{slot_name}
use Rattle.search.specs.Explored.{Found}
use Rattle.search.specs.Rounds.{NumberedPlaced, Numbered}
use Rattle.search.specs.Uses.{chosen, contents, used_goals}

-- a member among others, in the order of names
abbrev pub put : List ℕ → ℕ → List (List ℕ × ℕ) → List (List ℕ × ℕ)
put k i [] = (k, i) ∷ []
put k i (m ∷ ms) = cond (comes_before k m.0) ((k, i) ∷ m ∷ ms) (m ∷ put k i ms)

abbrev pub sorted : List (List ℕ × ℕ) → List (List ℕ × ℕ)
sorted [] = []
sorted (m ∷ ms) = put m.0 m.1 (sorted ms)

-- where a goal is in a list of goals
abbrev pub place_in : List ℕ → ℕ → ℕ
place_in [] n = 0
place_in (m ∷ ms) n = cond (nat_eq n m) 0 (suc (place_in ms n))

-- the part of a shape and what is in it, with the words of the branch; `place` numbers goals
module _ (words : ℕ → ℕ → List ℕ) (place : ℕ → ℕ) where
  abbrev pub named : NumberedPlaced → List ℕ × ℕ
  named p = (slot_name words p.slot, place p.goal)

  abbrev pub by_shape : Shape → List NumberedPlaced → Part
  by_shape Null ps = P.null
  by_shape (Truth b) ps = P.boolean b
  by_shape (Number n) ps = P.number n
  by_shape Text ps = P.string (words 0 0)
  by_shape Elements ps = P.array (map (λ p. place p.goal) ps)
  by_shape Members ps = P.object (sorted (map named ps))

-- `words`: word k of cell c of a branch of a goal, by the branch's kind and number
module _ (words : List Signed → Kind → ℕ → ℕ → ℕ → List ℕ) (expansion : List Signed → Expansion) (f : Found) where
  abbrev pub of_alternative : (ℕ → ℕ) → List NumberedPlaced → List Signed → Option Numbered → Part
  of_alternative place ps g None = P.null
  of_alternative place ps g (Some a) = by_shape (words g a.kind a.branch) place a.shape ps

  abbrev pub of_goal : (ℕ → ℕ) → List NumberedPlaced → Option (List Signed) → Option Numbered → Part
  of_goal place ps None o = P.null
  of_goal place ps (Some g) o = of_alternative place ps g o

  -- the part of a goal, where `place` numbers the parts
  abbrev pub part : (ℕ → ℕ) → ℕ → Part
  part place n = of_goal place (contents expansion f n) (slice_get f.goals n) (chosen expansion f n)

  -- the parts of the document of a goal, its own last
  abbrev pub parts : ℕ → List Part
  parts n = map (part (place_in (used_goals expansion f n))) (used_goals expansion f n)
