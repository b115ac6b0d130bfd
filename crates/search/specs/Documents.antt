-- The document of a goal that is in a round: that of the round before where this has it, else that of the first
-- alternative which the round before meets.
use Rattle.std.specs.Prelude.{ℕ, zero, suc, List, Bool, false, cond, Option, Some, None, slice_get}
use Rattle.documents.specs.Kind.{Kind}
use Rattle.documents.specs.Document.{Document, null}
use Rattle.goals.specs.Signed.{Signed}
use Rattle.goals.specs.Tree.{first}
use Rattle.alternatives.specs.Alternative.{Alternative, is_met}
use Rattle.alternatives.specs.Expansion.{Expansion}
use Rattle.expansions.specs.DocumentOf.{document_of}
use Rattle.search.specs.Explored.{Found, number_in}
use Rattle.search.specs.Rounds.{by_number, round}

abbrev pub of_number : (ℕ → Document) → Option ℕ → Document
of_number D None = null
of_number D (Some n) = D n

-- `words`: word k of cell c of a branch of a goal, by the branch's kind and number
module _ (words : List Signed → Kind → ℕ → ℕ → ℕ → List ℕ) (expansion : List Signed → Expansion) (f : Found) where
  module _ (can : List Signed → Bool) (child : List Signed → Document) where
    abbrev pub of_alternative : List Signed → Option Alternative → Document
    of_alternative g None = null
    of_alternative g (Some a) = document_of can child (words g a.kind a.branch) a

    abbrev pub of_goal : Option (List Signed) → Document
    of_goal None = null
    of_goal (Some g) = of_alternative g (first (is_met can) (expansion g).alternatives)

  abbrev pub document : ℕ → ℕ → Document
  document zero n = null
  document (suc r) n = cond (round expansion f r n) (document r n)
      (of_goal (by_number false (round expansion f r) f.goals) (λ g. of_number (document r) (number_in f.goals g))
      (slice_get f.goals n))
