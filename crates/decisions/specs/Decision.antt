-- What is decided: a document that meets the first position and not the second one, that there is none, or a limit.
use Rattle.std.specs.Prelude.{ℕ, List, [], ◌∷◌, length, take, cond, Option, Some, None, is_some}
use Rattle.documents.specs.Kind.{Kind}
use Rattle.shared_documents.specs.Part.{Part}
use Rattle.positions.specs.Position.{Position}
use Rattle.goals.specs.Signed.{Signed, Plus, Minus}
use Rattle.goals.specs.Goal.{form}
use Rattle.alternatives.specs.Limit.{LimitKind, most_goals, most_total}
use Rattle.alternatives.specs.Expansion.{Expansion}
use Rattle.expansions.specs.Leaves.{Finders, leaf, words_of}
use Rattle.expansions.specs.Expansion.{expansion}
use Rattle.expansions.specs.DocumentOf.{by_branch}
use Rattle.search.specs.Explored.{Found, explored}
use Rattle.search.specs.Uses.{satisfied, last_round, used_goals}
use Rattle.search.specs.Witness.{place_in, parts}

pub data Verdict : Type 0 where
  -- the parts of a document, and the number of the part that is the document
  Document : List Part → ℕ → Verdict
  -- a limit, with the goal that passes it; a limit on all explored goals has none
  Limit : LimitKind → Option (List Signed) → Verdict
  NoDocument : Verdict

-- the verdict, how many goals were explored, and the last round that added one
pub record Decided : Type 0 where
  pub verdict : Verdict
  pub goals : ℕ
  pub rounds : ℕ

abbrev pub decided : Verdict → ℕ → ℕ → Decided
decided v n r = record { verdict = v; goals = n; rounds = r }

-- the first hole, and the limit on all goals where there is none
abbrev pub by_limits : Option (LimitKind × List Signed) → Option LimitKind → Verdict
by_limits (Some h) o = Limit h.0 (Some h.1)
by_limits None (Some k) = Limit k None
by_limits None None = NoDocument

abbrev pub or_later : {A B : Type 0} → B → Option A → Option (A × B) → Option (A × B)
or_later y (Some x) o = Some (x, y)
or_later y None o = o

-- the first of the goals that has a hole, with it
abbrev pub first_hole : (List Signed → Expansion) → List (List Signed) → Option (LimitKind × List Signed)
first_hole expansion [] = None
first_hole expansion (g ∷ gs) = or_later g (expansion g).hole (first_hole expansion gs)

-- `words`: word k of cell c of a branch of a goal, by the branch's kind and number
module _ (words : List Signed → Kind → ℕ → ℕ → ℕ → List ℕ) (expansion : List Signed → Expansion) where
  -- goal 0 has a document where some round has it; else a hole of a goal that was taken comes before the limit on all
  abbrev pub verdict_of : Found → Verdict
  verdict_of f =
      cond (is_some (satisfied expansion f 0))
      (Document (parts words expansion f 0) (place_in (used_goals expansion f 0) 0))
      (by_limits (first_hole expansion (take f.taken f.goals)) f.over)

  abbrev pub of_found : Found → Decided
  of_found f = decided (verdict_of f) (length f.goals) (last_round expansion f)

  -- a list that clashes forms no goal, so that nothing is explored
  abbrev pub of_root : ℕ → ℕ → Option (List Signed) → Decided
  of_root most most_places None = decided NoDocument 0 0
  of_root most most_places (Some root) = of_found (explored most most_places expansion root)

-- no document meets this goal exactly where each document of which a holds has b holding
abbrev pub root_of : List Position → ℕ → ℕ → Option (List Signed)
root_of T a b = form T (Plus a ∷ Minus b ∷ [])

-- what is decided of positions a and b
abbrev pub decision : Finders → List Position → ℕ → ℕ → Decided
decision F T a b =
    of_root (by_branch T (words_of F)) (expansion T (leaf F T)) most_goals most_total (root_of T a b)
