-- The certificate that each document of which one position holds has another one holding, where the search found no
-- document: goals by the numbers of the explored ones.
use Rattle.std.specs.Prelude.{ℕ, List, [], ◌∷◌, cond, Option, Some, None, is_some}
use Rattle.positions.specs.Position.{Position}
use Rattle.goals.specs.Signed.{Signed, Plus, Minus}
use Rattle.goals.specs.Goal.{form}
use Rattle.alternatives.specs.Expansion.{Expansion}
use Rattle.alternatives.specs.Limit.{most_goals, most_total}
use Rattle.search.specs.Explored.{Found, number_in, explored}
use Rattle.search.specs.Uses.{satisfied}
use Rattle.certificate_lines.specs.Line as L
use Rattle.certificate_lines.specs.Line.{Line}
use Rattle.refutations.specs.GoalLines.{goal_lines}
use Rattle.refutations.specs.Expansions.{expansion_of}
use Rattle.refutations.specs.Listing.{certificate}

module _ (expansion : List Signed → Expansion) (f : Found) where
  -- the number, where no round has it
  abbrev pub unless_satisfied : Option ℕ → Option ℕ
  unless_satisfied None = None
  unless_satisfied (Some n) = cond (is_some (satisfied expansion f n)) None (Some n)

  -- the number of an explored goal that no round has; other goals have none
  abbrev pub unmet_number : List Signed → Option ℕ
  unmet_number g = unless_satisfied (number_in f.goals g)

  abbrev pub found_refutation : List Position → List Line
  found_refutation T = certificate f.goals (goal_lines unmet_number T)

-- the certificate of a root that clashes: no goal is listed
abbrev pub empty_certificate : List Line
empty_certificate = L.Version ∷ L.Goals 0 ∷ L.End ∷ []

module _ (T : List Position) where
  -- `most`, `most_places`: the limits on explored goals and on their places
  abbrev pub root_refutation : (most most_places : ℕ) → Option (List Signed) → List Line
  root_refutation most most_places None = empty_certificate
  root_refutation most most_places (Some root) =
      found_refutation (expansion_of T) (explored most most_places (expansion_of T) root) T

  -- that position a is included in position b
  unfoldable pub refutation : (a b : ℕ) → List Line
  refutation a b = root_refutation most_goals most_total (form T (Plus a ∷ Minus b ∷ []))
