-- What the document of a goal means for a table: it meets the goal, and is no deeper than the goal's round.
use Rattle.std.specs.Prelude.{◌≡◌, ℕ, List, Some, slice_get}
use Rattle.documents.specs.Document.{Document}
use Rattle.positions.specs.Position.{Position}
use Rattle.goals.specs.Signed.{Signed}
use Rattle.alternatives.specs.Expansion.{Expansion}
use Rattle.search.specs.Explored.{Found}
use Rattle.search.specs.Uses.{satisfied}
use Rattle.expander_laws.specs.Sound.{Meets}

module _ (T : List Position) where
  -- the document of goal n meets it, and is no deeper than the least round that has the goal
  pub record IsMet (expansion : List Signed → Expansion) (f : Found) (n : ℕ) (J : Document) : Type 0 where
    pub goal : List Signed
    pub at : slice_get f.goals n ≡ Some goal
    pub round : ℕ
    pub alternative : ℕ
    pub answer : satisfied expansion f n ≡ Some (round, alternative)
    pub meets : Meets T round goal J
