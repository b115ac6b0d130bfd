-- How deep the document of a verdict is.
use Rattle.std.specs.Prelude.{◌≡◌, ◌<◌, ◌≤◌, ℕ, List, true, false}
use Rattle.documents.specs.Document.{Document, depth}
use Rattle.shared_documents.specs.Unshared.{unshared}
use Rattle.positions.specs.Position.{Position}
use Rattle.goals.specs.Signed.{Signed}
use Rattle.alternatives.specs.Expansion.{Expansion}
use Rattle.expansions.specs.Leaves.{Finders}
use Rattle.search.specs.Explored.{Found}
use Rattle.search.specs.Rounds.{round}
use Rattle.decisions.specs.Decision as D
use Rattle.decisions.specs.Decision.{Verdict}
use Rattle.decisions.specs.Meaning.{OfRoot}

-- the round has goal 0, and none before it has
pub record IsFirstRound (expansion : List Signed → Expansion) (f : Found) (r : ℕ) : Type 0 where
  pub has : round expansion f r 0 ≡ true
  pub before : (q : ℕ) → q < r → round expansion f q 0 ≡ false

module _ (F : Finders) (T : List Position) (most most_places a b : ℕ) where
  pub record IsNoDeeper (rounds : ℕ) (J : Document) : Type 0 where
    -- than the last round that added a goal
    pub told : depth J ≤ rounds
    -- than the first round that has the root
    pub first : OfRoot F T most most_places a b (λ e f. (r : ℕ) × IsFirstRound e f r × (depth J ≤ r))

  -- so is the document of a verdict, where that many rounds are reported beside it
  abbrev pub IsShallow : Verdict → ℕ → Type 0
  IsShallow (D.Document ps i) rounds = IsNoDeeper rounds (unshared ps i)
  IsShallow v rounds = Unit {0}
