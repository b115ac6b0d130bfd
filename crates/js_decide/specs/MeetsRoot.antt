-- What the document of a verdict means for a table: it meets the root, and is no deeper than the root's first round.
use Rattle.std.specs.Prelude.{List}
use Rattle.shared_documents.specs.Unshared.{unshared}
use Rattle.positions.specs.Position.{Position}
use Rattle.goals.specs.Signed.{Signed}
use Rattle.alternatives.specs.Expansion.{Expansion}
use Rattle.search.specs.Explored.{Found}
use Rattle.decisions.specs.Decision as D
use Rattle.decisions.specs.Decision.{Verdict}
use Rattle.js_rounds.specs.Meets.{IsMet}

-- the root is goal 0
abbrev pub MeetsRoot : List Position → (List Signed → Expansion) → Found → Verdict → Type 0
MeetsRoot T expansion f (D.Document ps i) = IsMet T expansion f 0 (unshared ps i)
MeetsRoot T expansion f v = Unit {0}
