-- Where a certificate is good, and what that is.
use Rattle.std.specs.Prelude.{◌≡◌, ◌<◌, ℕ, List, length, None, Some}
use Rattle.positions.specs.Position.{Position}
use Rattle.goals.specs.Signed.{Signed}
use Rattle.alternatives.specs.Limit.{most_goals, most_total}
use Rattle.search.specs.Explored as S
use Rattle.decisions.specs.Decision.{root_of}
use Rattle.decisions.specs.Meaning.{IsUnmet, AreOpen}
use Rattle.certificate_lines.specs.Line.{Line}
use Rattle.certificate_lines.specs.Text.{IsText}
use Rattle.verdicts.specs.Verdict.{Accepted, verdict_of_bytes}
use Rattle.refutations.specs.Expansions.{expansion_of}
use Rattle.js_explore.specs.Exploration.{Exploration, Explores}
use Rattle.js_rounds.specs.State.{AreRounds}
use Rattle.js_rounds.specs.declared.rounds.Rounds.{Rounds}

-- the bytes are in the grammar, and every checker accepts them as a certificate that each document of which position a
-- holds has position b holding
pub record IsGood (T : List Position) (a b : ℕ) (bytes : List ℕ) : Type 0 where
  pub lines : List Line
  pub in_grammar : IsText bytes lines
  pub accepted : verdict_of_bytes T a b bytes ≡ Accepted

-- goals were explored from that of two positions of the table, and their rounds show that no document meets it
pub record FoundNone (T : List Position) (a b : ℕ) (e : Exploration) (rounds : Rounds) : Type 0 where
  pub a_in : a < length T
  pub b_in : b < length T
  pub root : List Signed
  pub is_root : root_of T a b ≡ Some root
  pub explored : e.found ≡ S.explored most_goals most_total (expansion_of T) root
  pub explores : Explores (expansion_of T) e
  pub are_rounds : AreRounds (expansion_of T) e.found rounds
  -- no round has the root, no explored goal has a hole, and no limit on all of them was passed
  pub unmet : IsUnmet (expansion_of T) e.found
  pub no_hole : AreOpen (expansion_of T) e.found
  pub whole : e.found.over ≡ None
