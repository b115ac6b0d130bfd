-- What the call of `gen` answers.
use Rattle.std.specs.Prelude.{ℕ, string_bytes}
use Rattle.documents.specs.Json.{Json}
use Rattle.families.specs.Families.{Family, family}
use Rattle.js_commands.specs.IncludeSaying.{answer_view}
use Rattle.js_commands.specs.GenOutcome as O
use Rattle.js_commands.specs.GenOutcome.{Outcome, IsOfValues}
use Rattle.js_commands.specs.GenMeaning.{ValuesMean}
use Rattle.js_commands.specs.declared.family.FamilyInclusion.{FamilyInclusion}
use Rattle.js_commands.specs.declared.family.FamilyInclusion.TheVariants as G

abbrev pub outcome_of : FamilyInclusion → Outcome
outcome_of (G.Decided d) = O.Decided (answer_view d.verdict) d.goals d.rounds
outcome_of (G.FirstRefused words) = O.FirstRefused (string_bytes words)
outcome_of (G.SecondRefused words) = O.SecondRefused (string_bytes words)

-- the answer is what two values come to, and means that for them
abbrev pub ValuesSay : Json → Json → FamilyInclusion → Type 0
ValuesSay a b g = IsOfValues a b (outcome_of g) × ValuesMean a b (outcome_of g)

abbrev pub FamilyInclusionSays : Family → ℕ → FamilyInclusion → Type 0
FamilyInclusionSays f n g = ValuesSay (family f n).0 (family f n).1 g
