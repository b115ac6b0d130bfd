-- What the calls answer.
use Rattle.std.specs.Prelude.{◌≡◌, ℕ, List, Option, string_bytes}
use Rattle.schemas.specs.Entry.{Entry}
use Rattle.js_outside.specs.Counts.{Rose}
use Rattle.js_outside.specs.Told.{Files}
use Rattle.js_expansion.specs.View.{limit_view}
use Rattle.js_decide.specs.View.{verdict_view}
use Rattle.js_decide.specs.Certified.{HasCertificate}
use Rattle.js_decide.specs.declared.verdict.Verdict.{Verdict}
use Rattle.js_decide.specs.declared.verdict.Verdict.TheVariants as V
use Rattle.js_inclusion.specs.Comparison.{comparison, certificate_text}
use Rattle.js_inclusion.specs.Meaning.{Means, AreCounted}
use Rattle.js_commands.specs.IncludeOutcome as O
use Rattle.js_commands.specs.IncludeOutcome.{Outcome, IsComparison}
use Rattle.js_commands.specs.IncludeMeaning.{MeansFor}
use Rattle.js_commands.specs.declared.include.Inclusion.{Inclusion}
use Rattle.js_commands.specs.declared.include.Inclusion.TheVariants as F

abbrev pub answer_view : Verdict → O.Answer
answer_view (V.Document ps i) = O.Document ps i.0
answer_view (V.Certificate text) = O.Certificate text.items
answer_view (V.Limit k g) = O.Limit (limit_view k) g

abbrev pub outcome_of : Inclusion → Outcome
outcome_of (F.Decided x) = O.Decided (answer_view x)
outcome_of (F.FirstRefused words) = O.FirstRefused (string_bytes words)
outcome_of (F.SecondRefused words) = O.SecondRefused (string_bytes words)
outcome_of F.ReadFault = O.ReadFault

-- a fault is counted where a file couldn't be read, and else the answer is what the files come to
abbrev pub InclusionSays : Option Files → List ℕ → Option (List ℕ) → ℕ → ℕ → Inclusion → Type 0
InclusionSays told first second before after F.ReadFault = Rose before after
InclusionSays told first second before after f =
    (after ≡ before) × IsComparison told first second (outcome_of f) × MeansFor told first second (outcome_of f)

-- what an answer says of two schemas, whatever values they are read from
abbrev pub SchemasSay : List Entry → List Entry → Inclusion → Type 0
SchemasSay es fs (F.Decided x) =
    (verdict_view x ≡ comparison es fs) × HasCertificate (certificate_text es fs) x × Means es fs (verdict_view x)
    × AreCounted es fs (verdict_view x)
SchemasSay es fs _ = ⊥
