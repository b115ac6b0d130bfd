-- What two values come to, from what each was read as.
use Rattle.std.proofs.Common.{◌≡◌, List, ap, ap₂, sym, ◌∙◌}
use Rattle.documents.specs.Json.{Json}
use Rattle.schemas.specs.Entry.{Entry}
use Rattle.js_input.specs.SchemaReading.{Read}
use Rattle.js_decide.specs.View.{decided_view, verdict_view}
use Rattle.js_decide.specs.Certified.{HasCertificate}
use Rattle.js_decide.specs.declared.verdict.Decided.{Decided}
use Rattle.js_inclusion.specs.Comparison.{decided_of, comparison, certificate_text}
use Rattle.js_inclusion.specs.Meaning.{IsReadAs, Means, AreCounted}
use Rattle.js_commands.specs.IncludeSaying.{answer_view}
use Rattle.js_commands.specs.GenOutcome as O
use Rattle.js_commands.specs.GenOutcome.{IsValueReading, of_entries}
use Rattle.js_commands.specs.GenSaying.{ValuesSay}
use Rattle.js_commands.specs.declared.family.FamilyInclusion.TheVariants as G
use Rattle.js_commands.proofs.IncludeOutcomeLemmas.{view-answer, same_entries, same_entries', values-tell}

-- two values that are read, as these entries
pub says-decided : (a b : Json) (es fs : List Entry) → IsReadAs a es → IsReadAs b fs → IsValueReading a (Read a)
    → IsValueReading b (Read b) → (d : Decided) → decided_view d ≡ decided_of es fs
    → HasCertificate (certificate_text es fs) d.verdict → Means es fs (verdict_view d.verdict)
    → AreCounted es fs (verdict_view d.verdict) → ValuesSay a b (G.Decided d)
says-decided a b es fs x y reads reads' d e has means counted =
    let found = view-answer (certificate_text es fs) d.verdict (comparison es fs) (ap (λ c. c.verdict) e) has in (
      (
        Read a,
        reads,
        (
          Read b,
          reads',
          ap₂ of_entries (same_entries a b es fs x y) (same_entries' a b es fs x y)
              ∙ ap (λ z. O.Decided z (decided_of es fs).goals (decided_of es fs).rounds) (sym found)
              ∙ ap (λ c. O.Decided (answer_view d.verdict) c.goals c.rounds) (sym e),
        ),
      ),
      values-tell a b es fs x y d.verdict has (means a b x y) counted,
    )
