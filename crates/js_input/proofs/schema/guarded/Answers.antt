use Rattle.std.proofs.Common.{sym, subst, ap, ◌∙◌}
use Rattle.schemas.specs.Guarded.{edges, IsLeastCycle}
use Rattle.js_report.specs.RefusalWords.{cycle_words}
use Rattle.js_input.proofs.CycleLemmas.{cycle-below}
use Rattle.js_schema.specs.SchemaView.{schema_view}
use Rattle.js_input.proofs.schema.guarded.Goals as goal

pub cycle_words-requires : goal.cycle_words-requires
cycle_words-requires c =
    let (same, circular, least) = rw c.in-Circular.is at c.in_ok-schema.ensures in
    cycle-below (schema_view c.in-Circular.schema) c.in-Circular.cycle
    (subst (λ es. IsLeastCycle (edges es) c.in-Circular.cycle) (sym same) least)

pub returns-in_ok-words-in-Circular : goal.returns-in_ok-words-in-Circular
returns-in_ok-words-in-Circular c = λ j.
    let (same, circular, least) = rw c.in-Circular.is at c.in_ok-schema.ensures in (
      c.in-Circular.cycle,
      least,
      c.in_ok-words-in-Circular.ensures ∙ ap (λ es. cycle_words es c.in-Circular.cycle) same,
    )
