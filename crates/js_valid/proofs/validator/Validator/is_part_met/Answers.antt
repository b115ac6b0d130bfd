use Rattle.std.proofs.Common.{ap, ◌∙◌}
use Rattle.js_valid.specs.Parts.{flag}
use Rattle.js_valid.specs.PartTables.{table_at}
use Rattle.js_valid.proofs.validator.Validator.is_part_met.Goals as goal

pub returns : goal.returns
returns c =
    c.holds_at.ensures ∙ ap (λ ts. flag (table_at ts c.args.id.0) c.args.entry) c.deref.ensures.value
    ∙ c.in_ok-tables.ensures.known c.args.id.0 c.args.entry c.in_ok-tables.ensures.len
