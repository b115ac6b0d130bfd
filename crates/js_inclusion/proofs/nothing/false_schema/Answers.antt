use Rattle.std.proofs.Common.{◌≡◌, Ok, ap, sym, ◌∙◌}
use Rattle.schemas.specs.Entries.{read}
use Rattle.js_keywords.specs.Reading.{rules}
use Rattle.js_schema.specs.SchemaView.{schema_view}
use Rattle.js_inclusion.specs.Nothing.{nothing}
use Rattle.js_inclusion.proofs.NothingLaws.{read-false}
use Rattle.js_inclusion.proofs.nothing.false_schema.Goals as goal

pub returns-in-Ranked : goal.returns-in-Ranked
returns-in-Ranked c =
    let owed = rw c.in-Ok.is at c.read_schema.ensures in
    let same : Ok nothing ≡ Ok (schema_view c.in-Ok.schema) =
    sym read-false ∙ sym (ap (read rules) c.false_value.ensures) ∙ owed in
    let (kept, guarded) = rw c.in-Ranked.is at c.in_ok-ranked.ensures in
    let alike : nothing ≡ schema_view c.in-Ok.schema = cc in
    kept ∙ sym alike
