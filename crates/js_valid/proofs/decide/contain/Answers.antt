use Rattle.std.proofs.Common.{not}
use Rattle.schemas.specs.Schema.{meets}
use Rattle.draft06.specs.EntryValidity.{form_at}
use Rattle.js_schema.specs.SchemaView.{schema_view}
use Rattle.js_valid.specs.Parts.{flag}
use Rattle.js_valid.specs.Requests.{contained}
use Rattle.js_valid.proofs.RequestLaws.{refused_next}
use Rattle.js_valid.proofs.decide.contain.Goals as goal

pub loop-i-preserved : goal.loop-i-preserved
loop-i-preserved c e =
    refused_next (λ i o. meets (λ q. not (flag c.args.unmet.now i)) (contained
    (form_at (schema_view c.args.schema.now) o))) e c.args.owners.now c.loop-i.i (flag c.loop-i.fine.items e)
    (flag c.refuse.new.table.items e) c.is_contained-met.result _ c.loop-i-test.true (c.refuse.ensures.value e)
    c.is_contained-met.ensures (c.loop-i.invariant e)
