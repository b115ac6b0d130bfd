-- One entry's edges more.
use Rattle.std.proofs.Common.{◌≡◌, ◌++◌, length, sym, ap, ◌∙◌, subst, arith}
use Rattle.schemas.specs.Schema.{in_place}
use Rattle.schema_laws.proofs.TableLaws.{is_table-length}
use Rattle.js_schema.specs.View.{form_view}
use Rattle.js_schema.specs.SchemaView.{schema_view}
use Rattle.js_guard.specs.Rows.{AreClosed}
use Rattle.js_guard.proofs.EdgesLemmas.{edges-length, edges-closed, edges-more, edges-all}
use Rattle.js_guard.proofs.edges.Edges.of.Goals as goal

pub loop-entry-preserved : goal.loop-entry-preserved
loop-entry-preserved c =
    let row : c.deref.result.now ≡ in_place (form_view c.form.result.now) =
    c.deref.ensures.value ∙ c.in_ok-add_form.ensures
    ∙ ap (λ r. r ++ in_place (form_view c.form.result.now)) c.clear.ensures.items in
    c.in_ok-push_row.ensures
    ∙ edges-more (schema_view c.args.schema.now) c.loop-entry.entry (form_view c.form.result.now) c.deref.result.now
    c.loop-entry.edges (omega arith) c.form.ensures row c.loop-entry.invariant

pub returns : goal.returns
returns c =
    let es = schema_view c.args.schema.now in
    let all = edges-all es c.loop-entry.entry c.loop-entry.edges (omega arith) c.loop-entry.invariant in
    let table = c.len-entry-end.ensures.table in
    let small = is_table-length es table in
    record {
      edges = all;
      closed = subst AreClosed (sym all) (edges-closed es table);
      small = (let few = small.1 in omega (arith, ap length all, edges-length es));
    }
