use Rattle.std.proofs.Common.{◌≡◌, ◌<◌, false, map, length, rules, ap, ◌∙◌, arith}
use Rattle.draft06.specs.EntryValidity.{form_at}
use Rattle.shared_documents.specs.Unshared.{unshared}
use Rattle.js_schema.specs.SchemaView.{schema_view}
use Rattle.js_schema.specs.View.{form_view}
use Rattle.js_valid.specs.Plan.{valid_at}
use Rattle.js_valid.specs.Requests.{parts_list}
use Rattle.js_valid.proofs.PartMemberLaws.{each-more, more-length}
use Rattle.js_valid.proofs.PlanLaws.{form_at-get}
use Rattle.js_valid.proofs.part_fine.fine_list.Goals as goal

pub loop-entry-preserved : goal.loop-entry-preserved
loop-entry-preserved c = record {
  len = more-length c.loop-entry.fine.items c.push.new.self.items c.are_elements_fine.result c.loop-entry.entry
      c.loop-entry.invariant.len (search rules);
  fine = λ ps known.
      let es = schema_view c.args.schema.now in
      let less : c.loop-entry.entry < length es = omega (arith, c.len.ensures.value, c.len-entry-end.ensures.value) in
      let form = form_at-get es c.loop-entry.entry (form_view c.form.result.now) less c.form.ensures in
      each-more (λ e b. b ≡ parts_list (valid_at es) (form_at es e) (map (unshared ps) c.args.ids.now))
      c.loop-entry.fine.items c.push.new.self.items c.are_elements_fine.result false c.loop-entry.entry
      c.loop-entry.invariant.len (search rules) (c.loop-entry.invariant.fine ps known)
      (c.are_elements_fine.ensures es ps known
      ∙ ap (λ f. parts_list (valid_at es) f (map (unshared ps) c.args.ids.now)) form);
}
