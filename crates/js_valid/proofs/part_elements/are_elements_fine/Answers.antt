use Rattle.std.proofs.Common.{not, ◌&&◌, map, refl, sym, ap, ◌∙◌}
use Rattle.documents.specs.Tests.{every}
use Rattle.schemas.specs.Schema.{meets}
use Rattle.shared_documents.specs.Unshared.{unshared}
use Rattle.js_schema.specs.View.{form_view}
use Rattle.js_valid.specs.Plan.{valid_at}
use Rattle.js_valid.specs.Requests.{contained}
use Rattle.js_valid.proofs.PartElementLaws.{elements-done}
use Rattle.js_valid.proofs.part_elements.are_elements_fine.Goals as goal

pub returns-then-are_elements_met : goal.returns-then-are_elements_met
returns-then-are_elements_met c es ps known =
    sym (ap (λ a. a && c.is_contained.result) c.if-are_elements_met.true)
    ∙ elements-done (valid_at es) (map (unshared ps) c.args.ids.now) (form_view c.args.form.now)
    c.are_elements_met.result c.is_contained.result (c.are_elements_met.ensures es ps known)
    (c.is_contained.ensures es ps known)

pub returns-else-are_elements_met : goal.returns-else-are_elements_met
returns-else-are_elements_met c es ps known =
    let ds = map (unshared ps) c.args.ids.now in
    let b = meets (λ q. not (every (λ d. not (valid_at es q d)) ds)) (contained (form_view c.args.form.now)) in
    c.if-are_elements_met.false ∙ sym (ap (λ a. a && b) c.if-are_elements_met.false)
    ∙ elements-done (valid_at es) ds (form_view c.args.form.now) c.are_elements_met.result b
    (c.are_elements_met.ensures es ps known) refl
