use Rattle.std.proofs.Common.{rules, ◌≡◌, ℕ, Bool, ap, ◌∙◌}
use Rattle.documents.specs.Tests.{every}
use Rattle.schemas.specs.Schema.{lists, one}
use Rattle.shared_documents.specs.Unshared.{unshared}
use Rattle.js_schema.specs.View.{form_view}
use Rattle.js_match.specs.Matching.{matches}
use Rattle.js_valid.specs.Parts.{of_member}
use Rattle.js_valid.specs.Plan.{valid_at}
use Rattle.js_valid.proofs.part_members.is_member_met.Goals as goal

pub returns : goal.returns
returns c es ps known =
    let p : ℕ → Bool = λ q. valid_at es q (unshared ps c.args.member.now.part.0) in
    let asked : lists one c.only_entry-entry.result ≡ of_member matches (form_view c.args.form.now)
    c.args.member.now.name = search rules in
    c.is_element_met.ensures es ps known ∙ ap (every p) asked

pub returns-2 : goal.returns-2
returns-2 c es ps known =
    let p : ℕ → Bool = λ q. valid_at es q (unshared ps c.args.member.now.part.0) in
    c.are_all_met.ensures es ps known ∙ ap (every p) (c.deref-4.ensures.value ∙ c.in_ok-entries.ensures)
