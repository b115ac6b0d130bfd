use Rattle.std.proofs.Common.{[], ◌∷◌, ◌++◌, get_or, sym, subst, ap, ◌∙◌}
use Rattle.js_doc.specs.JsonView.{member_view}
use Rattle.js_pointers.specs.PointersView.{pointers_of}
use Rattle.js_walk.specs.Holding.{read_holding, held, member_held}
use Rattle.js_walk.specs.Visiting.{Adds}
use Rattle.js_walk.proofs.ChildrenLemmas.{added-later, within-grows, on_ok}
use Rattle.js_walk.proofs.children.add_member.Goals as goal

pub add_held-requires : goal.add_held-requires
add_held-requires c = record {
  at = (c.in_ok-at-in-Some.ensures.number).0;
  found = within-grows _ _ _ c.in_ok-at-in-Some.ensures.grows c.requires.found;
}

pub returns-in_ok-at-in-Some : goal.returns-in_ok-at-in-Some
returns-in_ok-at-in-Some c =
    let old = pointers_of c.args.pointers.now in
    let mid = pointers_of c.add.new.self in
    let name = (member_view c.args.member.now).0 in
    let value = (member_view c.args.member.now).1 in
    let place = get_or old c.args.place [] ++ name ∷ [] in
    let number = c.in_ok-at-in-Some.ensures.number in
    let at = number.1
    ∙ ap (λ w. get_or old c.args.place [] ++ w ∷ []) (c.as_text.ensures.text ∙ c.name-in-Some.ensures.view) in
    let holding = sym c.in-Some.is ∙ c.member_holding.ensures
    ∙ ap (read_holding c.args.listed) c.name.ensures.view in
    let new = pointers_of c.add_held.new.pointers in
    let before = c.args.found.now.items in
    let after = c.add_held.new.found.items in
    let same =
    ap (λ v. held c.in-Some.holding (get_or mid c.in_ok-at-in-Some.at []) v) c.value.ensures.view
    ∙ ap (λ q. held c.in-Some.holding q value) at
    ∙ ap (λ h. member_held h place value) holding in
    on_ok c.add_held.result
    (λ h. subst (λ cs. Adds old new before after cs) same
    (added-later old mid new before after _ c.in_ok-at-in-Some.ensures.grows c.requires.found h))
    c.add_held.ensures
