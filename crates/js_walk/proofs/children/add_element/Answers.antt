use Rattle.std.proofs.Common.{refl}
use Rattle.js_pointers.specs.PointersView.{pointers_of}
use Rattle.js_walk.proofs.ChildrenLemmas.{one_place, one-added, on_ok}
use Rattle.js_walk.proofs.children.add_element.Goals as goal

pub returns : goal.returns
returns c =
    let old = pointers_of c.args.pointers.now in
    let new = pointers_of c.add_index.new.self in
    let number = c.in_ok-pointer.ensures.number in
    on_ok c.add_itself.result
    (λ h. one-added old new c.args.found.now.items c.add_itself.new.found.items _ _ c.in_ok-pointer.ensures.grows
    c.requires.found (one_place number.1 refl) (h new number.0))
    c.add_itself.ensures
