use Rattle.std.proofs.Common.{[], get_or, ap, ◌∙◌}
use Rattle.js_doc.specs.JsonView.{map_view}
use Rattle.js_pointers.specs.PointersView.{pointers_of}
use Rattle.js_pointers.proofs.PointersLaws.{pointers_of-root}
use Rattle.js_walk.specs.FileView.{root_of}
use Rattle.js_walk.proofs.FaultLemmas.{members_same}
use Rattle.js_walk.proofs.visit.check_members.Goals as goal

pub returns-in-Ok : goal.returns-in-Ok
returns-in-Ok c =
    let ps = pointers_of c.args.pointers.now in
    members_same (root_of c.args.file.now) c.args.listed c.in_ok-short.short (get_or ps c.args.place [])
    (map_view c.args.members.now)
    (λ e. ap (λ n. get_or ps n []) (c.in_ok-short.ensures e) ∙ (pointers_of-root c.args.pointers.now).1)
    c.in-Ok.ensures
