use Rattle.std.proofs.Common.{[], get_or, refl, ◌∙◌}
use Rattle.js_pointers.specs.PointersView.{pointers_of}
use Rattle.js_pointers.proofs.PointersLaws.{pointers_of-distinct}
use Rattle.js_walk.proofs.PlacesLemmas.{has_place-lookup}
use Rattle.js_walk.proofs.steps.Walked.has.Goals as goal

pub returns : goal.returns
returns c =
    let ps = pointers_of c.args.self.now.pointers in
    c.has.ensures
    ∙ has_place-lookup ps (pointers_of-distinct c.args.self.now.pointers) c.args.pointer (get_or ps c.args.pointer [])
    c.requires.pointer refl c.args.self.now.done c.requires.done
