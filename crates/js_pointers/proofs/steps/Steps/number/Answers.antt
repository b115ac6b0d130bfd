use Rattle.std.proofs.Common.{◌&&◌, nat_eq, position, ap, ◌∙◌}
use Rattle.js_pointers.specs.PlacesView.{found}
use Rattle.js_pointers.proofs.NumberedLemmas.{found-position}
use Rattle.js_pointers.proofs.steps.Steps.number.Goals as goal

pub returns-clause-index : goal.returns-clause-index
returns-clause-index c =
    let s = c.self.inside in
    c.number.ensures ∙ found-position s.steps.items (found s.places) c.self.invariant.1 c.args.of c.args.token
    ∙ ap (position (λ s. nat_eq c.args.of s.0 && nat_eq c.args.token s.1)) c.self.view_is
