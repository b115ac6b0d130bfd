use Rattle.std.proofs.Common.{◌≡◌, ◌∙◌, None, Some, ap, sym, to_z-of_z}
use Rattle.js_numbers.specs.declared.candidates.TheConstants.{MOST_STRUCK}
use Rattle.js_numbers.specs.Marking.{mark_of}
use Rattle.js_numbers.proofs.listed.is_met_in_block.Goals as goal

pub returns-in-None-clause-all : goal.returns-in-None-clause-all
returns-in-None-clause-all c = λ k e.
    let wrong : None ≡ Some k =
    sym c.in-None.is ∙ c.mark_of.ensures.value
    ∙ ap (mark_of MOST_STRUCK c.args.start c.args.values.now) (to_z-of_z c.ranges.x) ∙ e in
    cc
