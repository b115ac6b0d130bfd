use Rattle.std.proofs.Common.{◌∙◌, Some, Err, true, false, ap, sym, to_z-of_z, FitsSigned, rules}
use Rattle.std.specs.Int.{w128}
use Rattle.js_numbers.specs.View.{group_of}
use Rattle.js_numbers.proofs.Sizes.{reached-Some, reached-None}
use Rattle.js_numbers.proofs.candidates.reach.Goals as goal

pub returns-in-Some : goal.returns-in-Some
returns-in-Some c =
    let fits : FitsSigned w128 c.in-Some.x = search rules in
    let here = sym c.candidate.ensures ∙ c.in-Some.is ∙ ap Some (sym (to_z-of_z fits)) in
    sym (reached-Some c.args.m (group_of c.args.group.now) c.args.k _ true here
    (sym c.is_below.ensures ∙ c.if-is_below.true))

pub returns-in-Some-2 : goal.returns-in-Some-2
returns-in-Some-2 c =
    let fits : FitsSigned w128 c.in-Some.x = search rules in
    let here = sym c.candidate.ensures ∙ c.in-Some.is ∙ ap Some (sym (to_z-of_z fits)) in
    sym (reached-Some c.args.m (group_of c.args.group.now) c.args.k _ false here
    (sym c.is_below.ensures ∙ c.if-is_below.false))

pub returns-in-None : goal.returns-in-None
returns-in-None c =
    ap Err c.after_last.ensures
    ∙ sym (reached-None c.args.m (group_of c.args.group.now) c.args.k c.requires.ready
    (sym c.candidate.ensures ∙ c.in-None.is))
