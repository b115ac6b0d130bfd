use Rattle.std.proofs.Common.{rules, ◌≡◌, false, arith}
use Rattle.js_match.specs.Places.{marked}
use Rattle.js_match.proofs.Marks.{unmarked-set}
use Rattle.js_match.proofs.places.mark_one.Goals as goal

pub returns-in_ok-push-clause-fewer : goal.returns-in_ok-push-clause-fewer
returns-in_ok-push-clause-fewer c h =
    let was : marked c.args.marks.now.items c.args.place ≡ false = search rules in
    let less = unmarked-set c.args.marks.now.items c.args.place c.requires was in
    let longer = c.in_ok-push.ensures.len in
    omega (arith, less, longer)
