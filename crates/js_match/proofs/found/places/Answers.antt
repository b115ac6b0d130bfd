use Rattle.std.proofs.Common.{sym, ◌∙◌, arith}
use Rattle.std.proofs.lemmas.Bool.{ltb-true}
use Rattle.js_match.proofs.LeadsLaws.{within-from}
use Rattle.js_match.proofs.found.places.Goals as goal

pub returns-clause-within : goal.returns-clause-within
returns-clause-within c =
    within-from c.args.length c.loop-place.places.items (λ j a.
    let l = ltb-true j c.loop-place.place (sym (c.loop-place.invariant j) ∙ a) in
    let out = c.loop-place-test.false in
    omega (arith, l, out))
