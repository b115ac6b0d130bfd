use Rattle.std.proofs.Common.{ap, ◌∙◌}
use Rattle.goals.specs.Signed.{has}
use Rattle.js_tableau.proofs.Having.{one-next}
use Rattle.js_tableau.proofs.members.has_one.Goals as goal

pub loop-p-preserved : goal.loop-p-preserved
loop-p-preserved g c =
    one-next (g.S.Members.members c.args.set.now) c.args.positions.now c.loop-p.p-index (record { 0 = 0 }) c.loop-p-test.true
    c.has-is_in.result (c.has-is_in.ensures ∙ ap (λ x. has x (g.S.Members.members c.args.set.now)) c.plus.ensures) _
    c.loop-p.one c.loop-p.none_yet c.has-is_out.result
    (c.has-is_out.ensures ∙ ap (λ x. has x (g.S.Members.members c.args.set.now)) c.minus.ensures) c.loop-p.invariant
