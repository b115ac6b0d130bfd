-- No member is left, and no room is missing.
use Rattle.std.proofs.Common.{nat_eq, ◌&&◌, ap, sym, ◌∙◌}
use Rattle.js_waiting.proofs.Counting.{ready_of, not_none}
use Rattle.js_waiting.proofs.counts.Counts.is_ready.Goals as goal

pub returns-then-self-eq0 : goal.returns-then-self-eq0
returns-then-self-eq0 c =
    let i = c.self.inside in
    sym (ap (λ n. nat_eq n 0 && nat_eq i.missing 0) c.if-self-eq0.true)
    ∙ ready_of c.args.self.now (record { need = i.need; places = i.places.items }) i.members i.missing c.self.view_is
    c.self.invariant.0 c.self.invariant.1

pub returns-else-self-eq0 : goal.returns-else-self-eq0
returns-else-self-eq0 c =
    let i = c.self.inside in
    let no = not_none i.members c.if-self-eq0.false in
    no ∙ sym (ap (λ b. b && nat_eq i.missing 0) no)
    ∙ ready_of c.args.self.now (record { need = i.need; places = i.places.items }) i.members i.missing c.self.view_is
    c.self.invariant.0 c.self.invariant.1
