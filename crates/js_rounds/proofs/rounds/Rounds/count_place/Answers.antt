-- The place's alternative wakes, or nothing changes.
use Rattle.std.proofs.Common.{◌≡◌, ◌+◌, ◌&&◌, not, true, length, refl, ap, sym, ◌∙◌, arith, length-set}
use Rattle.js_waiting.specs.Counts.{waiting, is_ready_at}
use Rattle.js_waiting.proofs.Counting.{waiting_less}
use Rattle.js_rounds.specs.Waking.{firsts}
use Rattle.js_rounds.proofs.Woken.{quiet, wakes, counted_other, counted_here, counted_quiet, keeps_from}
use Rattle.js_rounds.proofs.rounds.Rounds.count_place.Goals as goal

pub returns-then-lower-clause-waking : goal.returns-then-lower-clause-waking
returns-then-lower-clause-waking g c X f h =
    let w = c.args.self.now.waiting in
    let m = c.args.mention in
    let same = c.tell.ensures.waiting ∙ c.lower.ensures.counted in
    wakes X f c.args.round (firsts w) (firsts c.tell.new.self.waiting) c.args.self.now c.tell.new.self m.goal
    m.alternative h
    (λ k ne. ap (λ v. firsts v k) same ∙ counted_other w m.goal m.alternative m.place k ne)
    (ap (λ v. firsts v m.goal) same ∙ counted_here w m.goal m.alternative m.place true
    (sym c.if-lower.true ∙ c.lower.ensures.wakes
    ∙ ap (λ v. is_ready_at m.goal m.alternative v && not (is_ready_at m.goal m.alternative w)) c.lower.ensures.counted))
    c.requires.goal c.tell.ensures.known c.tell.ensures.order c.tell.ensures.last

pub returns-then-lower-clause-keeps : goal.returns-then-lower-clause-keeps
returns-then-lower-clause-keeps g c =
    keeps_from _ _ c.args.self.now c.tell.new.self _ c.requires.roomy c.tell.ensures.roomy
    (ap length c.tell.ensures.known ∙ length-set c.args.self.now.known.items c.args.mention.goal _)
    c.tell.ensures.order c.tell.ensures.has_run c.tell.ensures.mentions

pub returns-then-lower-clause-steps : goal.returns-then-lower-clause-steps
returns-then-lower-clause-steps g c =
    let m = c.args.mention in
    let same = ap waiting (c.tell.ensures.waiting ∙ c.lower.ensures.counted) in
    let less = waiting_less c.args.self.now.waiting m.goal m.alternative m.place c.requires.waits in
    omega (arith, same, less, c.lower.ensures.step)

pub returns-else-lower-clause-waking : goal.returns-else-lower-clause-waking
returns-else-lower-clause-waking g c X f h =
    let w = c.args.self.now.waiting in
    let m = c.args.mention in
    quiet X f c.args.round (firsts w) (firsts c.lower.new.self) c.args.self.now _ h
    (λ k. ap (λ v. firsts v k) c.lower.ensures.counted
    ∙ counted_quiet w m.goal m.alternative m.place k
    (sym c.if-lower.false ∙ c.lower.ensures.wakes
    ∙ ap (λ v. is_ready_at m.goal m.alternative v && not (is_ready_at m.goal m.alternative w)) c.lower.ensures.counted))
    refl refl refl

pub returns-else-lower-clause-steps : goal.returns-else-lower-clause-steps
returns-else-lower-clause-steps g c =
    let m = c.args.mention in
    let same = ap waiting c.lower.ensures.counted in
    let less = waiting_less c.args.self.now.waiting m.goal m.alternative m.place c.requires.waits in
    omega (arith, same, less, c.lower.ensures.step)
