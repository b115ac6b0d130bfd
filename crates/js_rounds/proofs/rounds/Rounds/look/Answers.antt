-- The first alternative that is ready is noted.
use Rattle.std.proofs.Common.{◌≡◌, ◌+◌, take, Some, sym, ap, ◌∙◌}
use Rattle.js_waiting.specs.First.{least_place}
use Rattle.js_rounds.specs.Waking.{firsts}
use Rattle.js_rounds.proofs.Woken.{wakes, below_other, below_next, below_none}
use Rattle.js_rounds.proofs.rounds.Rounds.look.Goals as goal

pub returns-in-Some-clause-waking : goal.returns-in-Some-clause-waking
returns-in-Some-clause-waking c X f h =
    let w = c.args.self.now.waiting in
    let j = c.args.goal in
    let a = c.in-Some.alternative in
    wakes X f 0 (firsts (take j w)) (firsts (take (j + 1) w)) c.args.self.now c.tell.new.self j a h (below_other w j)
    (below_next w j ∙ sym c.in-Some.ensures ∙ ap (λ o. Some (least_place a o)) (sym (below_none w j)))
    c.requires.goal c.tell.ensures.known c.tell.ensures.order c.tell.ensures.last
