-- A goal without an answer leaves room for itself.
use Rattle.std.proofs.Common.{◌≡◌, ◌<◌, ◌+◌, ◌++◌, ◌∷◌, [], ℕ, take, Some, None, get_or, set, length, ap, ◌∙◌, arith, length-set}
use Rattle.std.proofs.lemmas.List.{take_more_set}
use Rattle.js_rounds.specs.State.{times}
use Rattle.js_rounds.proofs.Answered.{answered_room, answered_one, noted_more}
use Rattle.js_rounds.proofs.rounds.Rounds.enter.Goals as goal

pub index_mut-requires-2 : goal.index_mut-requires-2
index_mut-requires-2 c =
    let l = answered_room c.args.self.now.known.items c.args.goal c.requires.goal c.requires.none in
    let r = c.requires.roomy in
    grind (arith, l, r.known, r.order, r.count)

pub overflow_add-self : goal.overflow_add-self
overflow_add-self c =
    let l = answered_room c.args.self.now.known.items c.args.goal c.requires.goal c.requires.none in
    let r = c.requires.roomy in
    grind (arith, l, r.known, r.order, r.count)

pub returns-clause-order : goal.returns-clause-order
returns-clause-order c =
    let l = answered_room c.args.self.now.known.items c.args.goal c.requires.goal c.requires.none in
    let r = c.requires.roomy in
    take_more_set c.args.self.now.order.items c.args.self.now.count c.args.goal
    (omega (arith, l, r.known, r.order, r.count))

pub returns-clause-roomy : goal.returns-clause-roomy
returns-clause-roomy c =
    let known = c.args.self.now.known.items in
    let order = c.args.self.now.order.items in
    let a : ℕ × ℕ = (c.args.round + 1, c.args.alternative) in
    let r = c.requires.roomy in
    let l = answered_room known c.args.goal c.requires.goal c.requires.none in
    let one = answered_one known c.args.goal a c.requires.goal c.requires.none in
    record {
      known = length-set known c.args.goal (Some a);
      order = length-set order c.args.self.now.count c.args.goal ∙ r.order;
      count = omega (arith, one, r.count);
      noted = λ g. ap (times g) (take_more_set order c.args.self.now.count c.args.goal
          (omega (arith, l, r.known, r.order, r.count)))
          ∙ noted_more known (take c.args.self.now.count order) c.args.goal a c.requires.goal c.requires.none r.noted
          g;
    }
