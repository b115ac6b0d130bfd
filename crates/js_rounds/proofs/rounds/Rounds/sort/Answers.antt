-- Only the order of what was noted changes.
use Rattle.std.proofs.Common.{◌≡◌, ◌≤◌, ◌++◌, length, take, drop, ap, sym, ◌∙◌, subst, arith}
use Rattle.js_rounds.specs.Sorted.{IsSorted}
use Rattle.js_rounds.specs.State.{times}
use Rattle.js_rounds.proofs.Answered.{answered_most, sorted_noted}
use Rattle.js_rounds.proofs.Using.{written}
use Rattle.js_rounds.proofs.rounds.Rounds.sort.Goals as goal

pub sort_part-requires-clause-to : goal.sort_part-requires-clause-to
sort_part-requires-clause-to c =
    let r = c.requires.roomy in
    let l = answered_most c.args.self.now.known.items in
    omega (arith, l, r.known, r.order, r.count, ap length c.deref_mut.ensures.value)

pub returns-clause-sorted : goal.returns-clause-sorted
returns-clause-sorted c =
    let order = c.args.self.now.order in
    let next = c.sort_part.new.order in
    let shown = c.deref_mut.ensures.value in
    let long : length next ≡ length order.items = c.sort_part.ensures.same ∙ ap length shown in
    let len : order.len ≡ length order.items = sym c.deref_mut.ensures.len ∙ ap length shown in
    subst (λ ys. IsSorted c.args.from c.args.self.now.count order.items ys)
    (sym (written order.len next order.items long len))
    (subst (λ xs. IsSorted c.args.from c.args.self.now.count xs next) shown c.sort_part.ensures)

pub returns-clause-roomy : goal.returns-clause-roomy
returns-clause-roomy c =
    let s = c.args.self.now in
    let next = c.sort_part.new.order in
    let shown = c.deref_mut.ensures.value in
    let long : length next ≡ length s.order.items = c.sort_part.ensures.same ∙ ap length shown in
    let len : s.order.len ≡ length s.order.items = sym c.deref_mut.ensures.len ∙ ap length shown in
    let all = written s.order.len next s.order.items long len in
    let r = c.requires.roomy in
    record {
      known = r.known;
      order = ap length all ∙ long ∙ r.order;
      count = r.count;
      noted = λ g. ap (λ ys. times g (take s.count ys)) all
          ∙ sorted_noted c.args.from s.count s.order.items next c.requires.from
          (subst (λ xs. IsSorted c.args.from s.count xs next) shown c.sort_part.ensures) g ∙ r.noted g;
    }
