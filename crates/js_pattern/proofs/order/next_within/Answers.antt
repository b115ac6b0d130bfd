use Rattle.std.proofs.Common.{arith, subst, sym, ◌∙◌}
use Rattle.js_pattern.proofs.Spans.{Begins, begins-same, begins-later, next_within}
use Rattle.js_pattern.proofs.order.next_within.Goals as goal
use Rattle.js_pattern.proofs.order.next_within.Goals.{then-group-passed-2, else-group-passed-2}

pub returns : goal.returns
returns c =
    let span = c.args.span in
    let low = c.if-group-passed-2.low in
    let group = c.group_of-group.ensures in
    let passed = c.group_of-passed.ensures in
    let begins : Begins c.args.c span low =
    elim c.if-group-passed-2.branch [
      | then-group-passed-2 w ↦ begins-same c.args.c span c.requires.group low
          (sym group ∙ w.if-group-passed-2.true ∙ passed)
          (w.low-is ∙ w.max-low.ensures)
      | else-group-passed-2 w ↦ subst (λ n. Begins c.args.c span n) (sym w.low-is)
          (begins-later c.args.c span c.requires.group
          (omega (arith, w.if-group-passed-2.false, c.if-group-passed.false, group, passed)))
    ] in
    next_within c.args.ranges.now c.args.c span low c.first_within.result begins c.first_within.ensures
