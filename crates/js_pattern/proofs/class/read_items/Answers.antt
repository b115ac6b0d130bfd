use Rattle.std.proofs.Common.{◌∙◌, ◌+◌, rules, arith, ap, length, length-drop}
use Rattle.std.proofs.lemmas.Bool.{ne_eqb}
use Rattle.js_pattern.proofs.Items.{items-step, items-fault}
use Rattle.js_pattern.proofs.class.read_items.Goals as goal

pub returns-in_err-count-clause-fault : goal.returns-in_err-count-clause-fault
returns-in_err-count-clause-fault c =
    let h =
    items-fault c.args.text.now c.skip-rest.result.now c.args.at c.loop-taken.taken c.index-text-taken.result
    c.loop-taken-test.true
    c.index-text-taken.is c.skip-rest.ensures
    (ne_eqb c.index-text-taken.result 93 c.if-first-eq93.false) c.in_err-count.field-0.0
    c.loop-taken.list.ranges.items c.in_err-count.ensures.adds in
    search (rules, h, c.loop-taken.invariant.so_far)

pub loop-taken-preserved : goal.loop-taken-preserved
loop-taken-preserved c = record {
  so_far =
      items-step c.args.text.now c.skip-rest.result.now c.args.at c.loop-taken.taken c.index-text-taken.result
      c.loop-taken-test.true c.index-text-taken.is c.skip-rest.ensures
      (ne_eqb c.index-text-taken.result 93 c.if-first-eq93.false) c.loop-taken.list.ranges.items
      c.read_item.new.list.ranges.items
      c.in_ok-count.count c.in_ok-count.ensures.within c.in_ok-count.ensures.adds
      ∙ c.loop-taken.invariant.so_far;
  within =
      omega (
        arith,
        c.in_ok-count.ensures.within,
        ap length c.skip-rest.ensures,
        length-drop
            (c.loop-taken.taken + 1) c.args.text.now,
      );
}
