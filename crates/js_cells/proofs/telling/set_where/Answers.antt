use Rattle.std.proofs.Common.{arith, ◌+◌, [], take, get_or, length, nat_eq, ap, subst}
use Rattle.std.specs.List.{list_any}
use Rattle.std.proofs.lemmas.Grind.{common_steps}
use Rattle.js_cells.specs.Told.{AreSet}
use Rattle.js_cells.proofs.ToldLaws.{set_lists}
use Rattle.js_cells.proofs.telling.set_where.Goals as goal

pub loop-number-preserved : goal.loop-number-preserved
loop-number-preserved c =
    let numbers = c.args.numbers.now in
    let i = c.loop-number.number-index in
    let lists = c.args.truths.now in
    let mid = c.loop-number.told.items in
    record {
      below = grind (arith, common_steps);
      set = set_lists c.args.flag c.args.place c.args.told.now.items mid lists numbers i 0 c.set_rows.new.told.items
          c.loop-number-test.true c.loop-number.invariant.set
          (subst (λ z. AreSet (λ r. list_any (nat_eq r) z) c.args.flag c.args.place mid c.set_rows.new.told.items)
          c.of.ensures c.set_rows.ensures);
    }
