-- One cell has one member more.
use Rattle.std.proofs.Common.{◌≡◌, ◌+◌, arith}
use Rattle.js_check_plans.specs.Counts.{count_in}
use Rattle.js_check_plans.proofs.CountLemmas.{times-few, counts-more}
use Rattle.js_check_plans.proofs.members.Members.with.Goals as goal

pub invariant_of-result : goal.invariant_of-result
invariant_of-result c =
    let few : c.saturating_add.result ≡ count_in c.args.self.counts c.args.cell + 1 =
    grind (arith, times-few c.args.cell c.args.self.cells.items, c.args.self.counted c.args.cell) in
    record {
      counted = counts-more (count_in c.args.self.counts) (count_in c.put.new.counts) c.args.cell
          c.saturating_add.result c.in_ok-put.ensures.at c.in_ok-put.ensures.others c.args.self.cells.items
          c.push.new.self.items c.args.self.counted few c.in_ok-push.ensures.items;
    }
