-- What is kept beside the path is cut with it.
use Rattle.std.proofs.Common.{◌≡◌, ◌-◌, drop, length, arith, ap, ◌∙◌}
use Rattle.std.proofs.lemmas.List.{take_rest}
use Rattle.js_plans.specs.Servers.{cells_of}
use Rattle.js_check_plans.proofs.PathLemmas.{cut-used, cut-cells, cells-few}
use Rattle.js_check_plans.proofs.path.Path.cut.Goals as goal

pub overflow_sub-count : goal.overflow_sub-count
overflow_sub-count c =
    let less : c.new_members-fewer.result ≡ length (cells_of (drop c.args.level c.args.self.servers.items)) =
    c.new_members-fewer.ensures
    ∙ ap (λ us. length (cells_of us))
    (take_rest c.deref.result.now c.args.level ∙ ap (drop c.args.level) c.deref.ensures.value) in
    omega (
      arith,
      cells-few c.args.level c.args.self.servers.items,
      less,
      c.len.ensures,
      ap length c.args.self.cells,
    )

pub invariant_of-result : goal.invariant_of-result
invariant_of-result c =
    let ws = c.args.self.servers.items in
    let cs = c.args.self.members.cells.items in
    let fewer = c.new_members-fewer.result in
    let less : fewer ≡ length (cells_of (drop c.args.level ws)) =
    c.new_members-fewer.ensures
    ∙ ap (λ us. length (cells_of us))
    (take_rest c.deref.result.now c.args.level ∙ ap (drop c.args.level) c.deref.ensures.value) in
    let count : c.len.result - fewer ≡ length cs - fewer = omega (arith, c.len.ensures) in
    record {
      reach = cut-used c.args.level ws c.truncate.new.self.items c.args.self.used.items c.truncate-2.new.self.items
          c.args.self.reach c.truncate.ensures.items c.truncate-2.ensures.items;
      cells = cut-cells c.args.level (c.len.result - fewer) fewer ws c.truncate.new.self.items cs
          c.in_ok-members.members.cells.items c.args.self.cells c.truncate.ensures.items less count
          c.in_ok-members.ensures;
    }
