-- The column at hand is written in the row.
use Rattle.std.proofs.Common.{◌+◌, ◌*◌, ◌<◌, ap, ◌∙◌, arith}
use Rattle.std.specs.Bool.{beq}
use Rattle.std.proofs.lemmas.List.{length-set}
use Rattle.js_name_tests.specs.NameTests.{passes}
use Rattle.js_cells.specs.View.{cells_view}
use Rattle.js_objects.proofs.Columns.{get_or-set_row, get_or-set_beside}
use Rattle.js_objects.proofs.passing.Passing.read.Goals as goal

pub loop-column-preserved : goal.loop-column-preserved
loop-column-preserved c =
    let C = cells_view c.args.cells.now in
    let p = c.loop-column.self in
    let r = c.args.row in
    let k = c.loop-column.column in
    let t = c.args.test in
    let old = c.loop-column.invariant in
    let wide : k < p.width = omega (arith, old.wide, c.loop-column-test.true) in
    let rows = c.requires.row in
    let same = ap (λ w. r * w + w) old.wide in
    let v = beq c.says.result t.truth in
    record {
      wide = old.wide;
      long = length-set p.truths.items (r * p.width + k) v ∙ old.long;
      told = get_or-set_row p.truths.items p.width r k v wide (omega (arith, rows, old.long, same)) (λ j. passes C j t)
          old.told (ap (λ b. beq b t.truth) c.says.ensures);
      others = λ d j l o.
          get_or-set_beside p.truths.items p.width r k v wide d j l o ∙ old.others d j l o;
    }
