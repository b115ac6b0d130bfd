use Rattle.std.proofs.Common.{◌≡◌, ◌+◌, ◌<◌, [], take, get_or, set, length, nat_eq, refl, sym, ap, ◌∙◌, subst, arith}
use Rattle.std.specs.List.{list_any}
use Rattle.std.proofs.lemmas.List.{get_or_read}
use Rattle.js_cells.specs.Told.{AreSet}
use Rattle.js_cells.proofs.ToldLaws.{set_listed}
use Rattle.js_cells.proofs.telling.set_rows.Goals as goal

pub loop-row-preserved : goal.loop-row-preserved
loop-row-preserved c =
    let rows = c.args.rows.now in
    let i = c.loop-row.row-index in
    let row = get_or rows i 0 in
    let mid = c.loop-row.told.items in
    let within = c.requires.rows i c.loop-row-test.true in
    let low : row < length mid = omega (arith, within, c.loop-row.invariant.count) in
    let item : c.put.new.self ≡ set (get_or mid row []) c.args.place c.args.flag =
    c.put.ensures
    ∙ ap (λ v. set v c.args.place c.args.flag)
    (get_or_read mid row c.index_mut.result.now low c.index_mut.ensures.value []) in
    subst (λ z. AreSet (λ r. list_any (nat_eq r) (take (i + 1) rows)) c.args.flag c.args.place c.args.told.now.items
    (set mid row z)) (sym item)
    (set_listed c.args.flag c.args.place c.args.told.now.items mid rows i row 0 c.loop-row-test.true refl low
    c.loop-row.invariant)
