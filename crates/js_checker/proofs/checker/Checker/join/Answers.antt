-- A piece more; after a fault whatever comes is taken.
use Rattle.std.proofs.Common.{◌++◌, ◌+◌, map, take, drop, refl, ◌∙◌, arith}
use Rattle.js_lines.specs.View.{line_view}
use Rattle.js_checker.specs.Entries.{lines_in, joined}
use Rattle.js_checker.proofs.TakingLemmas.{took_on, took_stopped, views_around, lengths_around}
use Rattle.js_checker.proofs.checker.Checker.join.Goals as goal

pub take_piece-requires-clause-few : goal.take_piece-requires-clause-few
take_piece-requires-clause-few c =
    let whole = lengths_around c.args.pieces.now c.loop-i.i c.index-pieces-i.result c.loop-i-test.true
    c.index-pieces-i.is in
    omega (arith, whole, c.loop-i.invariant.lines, c.requires.few)

pub returns-in_err-all_entries-clause-stands : goal.returns-in_err-all_entries-clause-stands
returns-in_err-all_entries-clause-stands c =
    let ps = c.args.pieces.now in
    let i = c.loop-i.i in
    let p = c.index-pieces-i.result in
    let front = map line_view (joined (take i ps)) in
    took_stopped c.args.self.now c.take_piece.new.self c.in_err-all_entries.field-0.0 (front ++ lines_in p)
    (map line_view (joined (drop (i + 1) ps))) (map line_view (joined ps)) c.in_err-all_entries.ensures.stopped
    (took_on c.args.self.now c.loop-i.self c.take_piece.new.self front (lines_in p) (front ++ lines_in p)
    c.loop-i.invariant.stands c.in_err-all_entries.ensures.stands refl)
    (views_around ps i p c.loop-i-test.true c.index-pieces-i.is)

pub returns-in_err-all_entries-clause-bound : goal.returns-in_err-all_entries-clause-bound
returns-in_err-all_entries-clause-bound c =
    let whole = lengths_around c.args.pieces.now c.loop-i.i c.index-pieces-i.result c.loop-i-test.true
    c.index-pieces-i.is in
    omega (arith, whole, c.loop-i.invariant.lines, c.in_err-all_entries.ensures.bound)
