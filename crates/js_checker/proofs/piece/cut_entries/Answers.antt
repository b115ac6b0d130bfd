-- The last piece goes up to the line that comes next.
use Rattle.std.proofs.Common.{length, take, ap, sym, ◌∙◌, arith}
use Rattle.std.proofs.lemmas.List.{take_all}
use Rattle.js_checker.specs.Entries.{joined}
use Rattle.js_checker.proofs.CutLemmas.{cut_more}
use Rattle.js_checker.proofs.piece.cut_entries.Goals as goal
use Rattle.js_checker.proofs.piece.cut_entries.Goals.{then-enters_goal+in_ok-push, else-enters_goal}

pub loop-at-preserved : goal.loop-at-preserved
loop-at-preserved c =
    let xs = c.args.lines.now in
    let l = c.loop-at in
    elim c.if-enters_goal.branch [
      | then-enters_goal+in_ok-push w ↦
          record {
            cut = ap (λ v. joined v.items) w.pieces-is
                ∙ cut_more xs l.pieces.items w.push.new.self.items l.begun l.at w.piece_of.result l.invariant.cut
                l.invariant.begun w.in_ok-push.ensures.items w.piece_of.ensures
                ∙ ap (λ n. take n xs) (sym w.begun-is);
            begun = omega (arith, w.begun-is);
            within = omega (arith, w.begun-is, c.loop-at-test.true);
          }
      | else-enters_goal w ↦
          record {
            cut = ap (λ v. joined v.items) w.pieces-is ∙ l.invariant.cut ∙ ap (λ n. take n xs) (sym w.begun-is);
            begun = omega (arith, w.begun-is, l.invariant.begun);
            within = omega (arith, w.begun-is, l.invariant.within);
          }
    ]

pub returns : goal.returns
returns c =
    let xs = c.args.lines.now in
    let l = c.loop-at in
    cut_more xs l.pieces.items c.push-2.new.self.items l.begun (length xs) c.piece_of-2.result l.invariant.cut
    l.invariant.within c.in_ok-push-2.ensures.items c.piece_of-2.ensures
    ∙ take_all (length xs) xs (omega arith)
