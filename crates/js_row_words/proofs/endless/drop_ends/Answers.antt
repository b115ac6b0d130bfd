use Rattle.std.proofs.Common.{◌+◌, sym, subst}
use Rattle.js_automaton.specs.AutomatonView.{atoms_of, rows_of}
use Rattle.js_row_words.proofs.EndlessLaws.{AreDropped, dropped_row, dropped_none}
use Rattle.js_row_words.proofs.endless.drop_ends.Goals.{then-drop_end, else-drop_end}
use Rattle.js_row_words.proofs.endless.drop_ends.Goals as goal

pub loop-i-preserved : goal.loop-i-preserved
loop-i-preserved c =
    let atoms = atoms_of c.args.automaton.now in
    let L = rows_of c.args.automaton.now in
    elim c.if-drop_end.branch [
      | then-drop_end w ↦
          subst (λ z. AreDropped atoms L c.args.list.now c.args.left.now c.drop_end.new.left z (c.loop-i.i + 1))
          (sym w.fell-is)
          (dropped_row atoms L c.args.list.now c.args.left.now c.loop-i.left c.loop-i.fell c.loop-i.i c.loop-i.invariant
          c.drop_end.new.left c.drop_end.ensures.size c.drop_end.ensures.part
          (c.drop_end.ensures.fell w.if-drop_end.true))
      | else-drop_end w ↦
          subst (λ z. AreDropped atoms L c.args.list.now c.args.left.now c.drop_end.new.left z (c.loop-i.i + 1))
          (sym w.fell-is)
          (dropped_none atoms L c.args.list.now c.args.left.now c.loop-i.left c.loop-i.fell c.loop-i.i
          c.loop-i.invariant c.drop_end.new.left (c.drop_end.ensures.same w.if-drop_end.false)
          (c.drop_end.ensures.next w.if-drop_end.false))
    ]
