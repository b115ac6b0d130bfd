use Rattle.std.proofs.Common.{◌+◌, ◌<◌, length, sym, subst, arith}
use Rattle.js_automaton.specs.AutomatonView.{atoms_of, rows_of}
use Rattle.js_cells.proofs.Levels.{IsLevel, level_begins, level_stays, level_ends}
use Rattle.js_cells.proofs.row_length.word_length.Goals.{then-before-end, else-before-end}
use Rattle.js_cells.proofs.row_length.word_length.Goals as goal

pub loop-before-init : goal.loop-before-init
loop-before-init c =
    level_begins (atoms_of c.args.automaton.now) (rows_of c.args.automaton.now) c.args.automaton.now.found.1.0

pub loop-before-preserved : goal.loop-before-preserved
loop-before-preserved c =
    let atoms = atoms_of c.args.automaton.now in
    let L = rows_of c.args.automaton.now in
    let are = c.args.automaton.now.found.1.0 in
    let row = c.loop-before.before in
    let more = c.named_by-named.result in
    let behind : row + 1 < length L = omega (arith, c.loop-before-test.true, c.requires) in
    elim c.if-before-end.branch [
      | then-before-end w ↦
          subst (λ n. IsLevel atoms L (row + 1) n c.if-before-end.end more) (sym w.letters-is)
          (subst (λ end. IsLevel atoms L (row + 1) (c.loop-before.letters + 1) end more) (sym w.end-is)
          (level_ends atoms L are row c.loop-before.letters c.loop-before.end c.loop-before.named more
          c.loop-before.invariant c.named_by-named.ensures w.if-before-end.true behind))
      | else-before-end w ↦
          subst (λ n. IsLevel atoms L (row + 1) n c.if-before-end.end more) (sym w.letters-is)
          (subst (λ end. IsLevel atoms L (row + 1) c.loop-before.letters end more) (sym w.end-is)
          (level_stays atoms L are row c.loop-before.letters c.loop-before.end c.loop-before.named more
          c.loop-before.invariant c.named_by-named.ensures w.if-before-end.false behind))
    ]
