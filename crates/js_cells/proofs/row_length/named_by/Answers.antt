use Rattle.std.proofs.Common.{◌<◌, arith}
use Rattle.word_states.specs.Classes.{class_count}
use Rattle.js_automaton.specs.AutomatonView.{atoms_of, rows_of}
use Rattle.js_cells.proofs.Levels.{named_begins, named_more}
use Rattle.js_cells.proofs.row_length.named_by.Goals as goal

pub loop-class-init : goal.loop-class-init
loop-class-init c =
    named_begins (atoms_of c.args.automaton.now) (rows_of c.args.automaton.now) c.args.automaton.now.found.1.0
    c.args.row c.args.named c.requires.named

pub loop-class-preserved : goal.loop-class-preserved
loop-class-preserved c =
    let small : c.loop-class.class < class_count (atoms_of c.args.automaton.now) =
    omega (arith, c.loop-class-test.true, c.classes-class-end.ensures) in
    named_more (atoms_of c.args.automaton.now) (rows_of c.args.automaton.now) c.args.automaton.now.found.1.0
    c.args.row c.loop-class.class c.args.named c.loop-class.next c.target.result c.max-next.result c.requires.row small
    c.target.ensures.target c.target.ensures.within c.max-next.ensures c.loop-class.invariant
