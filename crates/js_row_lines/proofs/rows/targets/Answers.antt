use Rattle.std.proofs.Common.{◌≡◌, ◌++◌, length, [], ◌∷◌, get_or, ◌∙◌, arith}
use Rattle.std.proofs.lemmas.List.{length-map}
use Rattle.word_states.specs.Classes.{class_count, class_firsts}
use Rattle.word_states.specs.Rows.{targets_of, row_of}
use Rattle.js_automaton.specs.AutomatonView.{atoms_of, rows_of}
use Rattle.js_row_lines.proofs.Adding.{number_more, take_whole}
use Rattle.js_row_lines.proofs.rows.targets.Goals as goal

pub loop-class-preserved : goal.loop-class-preserved
loop-class-preserved c =
    let atoms = atoms_of c.args.automaton.now in
    let L = rows_of c.args.automaton.now in
    let w = get_or L c.args.row [] in
    let n : length (targets_of atoms L w) ≡ class_count atoms =
    length-map (class_firsts atoms) (λ x. row_of atoms L (w ++ x ∷ [])) in
    number_more (targets_of atoms L w) c.loop-class.targets.items c.push.new.self.items c.loop-class.class 0
    c.target.result
    (omega (arith, n, c.loop-class-test.true, c.classes-class-end.ensures)) c.target.ensures.target
    c.loop-class.invariant c.in_ok-push.ensures.items

pub returns : goal.returns
returns c =
    let atoms = atoms_of c.args.automaton.now in
    let L = rows_of c.args.automaton.now in
    let w = get_or L c.args.row [] in
    let n : length (targets_of atoms L w) ≡ class_count atoms =
    length-map (class_firsts atoms) (λ x. row_of atoms L (w ++ x ∷ [])) in
    c.loop-class.invariant
    ∙ take_whole (targets_of atoms L w) c.loop-class.class
    (omega (arith, n, c.loop-class-test.false, c.loop-class.auto.class-end, c.classes-class-end.ensures))
