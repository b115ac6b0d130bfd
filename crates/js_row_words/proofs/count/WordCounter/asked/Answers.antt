use Rattle.std.proofs.Common.{◌≡◌, ◌<◌, false, cond, get_or, sym, ◌∙◌, ap, arith}
use Rattle.std.proofs.lemmas.Grind.{get_or_default_zero}
use Rattle.js_row_words.specs.CounterView.{atoms_of, rows_of}
use Rattle.word_states.specs.Classes.{class_count}
use Rattle.cell_laws.proofs.Rows.{target_in}
use Rattle.js_row_words.specs.Labels.{width_of, label_of}
use Rattle.js_row_words.proofs.LabelLaws.{mark_is}
use Rattle.js_row_words.proofs.RaisingLaws.{asked_first, asked_next}
use Rattle.js_row_words.proofs.count.WordCounter.asked.Goals.{then-marks-row, else-marks-row}
use Rattle.js_row_words.proofs.count.WordCounter.asked.Goals as goal

pub loop-class-init : goal.loop-class-init
loop-class-init c =
    let atoms = atoms_of c.args.self.now in
    let L = rows_of c.args.self.now in
    let marks = c.args.marks.now in
    let m = mark_is atoms L c.args.self.now.automaton.now.found.1.0 marks c.args.row c.requires.row in
    let asked_is : c.if-marks-row.asked ≡ cond (get_or marks c.args.row false) 1 0 =
    elim c.if-marks-row.branch [
      | then-marks-row w ↦ w.asked-is ∙ ap (λ b. cond b 1 0) (sym w.if-marks-row.true)
      | else-marks-row w ↦ w.asked-is ∙ ap (λ b. cond b 1 0) (sym w.if-marks-row.false)
    ] in
    asked_is ∙ ap (λ b. cond b 1 0) (sym m) ∙ asked_first atoms L marks c.args.labels.now c.args.row

pub loop-class-preserved : goal.loop-class-preserved
loop-class-preserved c =
    let atoms = atoms_of c.args.self.now in
    let L = rows_of c.args.self.now in
    let marks = c.args.marks.now in
    let labels = c.args.labels.now in
    let widths = c.args.self.now.widths.items in
    let wide = c.args.self.now.wide in
    let within : c.loop-class.class < class_count atoms =
    (let t = c.loop-class-test.true in let e = c.classes-class-end.ensures in omega (arith, t, e)) in
    let width_is : c.index.result.now ≡ width_of atoms c.loop-class.class =
    c.index.ensures
    ∙ get_or_default_zero widths c.loop-class.class c.index.result.now
    (let s = wide.0 in omega (arith, s, within))
    ∙ wide.1 c.loop-class.class within in
    let label_is : get_or labels c.target-target.result 0
    ≡ label_of labels (target_in atoms L c.args.row c.loop-class.class) =
    ap (λ z. get_or labels z 0) c.target-target.ensures.target in
    c.min-asked.ensures
    ∙ asked_next atoms L marks labels c.args.row c.loop-class.class c.loop-class.asked c.index.result.now
    (get_or labels c.target-target.result 0) c.loop-class.invariant width_is label_is
