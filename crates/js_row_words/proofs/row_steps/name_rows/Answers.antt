use Rattle.std.proofs.Common.{◌≡◌, ◌<◌, ◌+◌, length, sym, ◌∙◌, ap, subst, arith}
use Rattle.word_states.specs.Classes.{class_count}
use Rattle.js_automaton.specs.AutomatonView.{atoms_of, rows_of}
use Rattle.js_row_words.specs.Naming.{named}
use Rattle.js_row_words.proofs.NameSteps.{IsNaming, naming_next, naming_stays}
use Rattle.js_row_words.proofs.row_steps.name_rows.Goals.{then-target-len+in_ok-push, else-target-len}
use Rattle.js_row_words.proofs.row_steps.name_rows.Goals as goal

pub loop-class-init : goal.loop-class-init
loop-class-init c = record { count = c.requires.length; right = c.requires.steps }

pub loop-class-preserved : goal.loop-class-preserved
loop-class-preserved c =
    let atoms = atoms_of c.args.automaton.now in
    let L = rows_of c.args.automaton.now in
    let rows = c.args.automaton.now.found.1.0 in
    let within : c.loop-class.class < class_count atoms =
    omega (arith, c.loop-class-test.true, c.classes-class-end.ensures) in
    elim c.if-target-len.branch [
      | then-target-len+in_ok-push w ↦
          naming_next atoms L rows c.loop-class.steps.items c.args.row c.loop-class.class c.target.result c.requires.row
          within c.target.ensures.target c.loop-class.invariant c.if-target-len.steps.items
          (omega (arith, w.if-target-len.true, c.len.ensures))
          (ap (λ v. v.items) w.steps-is ∙ w.in_ok-push.ensures.items)
      | else-target-len w ↦
          subst (λ z. IsNaming atoms L z.items c.args.row (c.loop-class.class + 1)) (sym w.steps-is)
          (naming_stays atoms L rows c.loop-class.steps.items c.args.row c.loop-class.class c.target.result
          c.requires.row
          within c.target.ensures.target c.loop-class.invariant
          (λ e. w.if-target-len.false (omega (arith, e, c.len.ensures))))
    ]

pub returns-clause-length : goal.returns-clause-length
returns-clause-length c =
    let atoms = atoms_of c.args.automaton.now in
    let L = rows_of c.args.automaton.now in
    subst (λ z. length c.loop-class.steps.items ≡ length (named atoms L c.args.row z))
    (omega (arith, c.loop-class-test.false, c.loop-class.auto.class-end, c.classes-class-end.ensures))
    c.loop-class.invariant.count

pub returns-clause-steps : goal.returns-clause-steps
returns-clause-steps c = c.loop-class.invariant.right
