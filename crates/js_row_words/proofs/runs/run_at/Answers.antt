use Rattle.std.proofs.Common.{◌≡◌, ◌<◌, false, ◌+◌, inl, inr, refl, sym, ◌∙◌, subst, arith}
use Rattle.std.proofs.lemmas.Bool.{cases_lt}
use Rattle.word_states.specs.Classes.{is_in_class, class_count}
use Rattle.js_automaton.specs.AutomatonView.{atoms_of}
use Rattle.js_row_words.proofs.RunLaws.{run_is, some_class}
use Rattle.js_row_words.proofs.runs.run_at.Goals as goal

pub returns-in-Some-clause-run : goal.returns-in-Some-clause-run
returns-in-Some-clause-run c =
    let atoms = atoms_of c.args.automaton.now in
    let within : c.loop-class.class < class_count atoms =
    omega (arith, c.loop-class-test.true, c.classes-class-end.ensures) in
    let few = c.min-more.ensures in
    let low = c.in-Some.ensures.0 in
    let end = c.requires.at in
    run_is atoms c.args.at c.args.end c.in-Some.last c.loop-class.class
    (record { first = c.args.at; count = c.min-more.result + 1; class = c.loop-class.class })
    within c.requires.at c.requires.end low
    (λ d l m. sym (c.class_set.ensures d) ∙ c.in-Some.ensures.1 d l m) refl refl (omega arith)
    (grind (arith, few, low, end)) (grind (arith, few, low, end))

pub loop-class-preserved : goal.loop-class-preserved
loop-class-preserved c = λ k l. elim (cases_lt k c.loop-class.class) [
  | inl m ↦ c.loop-class.invariant k m
  | inr m ↦
      let same : c.loop-class.class ≡ k = omega (arith, l, m) in
      subst (λ z. is_in_class (atoms_of c.args.automaton.now) z c.args.at ≡ false) same
      (sym (c.class_set.ensures c.args.at) ∙ c.in_default.ensures)
]

pub returns-clause-run : goal.returns-clause-run
returns-clause-run c = absurd (some_class (atoms_of c.args.automaton.now) c.args.at c.loop-class.class
    (c.requires.scalars c.args.at (omega arith) c.requires.at)
    (omega (arith, c.loop-class-test.false, c.classes-class-end.ensures)) c.loop-class.invariant)
