use Rattle.std.proofs.Common.{◌≡◌, ◌<◌, inl, inr, false, ap, sym, ◌∙◌, arith}
use Rattle.std.proofs.lemmas.Bool.{cases_eq}
use Rattle.word_states.specs.Classes.{class_of, class_count, is_in_class}
use Rattle.js_automaton.specs.AutomatonView.{atoms_of}
use Rattle.js_cells.proofs.TruthLaws.{scalar_is, class_is, class_below, class_found}
use Rattle.js_cells.proofs.walk.find_class.Goals as goal

pub loop-class-preserved : goal.loop-class-preserved
loop-class-preserved c = λ k l.
    let A = atoms_of c.args.automaton.now in
    let here : is_in_class A c.loop-class.class c.args.c ≡ false =
    sym (c.class_set.ensures c.args.c) ∙ sym c.contains.ensures ∙ c.if-contains.false in
    elim (cases_eq k c.loop-class.class) as (λ _. is_in_class A k c.args.c ≡ false) [
      | inl e ↦ ap (λ j. is_in_class A j c.args.c) e ∙ here
      | inr n ↦ c.loop-class.invariant k (omega (arith, l, n))
    ]

pub returns-then-contains : goal.returns-then-contains
returns-then-contains c =
    let A = atoms_of c.args.automaton.now in
    let low : c.loop-class.class < class_count A =
    omega (arith, c.loop-class-test.true, c.classes-class-end.ensures) in
    class_is A c.args.c (scalar_is c.args.c c.ranges.c.0) c.loop-class.class low
    (sym (c.class_set.ensures c.args.c) ∙ sym c.contains.ensures ∙ c.if-contains.true)

pub unreachable-requires : goal.unreachable-requires
unreachable-requires c =
    let A = atoms_of c.args.automaton.now in
    let s = scalar_is c.args.c c.ranges.c.0 in
    let low = class_below A c.args.c s in
    let none = c.loop-class.invariant (class_of A c.args.c)
    (omega (arith, low, c.loop-class-test.false, c.classes-class-end.ensures)) in
    let has = class_found A c.args.c s in cc (none, has)
