use Rattle.std.proofs.Common.{◌≡◌, ◌∙◌, ◌+◌, List, map, length, refl, sym, ap, subst, arith, length-append}
use Rattle.std.proofs.lemmas.List.{length-map, map-append}
use Rattle.word_states.specs.Classes.{are_alike, dividers, class_firsts}
use Rattle.js_nfa.specs.AtomView.{atom_view}
use Rattle.js_automaton.specs.declared.classes.Class.{Class}
use Rattle.js_automaton.specs.Pieces.{AreNumbered}
use Rattle.js_automaton.specs.Dividing.{IsClass}
use Rattle.js_automaton.specs.ClassView.{AreClasses, first_of}
use Rattle.js_automaton.proofs.ClassSteps as S
use Rattle.js_automaton.proofs.classes.classes.Goals as goal

pub loop-first-init : goal.loop-first-init
loop-first-init c = record {
  dividing = subst (λ (cs : List Class).
      S.Dividing (dividers (map atom_view c.args.atoms.now)) (map first_of cs) c.in_ok-left.left)
      (sym c.new-classes.ensures.items)
      (S.dividing-none (dividers (map atom_view c.args.atoms.now)) c.in_ok-left.left c.in_ok-left.ensures);
  classes = subst (λ (cs : List Class). AreClasses (dividers (map atom_view c.args.atoms.now)) cs)
      (sym c.new-classes.ensures.items) (S.classes-none (dividers (map atom_view c.args.atoms.now)));
  few = omega (arith, ap length c.new-classes.ensures.items);
}

pub returns-then-len-eq-MOST-clause-limit : goal.returns-then-len-eq-MOST-clause-limit
returns-then-len-eq-MOST-clause-limit c = λ e.
    let more = S.dividing-count (dividers (map atom_view c.args.atoms.now)) (map first_of c.loop-first.classes.items)
    c.loop-first.left c.in-Some.first c.loop-first.invariant.dividing c.in-Some.ensures.member in
    omega (arith, more, length-map c.loop-first.classes.items first_of, c.len.ensures, c.if-len-eq-MOST.true)

pub loop-first-preserved : goal.loop-first-preserved
loop-first-preserved c =
    let alike = are_alike (dividers (map atom_view c.args.atoms.now)) in
    let is : IsClass (dividers (map atom_view c.args.atoms.now)) c.in_ok-set.set c.in-Some.first =
    c.in_ok-set.ensures alike
    (subst (λ starts. AreNumbered alike starts c.deref-in-Some.result.now) (sym c.deref.ensures.value)
    (subst (λ numbers. AreNumbered alike c.in_ok-pieces.pieces.starts.items numbers) (sym c.deref-in-Some.ensures.value)
    c.in_ok-pieces.ensures)) in record {
      dividing = subst (λ (cs : List Class).
          S.Dividing (dividers (map atom_view c.args.atoms.now)) (map first_of cs) c.in_ok-left-2.left)
          (sym c.in_ok-push.ensures.items)
          (rw map-append
          (S.dividing-next (dividers (map atom_view c.args.atoms.now)) (map first_of c.loop-first.classes.items)
          c.loop-first.left c.loop-first.invariant.dividing c.in-Some.first c.in-Some.ensures.member
          c.in-Some.ensures.least
          c.in_ok-set.set c.in_ok-left-2.left is
          (S.less-is c.in_ok-left-2.left c.loop-first.left c.in_ok-complement.field-0 c.in_ok-set.set
          c.in_ok-left-2.ensures
          c.in_ok-complement.ensures.members)));
      classes = subst (λ (cs : List Class). AreClasses (dividers (map atom_view c.args.atoms.now)) cs)
          (sym c.in_ok-push.ensures.items)
          (S.classes-push (dividers (map atom_view c.args.atoms.now)) c.loop-first.classes.items _
          c.loop-first.invariant.classes is);
      few =
          let longer : length c.push.new.self.items ≡ length c.loop-first.classes.items + 1 =
          ap length c.in_ok-push.ensures.items ∙ length-append c.loop-first.classes.items _ in
          omega (arith, longer, c.len.ensures, c.if-len-eq-MOST.false, c.loop-first.invariant.few);
    }

pub returns-clause-firsts : goal.returns-clause-firsts
returns-clause-firsts c =
    S.dividing-all (dividers (map atom_view c.args.atoms.now)) (map first_of c.loop-first.classes.items)
    c.loop-first.left c.loop-first.invariant.dividing (c.in_default.ensures.none.0 refl)

pub returns-clause-within : goal.returns-clause-within
returns-clause-within c =
    let all : map first_of c.loop-first.classes.items ≡ class_firsts (map atom_view c.args.atoms.now) =
    S.dividing-all (dividers (map atom_view c.args.atoms.now)) (map first_of c.loop-first.classes.items)
    c.loop-first.left c.loop-first.invariant.dividing (c.in_default.ensures.none.0 refl) in
    omega (arith, ap length all, length-map c.loop-first.classes.items first_of, c.loop-first.invariant.few)
