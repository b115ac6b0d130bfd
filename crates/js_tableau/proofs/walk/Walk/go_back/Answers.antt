-- What was settled last is taken first.
use Rattle.std.proofs.Common.{◌≤◌, ◌∷◌, [], take, length, map, refl, arith, ap, sym, ◌∙◌, subst, length-append}
use Rattle.js_algebra.specs.View.{signed_view}
use Rattle.js_tableau.specs.Walks.{Covers}
use Rattle.std.proofs.lemmas.List.{take-append-le, take_all}
use Rattle.js_tableau.proofs.Covering.{covers-back, covers-take}
use Rattle.js_tableau.proofs.walk.Walk.go_back.Goals as goal

pub loop-self-init : goal.loop-self-init
loop-self-init c = (
  c.requires,
  refl,
  c.go_back.ensures,
  λ h. subst (λ xs. Covers xs c.args.self.now.waiting (map signed_view c.args.self.now.settled.items))
      (sym c.go_back.ensures)
      (covers-take c.args.members c.args.self.now.trail _ _ h),
)

pub loop-self-preserved : goal.loop-self-preserved
loop-self-preserved c =
    let i = c.loop-self.invariant in
    let n : c.args.settled ≤ length c.pop.new.self.items =
    omega (
      arith,
      c.len.ensures,
      ap length c.in-Some.ensures.items,
      length-append c.pop.new.self.items (c.in-Some.x ∷ []),
    ) in (
      n,
      sym (take-append-le c.args.settled c.pop.new.self.items (c.in-Some.x ∷ []) n)
          ∙ ap (take c.args.settled) (sym c.in-Some.ensures.items) ∙ i.1,
      i.2,
      λ h. subst (λ ws. Covers c.loop-self.self.trail ws (map signed_view c.pop.new.self.items))
          (sym c.in_ok-add-in-Some.ensures)
          (covers-back c.in-Some.x c.pop.new.self.items c.loop-self.self.trail c.loop-self.self.waiting
          (subst (λ ss. Covers c.loop-self.self.trail c.loop-self.self.waiting (map signed_view ss))
          c.in-Some.ensures.items (i.3 h))),
    )

pub returns-clause-members : goal.returns-clause-members
returns-clause-members c = c.loop-self.invariant.2

pub returns-clause-settled : goal.returns-clause-settled
returns-clause-settled c = sym (take_all c.args.settled c.loop-self.self.settled.items (omega (arith, c.len.ensures)))
    ∙ c.loop-self.invariant.1

pub returns-clause-covered : goal.returns-clause-covered
returns-clause-covered c = c.loop-self.invariant.3
