-- The leaves are decided by their atoms, and the others by those before them.
use Rattle.std.proofs.Common.{ap, ◌∙◌, arith}
use Rattle.word_states.specs.Atom.{is_true}
use Rattle.name_laws.proofs.NameLaws.{holds_by_truths}
use Rattle.name_laws.proofs.Telling.{root-inside, root-told, true-itself}
use Rattle.js_algebra.specs.View.{places}
use Rattle.js_tableau.specs.NamePlans.{places_of}
use Rattle.js_tableau.proofs.name_plan.NamePlan.truth.Goals as goal

pub bounds-room-self-inside : goal.bounds-room-self-inside
bounds-room-self-inside c =
    omega (
      arith,
      root-inside c.args.core.now.positions c.args.self.now c.requires.plan,
      ap (λ t. t.root) c.self.view_is,
      c.requires.room,
      c.fill.auto.room,
      c.sweep.auto.room,
    )

pub returns-clause-value : goal.returns-clause-value
returns-clause-value c = λ truth same.
    root-told c.args.core.now.positions truth c.args.self.now c.self.inside.root.0 (places c.as_slice.result.now)
    (places_of c.as_slice-2.result.now) c.args.truths.now c.fill.new.room c.sweep.new.room c.requires.plan
    (ap (λ t. t.root) c.self.view_is)
    (ap places c.as_slice.ensures.value ∙ ap (λ t. t.leaves) c.self.view_is)
    (ap places_of c.as_slice-2.ensures.value ∙ ap (λ t. t.inner) c.self.view_is)
    (c.fill.ensures truth) (c.sweep.ensures truth) same

pub returns-clause-holds : goal.returns-clause-holds
returns-clause-holds c = λ w same.
    let T = c.args.core.now.positions in
    root-told T (λ a. is_true a w) c.args.self.now c.self.inside.root.0 (places c.as_slice.result.now)
    (places_of c.as_slice-2.result.now) c.args.truths.now c.fill.new.room c.sweep.new.room c.requires.plan
    (ap (λ t. t.root) c.self.view_is)
    (ap places c.as_slice.ensures.value ∙ ap (λ t. t.leaves) c.self.view_is)
    (ap places_of c.as_slice-2.ensures.value ∙ ap (λ t. t.inner) c.self.view_is)
    (c.fill.ensures (λ a. is_true a w)) (c.sweep.ensures (λ a. is_true a w)) same
    ∙ holds_by_truths T (λ a. is_true a w) w c.args.self.now.root (true-itself w _)
