-- The goal that comes next is taken, if there is one.
use Rattle.std.proofs.Common.{rules, length, ◌≡◌, ap, sym, ◌∙◌, slice_get, Result, Ok, Err, OnOk}
use Rattle.js_explore.specs.Exploration.{with_answer}
use Rattle.js_explore.specs.ExploredView.{explored_view}
use Rattle.js_explore.proofs.Going.{goes_on}
use Rattle.js_explore.proofs.explored.Explored.step.Goals as goal
use Rattle.list_laws.proofs.Tests.{every_slice}

on_ok : {A E P Q : Type 0} (r : Result A E) → (P → Q) → OnOk r P → OnOk r Q
on_ok (Ok x) f h = f h
on_ok (Err e) f h = tt

pub expand-requires : goal.expand-requires
expand-requires g c =
    every_slice (g.E.Expander.takes c.args.expander.now) c.args.self.now.goals.keys c.len.result c.in-Some.goal.now
    c.requires.takes_all (sym c.in-Some.ensures.key)

pub returns-clause-goes_on : goal.returns-clause-goes_on
returns-clause-goes_on g c =
    let takes = g.E.Expander.takes c.args.expander.now in
    let keys = c.args.self.now.goals.keys in
    let e = explored_view c.args.self.now in
    let taken = every_slice takes keys c.len.result c.in-Some.goal.now c.requires.takes_all
    (sym c.in-Some.ensures.key) in
    let count : c.len.result ≡ length c.args.self.now.answers.items = search rules in
    on_ok c.take.result
    (λ same. goes_on c.args.most_goals c.args.most_total takes (g.E.Expander.expansion c.args.expander.now) e
    (explored_view c.take.new.self) c.in-Some.goal.now c.requires
    (ap (slice_get keys) (sym count) ∙ sym c.in-Some.ensures.key)
    (g.met.E.Expander.named_taken c.args.expander.now c.in-Some.goal.now taken)
    (same ∙ ap (with_answer c.args.most_goals c.args.most_total e) c.in_ok-expansion-in-Some.ensures))
    c.take.ensures.taken
