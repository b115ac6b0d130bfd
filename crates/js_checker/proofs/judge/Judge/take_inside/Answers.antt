-- A line of the goal that was entered last leaves the goals after it.
use Rattle.std.proofs.Common.{[], ◌-◌, ◌∙◌, ap, get_or, arith}
use Rattle.std.proofs.lemmas.List.{get_or_read}
use Rattle.js_lines.specs.View.{line_view}
use Rattle.js_checker.proofs.JudgeLemmas.{inside_leaves, inside_faults}
use Rattle.js_checker.proofs.judge.Judge.take_inside.Goals as goal

pub returns-clause-taken : goal.returns-clause-taken
returns-clause-taken c =
    let j = c.args.self.now in
    let q = c.args.question in
    let gs = j.goals.items in
    let some = c.requires.well.begun c.requires.busy in
    let few = c.requires.well.entered in
    inside_leaves c.take.result q.core.now.positions q.premise.0 q.conclusion.0 (line_view c.args.line.now) j.progress
    gs c.as_slice-goals.result.now j.entered c.index-goals-self.result j.entry c.requires.progress
    c.as_slice-goals.ensures.value
    (get_or_read gs (j.entered - 1) c.index-goals-self.result (omega (arith, some, few))
    (c.index-goals-self.is
    ∙ ap (λ xs. get_or xs (j.entered - 1) c.index-goals-self.result) c.as_slice-goals.ensures.value)
    [])
    c.take.new.self c.take.ensures.taken

pub returns-clause-broken : goal.returns-clause-broken
returns-clause-broken c =
    let j = c.args.self.now in
    let q = c.args.question in
    let gs = j.goals.items in
    let some = c.requires.well.begun c.requires.busy in
    let few = c.requires.well.entered in
    inside_faults c.take.result q.core.now.positions q.premise.0 q.conclusion.0 (line_view c.args.line.now) j.progress
    gs c.as_slice-goals.result.now j.entered c.index-goals-self.result j.entry c.requires.progress
    c.as_slice-goals.ensures.value
    (get_or_read gs (j.entered - 1) c.index-goals-self.result (omega (arith, some, few))
    (c.index-goals-self.is
    ∙ ap (λ xs. get_or xs (j.entered - 1) c.index-goals-self.result) c.as_slice-goals.ensures.value)
    [])
    c.requires.busy c.take.ensures.broken
