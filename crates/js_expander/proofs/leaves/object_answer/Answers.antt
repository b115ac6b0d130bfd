-- The alternatives of a branch at objects, or the limit that it passes.
use Rattle.std.proofs.Common.{Err, sym, subst}
use Rattle.js_objects.specs.Leaves.{Answers}
use Rattle.js_expander.proofs.leaves.object_answer.Goals as goal

pub returns-in-Ok : goal.returns-in-Ok
returns-in-Ok c = sym c.in-Ok.ensures.answer

pub returns-in-Err-LimitCounts : goal.returns-in-Err-LimitCounts
returns-in-Err-LimitCounts c =
    let b = c.args.branch.now in
    sym (subst (λ f. Answers c.args.core.now.positions b.id.number b.set (Err f)) c.in-Err-LimitCounts.field-0-is
    c.in-Err-LimitCounts.ensures.answer)

pub returns-in-Err-LimitPositions : goal.returns-in-Err-LimitPositions
returns-in-Err-LimitPositions c =
    let b = c.args.branch.now in
    sym (subst (λ f. Answers c.args.core.now.positions b.id.number b.set (Err f)) c.in-Err-LimitPositions.field-0-is
    c.in-Err-LimitPositions.ensures.answer)

pub returns-in-Err-LimitClasses : goal.returns-in-Err-LimitClasses
returns-in-Err-LimitClasses c =
    let b = c.args.branch.now in
    sym (subst (λ f. Answers c.args.core.now.positions b.id.number b.set (Err f)) c.in-Err-LimitClasses.field-0-is
    c.in-Err-LimitClasses.ensures.answer)

pub returns-in-Err-LimitStates : goal.returns-in-Err-LimitStates
returns-in-Err-LimitStates c =
    let b = c.args.branch.now in
    sym (subst (λ f. Answers c.args.core.now.positions b.id.number b.set (Err f)) c.in-Err-LimitStates.field-0-is
    c.in-Err-LimitStates.ensures.answer)

pub returns-in-Err-LimitPlans : goal.returns-in-Err-LimitPlans
returns-in-Err-LimitPlans c =
    let b = c.args.branch.now in
    sym (subst (λ f. Answers c.args.core.now.positions b.id.number b.set (Err f)) c.in-Err-LimitPlans.field-0-is
    c.in-Err-LimitPlans.ensures.answer)
