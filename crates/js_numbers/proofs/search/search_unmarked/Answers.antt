use Rattle.std.proofs.Common.{to_z, of_z, ◌∙◌, Ok, ap, sym, to_z-of_z, FitsSigned, rules, arith}
use Rattle.std.specs.Int.{w128}
use Rattle.js_numbers.specs.declared.candidates.TheConstants.{MOST_STRUCK}
use Rattle.js_numbers.specs.View.{group_of, cases_view, reach_view}
use Rattle.js_numbers.proofs.Searching.{StruckBefore, answer_among-Err, answer_among-Ok, answer_among-limit_Ok, answer_among-limit_Err, struck_more}
use Rattle.js_numbers.proofs.MarkLaws.{struck_by_mark}
use Rattle.js_numbers.proofs.search.search_unmarked.Goals as goal
use Rattle.js_numbers.proofs.search.search_unmarked.Goals.{After-loop-k}

pub returns-in-Err : goal.returns-in-Err
returns-in-Err c =
    sym (answer_among-Err MOST_STRUCK c.args.m (group_of c.args.group.now) c.loop-k.k (cases_view c.in-Err.why)
    c.loop-k-test.true
    c.loop-k.invariant (sym c.reach.ensures ∙ ap reach_view c.in-Err.is))

pub returns-then-not-struck-k : goal.returns-then-not-struck-k
returns-then-not-struck-k c =
    let g = group_of c.args.group.now in
    let fits : FitsSigned w128 c.in-Ok.x = search rules in
    let here = sym c.reach.ensures ∙ ap reach_view c.in-Ok.is ∙ ap Ok (sym (to_z-of_z fits)) in
    let spared =
    sym (struck_by_mark MOST_STRUCK c.args.m g c.loop-k.k
    (to_z w128 (of_z w128 c.in-Ok.x)) c.args.struck.now
    c.requires.marks c.loop-k-test.true here)
    ∙ c.if-not-struck-k.true in
    sym (answer_among-Ok MOST_STRUCK c.args.m g c.loop-k.k
    (to_z w128 (of_z w128 c.in-Ok.x)) c.loop-k-test.true c.loop-k.invariant here spared)

pub loop-k-preserved : goal.loop-k-preserved
loop-k-preserved c =
    let g = group_of c.args.group.now in
    let fits : FitsSigned w128 c.in-Ok.x = search rules in
    let here = sym c.reach.ensures ∙ ap reach_view c.in-Ok.is ∙ ap Ok (sym (to_z-of_z fits)) in
    let struck =
    sym (struck_by_mark MOST_STRUCK c.args.m g c.loop-k.k
    (to_z w128 (of_z w128 c.in-Ok.x)) c.args.struck.now
    c.requires.marks c.loop-k-test.true here)
    ∙ c.if-not-struck-k.false in
    struck_more c.args.m g c.loop-k.k (to_z w128 (of_z w128 c.in-Ok.x)) c.loop-k.invariant here struck

-- all of them are struck where the loop ends
all_struck : (c : After-loop-k) → StruckBefore c.args.m (group_of c.args.group.now) MOST_STRUCK
all_struck c j l = c.loop-k.invariant j (omega arith)

pub returns-in-Ok-reach : goal.returns-in-Ok-reach
returns-in-Ok-reach c =
    sym (answer_among-limit_Ok MOST_STRUCK c.args.m (group_of c.args.group.now) c.in-Ok-reach.field-0
    (all_struck (goal.at.returns-in-Ok-reach c).After-loop-k) (sym c.reach-2.ensures ∙ ap reach_view c.in-Ok-reach.is))

pub returns-in-Err-reach : goal.returns-in-Err-reach
returns-in-Err-reach c =
    sym (answer_among-limit_Err MOST_STRUCK c.args.m (group_of c.args.group.now) (cases_view c.in-Err-reach.why)
    (all_struck (goal.at.returns-in-Err-reach c).After-loop-k)
    (sym c.reach-2.ensures ∙ ap reach_view c.in-Err-reach.is))
