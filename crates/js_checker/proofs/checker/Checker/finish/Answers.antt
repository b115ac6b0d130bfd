-- The stage decides, and some lines led to it.
use Rattle.std.proofs.Common.{refl, arith}
use Rattle.position_laws.proofs.Tables.{is_table-IsTable}
use Rattle.verdicts.specs.Verdict.{at_end, at_part}
use Rattle.js_checker.specs.JudgeView.{stage_of}
use Rattle.js_checker.proofs.CheckerLemmas.{told_again, ended_accepted, ended_part, open_rejected, open_part, ended_sound, told_next}
use Rattle.js_checker.proofs.checker.Checker.finish.Goals as goal
use Rattle.std.proofs.lemmas.Bool.{false≢true}

pub returns-in-Some-clause-broken : goal.returns-in-Some-clause-broken
returns-in-Some-clause-broken c =
    let x = c.args.self.now in
    let q = x.question in
    λ ls. told_again q.core.now.positions q.premise.0 q.conclusion.0 at_end x.fault c.in-Some.fault (stage_of x.judge)
    x.lines ls c.in-Some.is

pub returns-in-Some-clause-before_end : goal.returns-in-Some-clause-before_end
returns-in-Some-clause-before_end c =
    let x = c.args.self.now in
    let q = x.question in
    λ ls. told_again q.core.now.positions q.premise.0 q.conclusion.0 at_part x.fault c.in-Some.fault (stage_of x.judge)
    x.lines ls c.in-Some.is

pub returns-then-is_ended-clause-accepted : goal.returns-then-is_ended-clause-accepted
returns-then-is_ended-clause-accepted c =
    let x = c.args.self.now in
    let q = x.question in
    ended_accepted q.core.now.positions q.premise.0 q.conclusion.0 x.fault (stage_of x.judge) x.lines c.in_default.is
    (c.if-is_ended.ensures.0 refl)

pub returns-then-is_ended-clause-behind_end : goal.returns-then-is_ended-clause-behind_end
returns-then-is_ended-clause-behind_end c =
    let x = c.args.self.now in
    let q = x.question in
    ended_part q.core.now.positions q.premise.0 q.conclusion.0 x.fault (stage_of x.judge) x.lines c.in_default.is
    (c.if-is_ended.ensures.0 refl)

pub returns-then-is_ended-clause-sound : goal.returns-then-is_ended-clause-sound
returns-then-is_ended-clause-sound c =
    let x = c.args.self.now in
    let q = x.question in
    ended_sound q.core.now.positions q.premise.0 q.conclusion.0
    (is_table-IsTable q.core.now.positions q.core.now.ranks c.len-length.ensures.table
    (omega (arith, q.premise_in_table)))
    (stage_of x.judge) x.lines (c.if-is_ended.ensures.0 refl) (x.reached c.in_default.is)

pub returns-clause-broken : goal.returns-clause-broken
returns-clause-broken c =
    let x = c.args.self.now in
    let q = x.question in
    open_rejected q.core.now.positions q.premise.0 q.conclusion.0 x.fault (stage_of x.judge) x.lines c.in_default.is
    (λ e. false≢true (c.if-is_ended.ensures.1 e)) c.number.result c.number.ensures

pub returns-clause-before_end : goal.returns-clause-before_end
returns-clause-before_end c =
    let x = c.args.self.now in
    let q = x.question in
    open_part q.core.now.positions q.premise.0 q.conclusion.0 x.fault (stage_of x.judge) x.lines c.in_default.is
    (λ e. false≢true (c.if-is_ended.ensures.1 e)) c.number.result c.number.ensures

pub returns-in-Some-clause-next : goal.returns-in-Some-clause-next
returns-in-Some-clause-next c = told_next c.args.self.now c.in-Some.fault c.in-Some.is
