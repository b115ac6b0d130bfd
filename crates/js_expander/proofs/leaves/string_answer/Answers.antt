-- The alternative of a word, or the limit that its automaton passes.
use Rattle.std.proofs.Common.{sym, subst}
use Rattle.finders.specs.Strings.{strings_of}
use Rattle.alternatives.specs.Limit as L
use Rattle.js_strings.specs.Answers.{FaultSays}
use Rattle.js_expander.proofs.Texts.{text_limit}
use Rattle.js_expander.proofs.leaves.string_answer.Goals as goal

pub returns-in-Ok : goal.returns-in-Ok
returns-in-Ok c = sym c.in-Ok.ensures.leaf

pub returns-in-Err-LimitPositions : goal.returns-in-Err-LimitPositions
returns-in-Err-LimitPositions c =
    let T = c.args.core.now.positions in
    let b = c.args.branch.now in
    text_limit T b.set b.id.number L.Positions
    (subst (FaultSays (strings_of T b.set)) c.in-Err-LimitPositions.field-0-is c.in-Err-LimitPositions.ensures.fault)

pub returns-in-Err-LimitClasses : goal.returns-in-Err-LimitClasses
returns-in-Err-LimitClasses c =
    let T = c.args.core.now.positions in
    let b = c.args.branch.now in
    text_limit T b.set b.id.number L.Classes
    (subst (FaultSays (strings_of T b.set)) c.in-Err-LimitClasses.field-0-is c.in-Err-LimitClasses.ensures.fault)

pub returns-in-Err-LimitStates : goal.returns-in-Err-LimitStates
returns-in-Err-LimitStates c =
    let T = c.args.core.now.positions in
    let b = c.args.branch.now in
    text_limit T b.set b.id.number L.States
    (subst (FaultSays (strings_of T b.set)) c.in-Err-LimitStates.field-0-is c.in-Err-LimitStates.ensures.fault)
