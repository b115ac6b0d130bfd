use Rattle.std.proofs.Common.{◌∙◌, ◌<◌, ◌≤◌, length, sym, arith}
use Rattle.js_numbers.specs.declared.candidates.TheConstants.{MOST_STRUCK}
use Rattle.js_numbers.specs.View.{group_of, lists_of}
use Rattle.js_numbers.proofs.Deciding.{outcome-crossed, outcome-sets, outcome-no_sets}
use Rattle.js_numbers.proofs.ListsBorrowed.{length-lists_of, lists_of-first}
use Rattle.js_numbers.proofs.AnswerLaws.{is_right}
use Rattle.js_numbers.proofs.decision.decide.Goals as goal

pub returns-then-is_crossed : goal.returns-then-is_crossed
returns-then-is_crossed c =
    let e = sym
    (outcome-crossed MOST_STRUCK (group_of c.args.group.now)
    (sym c.is_crossed.ensures ∙ c.if-is_crossed.true)) in
    record { answer = e; right = is_right MOST_STRUCK (group_of c.args.group.now) _ c.requires e }

pub returns-in-len1-up : goal.returns-in-len1-up
returns-in-len1-up c =
    let sets = c.args.group.now.sets.now in
    let some : 1 ≤ length (lists_of sets) = omega (arith, length-lists_of sets, c.in-len1-up.len_at_least) in
    let e = c.search_values.ensures
    ∙ sym (outcome-sets MOST_STRUCK (group_of c.args.group.now) c.first-item.result.now
    (sym c.is_crossed.ensures ∙ c.if-is_crossed.false) some
    (lists_of-first sets c.first-item.result c.first-item.result c.in-len1-up.len_at_least c.first-item.is)) in
    record { answer = e; right = is_right MOST_STRUCK (group_of c.args.group.now) _ c.requires e }

pub returns-in-empty : goal.returns-in-empty
returns-in-empty c =
    let sets = c.args.group.now.sets.now in
    let none : length (lists_of sets) < 1 = omega (arith, length-lists_of sets) in
    let e = c.decide_multiples.ensures
    ∙ sym (outcome-no_sets MOST_STRUCK (group_of c.args.group.now)
    (sym c.is_crossed.ensures ∙ c.if-is_crossed.false) none) in
    record { answer = e; right = is_right MOST_STRUCK (group_of c.args.group.now) _ c.requires e }
