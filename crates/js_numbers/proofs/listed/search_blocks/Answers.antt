use Rattle.std.proofs.Common.{◌≡◌, ◌+◌, ◌*◌, ◌<◌, ◌≤◌, length, pos, get_or, ap, sym, subst, ◌∙◌, to_z-of_z, rules, FitsSigned, arith}
use Rattle.std.specs.Int.{w128}
use Rattle.std.proofs.lemmas.Grind.{div_ceil_times}
use Rattle.js_numbers.specs.declared.candidates.TheConstants.{MOST_STRUCK}
use Rattle.number_groups.specs.Cases.{Found}
use Rattle.number_groups.specs.Group.{is_met}
use Rattle.js_numbers.specs.View.{group_of}
use Rattle.number_groups.specs.Outcome.{found}
use Rattle.js_numbers.specs.Marking.{IsFirstBelow}
use Rattle.js_numbers.proofs.BlockLaws.{IsFirstBelow-more, find-IsFirstBelow, find-IsFirstBelow_none}
use Rattle.js_numbers.proofs.listed.search_blocks.Goals as goal
use Rattle.js_numbers.proofs.listed.search_blocks.Goals.{After-loop-block}

pub loop-block-preserved : goal.loop-block-preserved
loop-block-preserved c =
    let values = c.args.values.now in
    let test = is_met (group_of c.args.group.now) in
    let next : c.loop-block.block * MOST_STRUCK + MOST_STRUCK ≡ (c.loop-block.block + 1) * MOST_STRUCK = omega arith in
    subst (λ rank. IsFirstBelow rank values test c.search_block-end.result) next
    (IsFirstBelow-more MOST_STRUCK (c.loop-block.block * MOST_STRUCK) values test c.loop-block.end
    c.search_block-end.result c.loop-block.invariant c.search_block-end.ensures)

-- the blocks have all ranks where the loop ends
covered : (c : After-loop-block) → length c.args.values.now ≤ c.loop-block.block * MOST_STRUCK
covered c =
    let most = (div_ceil_times (length c.as_slice-items.result.now) MOST_STRUCK (omega arith)).0 in
    let same = ap length c.as_slice-items.ensures in
    omega (arith, most, same, c.div_ceil-block-end.ensures, c.loop-block-test.false)

pub returns-then-end-items : goal.returns-then-end-items
returns-then-end-items c =
    let end = c.loop-block.end in
    let same = c.as_slice-items.ensures in
    let fits : FitsSigned w128 (get_or c.as_slice-items.result.now end (pos 0)) = search rules in
    ap Found (to_z-of_z fits ∙ ap (λ xs. get_or xs end (pos 0)) same)
    ∙ sym (ap found (find-IsFirstBelow (c.loop-block.block * MOST_STRUCK) c.args.values.now
    (is_met (group_of c.args.group.now)) end c.loop-block.invariant
    (covered (goal.at.returns-then-end-items c).After-loop-block)
    (subst (λ xs. end < length xs) same c.if-end-items.true)))

pub returns-else-end-items : goal.returns-else-end-items
returns-else-end-items c =
    let end = c.loop-block.end in
    sym (ap found (find-IsFirstBelow_none (c.loop-block.block * MOST_STRUCK) c.args.values.now
    (is_met (group_of c.args.group.now)) end c.loop-block.invariant
    (covered (goal.at.returns-else-end-items c).After-loop-block)
    (subst (λ xs. length xs ≤ end) c.as_slice-items.ensures c.if-end-items.false)))
