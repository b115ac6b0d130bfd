use Rattle.std.proofs.Common.{◌≡◌, pos, to_z, of_z, get_or, inl, inr, ap, sym, ◌∙◌, to_z-of_z, rules, FitsSigned, arith}
use Rattle.std.specs.Int.{w128}
use Rattle.std.proofs.lemmas.Bool.{cases_lt}
use Rattle.js_numbers.specs.declared.candidates.TheConstants.{MOST_STRUCK}
use Rattle.number_groups.specs.Group.{is_met}
use Rattle.js_numbers.specs.View.{group_of}
use Rattle.js_numbers.specs.Marking.{mark_of}
use Rattle.js_numbers.proofs.listed.first_met.Goals as goal

pub returns-then-is_met_in_block : goal.returns-then-is_met_in_block
returns-then-is_met_in_block c =
    let place = c.loop-place.place in
    let fits : FitsSigned w128 (get_or c.as_slice-items.result.now place (pos 0)) = search rules in
    let item = to_z-of_z fits ∙ ap (λ xs. get_or xs place (pos 0)) c.as_slice-items.ensures in
    record {
      within = omega arith;
      before = c.loop-place.invariant;
      here = λ l.
          ap (is_met (group_of c.args.group.now)) (sym item)
          ∙ c.is_met_in_block.ensures.met c.if-is_met_in_block.true;
    }

pub loop-place-preserved : goal.loop-place-preserved
loop-place-preserved c = λ j k l e. elim (cases_lt j c.loop-place.place) [
  | inl h ↦ c.loop-place.invariant j k h e
  | inr h ↦
      let place = c.loop-place.place in
      let y = get_or c.as_slice-items.result.now place (pos 0) in
      let fits : FitsSigned w128 y = search rules in
      let same : j ≡ place = omega arith in
      let item : get_or c.args.values.now j (pos 0) ≡ to_z w128 (of_z w128 y) =
      ap (λ i. get_or c.args.values.now i (pos 0)) same
      ∙ sym (to_z-of_z fits ∙ ap (λ xs. get_or xs place (pos 0)) c.as_slice-items.ensures) in
      ap (is_met (group_of c.args.group.now)) item
      ∙ sym (c.is_met_in_block.ensures.all k (ap (mark_of MOST_STRUCK c.args.start c.args.values.now) (sym item) ∙ e))
      ∙ c.if-is_met_in_block.false
]

pub returns : goal.returns
returns c = record {
  within = omega arith;
  before = λ j k l e. c.loop-place.invariant j k (omega arith) e;
  here = λ l. absurd (omega arith);
}
