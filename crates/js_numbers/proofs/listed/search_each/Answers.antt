use Rattle.std.proofs.Common.{◌≡◌, ◌<◌, length, pos, to_z, of_z, get_or, inl, inr, ap, sym, subst, ◌∙◌, to_z-of_z, rules, FitsSigned, arith}
use Rattle.std.specs.Int.{w128}
use Rattle.std.proofs.lemmas.Bool.{cases_lt}
use Rattle.number_groups.specs.Cases.{Found}
use Rattle.number_groups.specs.Group.{is_met}
use Rattle.js_numbers.specs.View.{group_of}
use Rattle.number_groups.specs.Outcome.{found}
use Rattle.js_numbers.proofs.Finding.{find-at, find-none}
use Rattle.js_numbers.proofs.listed.search_each.Goals as goal

pub returns-then-is_met : goal.returns-then-is_met
returns-then-is_met c =
    let place = c.loop-x.x-index in
    let same = c.as_slice-x-items.ensures in
    let test = is_met (group_of c.args.group.now) in
    let fits : FitsSigned w128 (get_or c.as_slice-x-items.result.now place (pos 0)) = search rules in
    let item = to_z-of_z fits ∙ ap (λ xs. get_or xs place (pos 0)) same in
    ap Found item
    ∙ sym (ap found (find-at test c.args.values.now place (pos 0)
    (subst (λ xs. place < length xs) same c.loop-x-test.true) c.loop-x.invariant
    (ap test (sym item) ∙ sym c.is_met.ensures ∙ c.if-is_met.true)))

pub loop-x-preserved : goal.loop-x-preserved
loop-x-preserved c = λ j l. elim (cases_lt j c.loop-x.x-index) [
  | inl h ↦ c.loop-x.invariant j h
  | inr h ↦
      let place = c.loop-x.x-index in
      let y = get_or c.as_slice-x-items.result.now place (pos 0) in
      let fits : FitsSigned w128 y = search rules in
      let same : j ≡ place = omega arith in
      let item : get_or c.args.values.now j (pos 0) ≡ to_z w128 (of_z w128 y) =
      ap (λ i. get_or c.args.values.now i (pos 0)) same
      ∙ sym (to_z-of_z fits ∙ ap (λ xs. get_or xs place (pos 0)) c.as_slice-x-items.ensures) in
      ap (is_met (group_of c.args.group.now)) item ∙ sym c.is_met.ensures ∙ c.if-is_met.false
]

pub returns : goal.returns
returns c =
    let size = ap length c.as_slice-x-items.ensures in
    sym (ap found (find-none (is_met (group_of c.args.group.now)) c.args.values.now (pos 0)
    (λ j l. c.loop-x.invariant j (omega (arith, size, l)))))
