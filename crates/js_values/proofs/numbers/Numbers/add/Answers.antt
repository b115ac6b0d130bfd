use Rattle.std.proofs.Common.{◌++◌, ◌∷◌, [], true, sym, ap, subst, ◌∙◌, to_z-of_z}
use Rattle.std.specs.Ordering.{int_cmp, int_eq}
use Rattle.std.specs.BTreeSet.{Updates, contains}
use Rattle.js_values.specs.Sets.{AreNumbers}
use Rattle.js_values.proofs.OnceLaws.{added-there, added-new}
use Rattle.js_values.proofs.SetLemmas.{more_numbers}
use Rattle.js_values.proofs.numbers.Numbers.add.Goals as goal

pub returns-then-contains : goal.returns-then-contains
returns-then-contains c =
    let s = c.args.self.now in
    let same = to_z-of_z c.ranges.number in
    added-there int_eq s.list.items c.args.number
    (sym (s.are_numbers c.args.number) ∙ ap (contains int_cmp s.set) (sym same) ∙ sym c.contains.ensures
    ∙ c.if-contains.true)

pub invariant_of-self-in_default : goal.invariant_of-self-in_default
invariant_of-self-in_default c = record {
  are_numbers =
      let s = c.args.self.now in
      let same = to_z-of_z c.ranges.number in
      let pushed = c.in_ok-push.ensures.items ∙ ap (λ n. s.list.items ++ n ∷ []) same in
      subst (λ ns. AreNumbers ns c.insert.new.self) (sym pushed)
      (more_numbers s.list.items s.set c.insert.new.self c.args.number s.are_numbers
      (subst (λ n. Updates int_cmp s.set c.insert.new.self n true) same c.in_default.ensures.updates));
}

pub returns : goal.returns
returns c =
    let s = c.args.self.now in
    let same = to_z-of_z c.ranges.number in
    c.in_ok-push.ensures.items ∙ ap (λ n. s.list.items ++ n ∷ []) same
    ∙ added-new int_eq s.list.items c.args.number
    (sym (s.are_numbers c.args.number) ∙ ap (contains int_cmp s.set) (sym same) ∙ sym c.contains.ensures
    ∙ c.if-contains.false)
