use Rattle.std.proofs.Common.{reverse, option_map, ap, sym, ◌∙◌, subst}
use Rattle.finders.specs.Strings.{strings_of}
use Rattle.js_strings.specs.Answers.{FaultSays}
use Rattle.js_strings.proofs.Finding.{memory_says, passed_says}
use Rattle.js_strings.proofs.LeafLaws.{mapped_some, leaf_is, leaf_one, leaf_met}
use Rattle.js_strings.proofs.strings.string_alternatives.Goals as goal

pub returns-in_err-find-clause-fault : goal.returns-in_err-find-clause-fault
returns-in_err-find-clause-fault c =
    let X = c.args.branch.now.set in
    passed_says c.from_residual.result (strings_of c.args.core.now.positions X) c.in_err-find.field-0.0
    c.from_residual.ensures.1
    (subst (λ z. FaultSays (strings_of c.args.core.now.positions z) c.in_err-find.field-0.0) c.as_slice.ensures
    c.in_err-find.ensures.fault)

pub returns-in_err-leaf_of-clause-fault : goal.returns-in_err-leaf_of-clause-fault
returns-in_err-leaf_of-clause-fault c = memory_says c.from_residual-in_err-leaf_of.result
    (strings_of c.args.core.now.positions c.args.branch.now.set) c.from_residual-in_err-leaf_of.ensures.1

pub returns-clause-leaf : goal.returns-clause-leaf
returns-clause-leaf c =
    leaf_is c.args.core.now.positions c.args.branch.now.set c.args.branch.now.id.number c.is_some-found.result
    c.in_ok-leaf_of.field-0.alternatives c.in_ok-leaf_of.ensures
    (option_map (λ v. reverse v.items) c.in_ok-find.field-0)
    (ap (strings_of c.args.core.now.positions) (sym c.as_slice.ensures) ∙ c.in_ok-find.ensures.found)
    (c.is_some-found.ensures ∙ sym (mapped_some (λ v. reverse v.items) c.in_ok-find.field-0))

pub returns-clause-one : goal.returns-clause-one
returns-clause-one c =
    leaf_one c.args.core.now.positions c.args.branch.now.set c.args.branch.now.id.number c.is_some-found.result
    c.in_ok-leaf_of.field-0.alternatives c.in_ok-leaf_of.ensures c.args.core.now.ranks c.len-length.ensures.table
    c.requires.in_table
    (option_map (λ v. reverse v.items) c.in_ok-find.field-0)
    (ap (strings_of c.args.core.now.positions) (sym c.as_slice.ensures) ∙ c.in_ok-find.ensures.found)
    (c.is_some-found.ensures ∙ sym (mapped_some (λ v. reverse v.items) c.in_ok-find.field-0))

pub returns-clause-met : goal.returns-clause-met
returns-clause-met c =
    leaf_met c.args.core.now.positions c.args.branch.now.set c.args.branch.now.id.number c.is_some-found.result
    c.in_ok-leaf_of.field-0.alternatives c.in_ok-leaf_of.ensures c.args.core.now.ranks c.len-length.ensures.table
    c.requires.in_table
    (option_map (λ v. reverse v.items) c.in_ok-find.field-0)
    (ap (strings_of c.args.core.now.positions) (sym c.as_slice.ensures) ∙ c.in_ok-find.ensures.found)
    (c.is_some-found.ensures ∙ sym (mapped_some (λ v. reverse v.items) c.in_ok-find.field-0))
