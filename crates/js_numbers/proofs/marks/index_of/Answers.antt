use Rattle.std.proofs.Common.{None, subst, sym, to_z-of_z, FitsSigned, rules}
use Rattle.std.specs.Int.{w128}
use Rattle.js_numbers.specs.declared.candidates.TheConstants.{MOST_STRUCK}
use Rattle.number_groups.specs.Outcome.{place}
use Rattle.js_numbers.specs.Marking.{IsIndex}
use Rattle.js_numbers.proofs.marks.index_of.Goals as goal

pub returns-in-Some-default-clause-value : goal.returns-in-Some-default-clause-value
returns-in-Some-default-clause-value c =
    let fits : FitsSigned w128 c.args.x = search rules in
    let near : FitsSigned w128 c.in-Some-default.low = search rules in
    subst (λ low. IsIndex MOST_STRUCK (λ k. place c.args.m low c.args.group.now.hi k) c.args.x
    c.index_up.result)
    (sym c.in-Some-default.is-0) (simp to_z-of_z at c.index_up.ensures.value)

pub returns-in-None-Some-clause-value : goal.returns-in-None-Some-clause-value
returns-in-None-Some-clause-value c =
    let fits : FitsSigned w128 c.args.x = search rules in
    let near : FitsSigned w128 c.in-None-Some.high = search rules in
    subst (λ low. IsIndex MOST_STRUCK (λ k. place c.args.m low c.args.group.now.hi k) c.args.x
    c.index_down.result) (sym c.in-None-Some.is-0)
    (subst (λ high. IsIndex MOST_STRUCK (λ k. place c.args.m None high k) c.args.x c.index_down.result)
    (sym c.in-None-Some.is-1) (simp to_z-of_z at c.index_down.ensures.value))
