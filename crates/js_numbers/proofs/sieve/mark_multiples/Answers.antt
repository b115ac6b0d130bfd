use Rattle.std.proofs.Common.{◌≡◌, ◌*◌, ◌%◌, ◌==◌, None, pos, neg_ℤ, ◌-ℤ◌, to_z, of_z, ap, sym, ◌∙◌, get_or, false, ◌||◌, arith}
use Rattle.std.specs.Int.{w128}
use Rattle.std.proofs.lemmas.Int.{ints}
use Rattle.number_groups.specs.Multiples.{is_multiple}
use Rattle.js_numbers.specs.View.{group_of}
use Rattle.number_groups.specs.Outcome.{multiple_from, place}
use Rattle.js_numbers.proofs.Sizes.{abs-neg}
use Rattle.js_numbers.proofs.SieveLaws.{high_near}
use Rattle.js_numbers.proofs.sieve.mark_multiples.Goals as goal

pub returns-in-None-Some : goal.returns-in-None-Some
returns-in-None-Some c = λ k l small.
    let m = c.args.m in
    let high = c.in-None-Some.high in
    let by = c.args.step * m in
    let x = multiple_from m (neg_ℤ high) k in
    let near = high_near (group_of c.args.group.now) high c.requires.ready c.in-None-Some.is-1 in
    let opposite : to_z w128 (of_z w128 (pos 0 -ℤ to_z w128 (of_z w128 high))) ≡ neg_ℤ high = omega (arith, ints) in
    let at : neg_ℤ x ≡ place m c.args.group.now.lo c.args.group.now.hi k =
    sym (ap (λ low. place m low c.args.group.now.hi k) c.in-None-Some.is-0
    ∙ ap (λ u. place m None u k) c.in-None-Some.is-1) in
    c.mark_up-in-None-Some.ensures k l
    ∙ ap (λ b. get_or c.args.marks.now k false || b)
    (ap (λ z. is_multiple by (multiple_from m z k)) opposite
    ∙ sym (ap (λ n. n % by == 0) (abs-neg x))
    ∙ ap (is_multiple by) at)
