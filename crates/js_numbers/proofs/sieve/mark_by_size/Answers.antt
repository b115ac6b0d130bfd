use Rattle.std.proofs.Common.{◌*◌, ◌-◌, ap, ◌∙◌, get_or, false, ◌||◌, arith}
use Rattle.js_numbers.specs.Marking.{is_on}
use Rattle.js_numbers.proofs.SieveLaws.{is_on-alternate}
use Rattle.js_numbers.proofs.sieve.mark_by_size.Goals as goal
use Rattle.std.proofs.Math.Bool.{or_assoc}

pub returns : goal.returns
returns c = λ k l.
    let s = c.args.step in
    let old = get_or c.args.marks.now k false in
    c.mark_each-2.ensures k (omega (arith, l, c.requires.size, c.mark_each.auto.marks))
    ∙ ap (λ b. b || is_on (2 * s - 1) (2 * s) k) (c.mark_each.ensures k (omega (arith, l, c.requires.size)))
    ∙ or_assoc old (is_on 0 (2 * s) k) (is_on (2 * s - 1) (2 * s) k)
    ∙ ap (λ b. old || b) (is_on-alternate c.args.m s k c.requires.multiple c.requires.forward.0)
