use Rattle.std.proofs.Common.{◌≡◌, ◌%◌, ◌==◌, ◌<◌, ◌^◌, SomeIff, inl, inr, unsigned_abs, ap, subst, ◌∙◌, to_z-of_z, rules, arith}
use Rattle.std.proofs.lemmas.Bool.{cases_lt}
use Rattle.number_groups.specs.Multiples.{lcm_of}
use Rattle.js_numbers.proofs.ListedLaws.{common_by_lcm, common_below_lcm}
use Rattle.js_numbers.proofs.listed.is_common.Goals as goal

pub returns-in-Some : goal.returns-in-Some
returns-in-Some c =
    let ms = c.args.multiples.now in
    let (small, is) = subst (λ o. SomeIff o (lcm_of ms < 2 ^ 127) (lcm_of ms)) c.in-Some.is c.requires.multiple in
    let test : c.is_multiple_of.result ≡ (c.unsigned_abs-size.result % c.in-Some.m == 0) = search rules in
    let size : c.unsigned_abs-size.result ≡ unsigned_abs c.args.x =
    c.unsigned_abs-size.ensures.value ∙ ap unsigned_abs (to_z-of_z c.ranges.x) in
    test
    ∙ ap (λ n. n % c.in-Some.m == 0) size
    ∙ ap (λ m. unsigned_abs c.args.x % m == 0) is
    ∙ common_by_lcm ms (unsigned_abs c.args.x) c.requires.positive

pub returns-in-None : goal.returns-in-None
returns-in-None c =
    let ms = c.args.multiples.now in
    let none = subst (λ o. SomeIff o (lcm_of ms < 2 ^ 127) (lcm_of ms)) c.in-None.is c.requires.multiple in
    let size : c.unsigned_abs-size.result ≡ unsigned_abs c.args.x =
    c.unsigned_abs-size.ensures.value ∙ ap unsigned_abs (to_z-of_z c.ranges.x) in
    ap (λ n. n == 0) size ∙ common_below_lcm ms (unsigned_abs c.args.x) c.requires.positive
    (elim (cases_lt (lcm_of ms) (2 ^ 127)) [ inl l ↦ absurd (none l) | inr l ↦ omega (arith, size, l) ])
