-- The first line feed is where the loop ends, or there is none.
use Rattle.std.proofs.Common.{◌≡◌, ◌≤◌, true, length, get_or, take, nat_eq, ap, sym, ◌∙◌, arith, rules}
use Rattle.std.proofs.lemmas.List.{take_all}
use Rattle.std.proofs.lemmas.List.Sums.{position_or_len_is}
use Rattle.js_top.proofs.summary.line_of.Goals as goal

pub returns-then-byte-eq10 : goal.returns-then-byte-eq10
returns-then-byte-eq10 c =
    let text = c.args.text.now in
    let here : nat_eq 10 (get_or text c.loop-end.end 0) ≡ true = search rules in
    let within : c.loop-end.end ≤ length text = omega (arith, c.loop-end-test.true) in
    ap (λ n. take n text)
    (sym (position_or_len_is (nat_eq 10) text c.loop-end.end 0 within c.loop-end.invariant (λ l. here)))

pub returns : goal.returns
returns c =
    let text = c.args.text.now in
    let all : c.loop-end.end ≡ length text = omega (arith, c.loop-end-test.false, c.loop-end.auto.end-end) in
    let first = position_or_len_is (nat_eq 10) text c.loop-end.end 0 (omega (arith, all)) c.loop-end.invariant
    (λ l. absurd (omega (arith, l, all))) in
    sym (ap (λ n. take n text) first ∙ take_all c.loop-end.end text (omega (arith, all)))
