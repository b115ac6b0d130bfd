use Rattle.std.proofs.Common.{◌≡◌, ◌+◌, ◌*◌, ◌^◌, ◌<◌, ◌&&◌, false, length, inl, inr, ap, arith}
use lib.Count.{count_trailing_zeros}
use Rattle.std.specs.Prelude.{bit_and}
use Rattle.std.proofs.lemmas.Bool.{cases_lt}
use Rattle.std.proofs.lemmas.Nat.{and_le_l}
use Rattle.std.proofs.lemmas.Nat.Bits.{bit_at_above}
use Rattle.state_laws.specs.Flow.{flag_at}
use Rattle.js_pattern_positions.proofs.SetLemmas.{InBoth, both_words, both-within, first_in_word, none_in_word, some_both-true, some_both-false}
use Rattle.js_pattern_positions.proofs.position_set.PositionSet.meets.Goals as goal

pub returns-then-word-ne0 : goal.returns-then-word-ne0
returns-then-word-ne0 c =
    let ours = c.args.self.now.flags in
    let theirs = c.args.other.now.flags in
    let start = 64 * c.loop-index.index in
    let word = bit_and c.word.result c.word-in-loop-index.result in
    let fits : word < 2 ^ 64 = omega (arith, c.word.type_inv, and_le_l c.word.result c.word-in-loop-index.result) in
    let bits = both_words c.word.result c.word-in-loop-index.result c.loop-index.index ours theirs c.word.ensures
    c.word-in-loop-index.ensures in
    let found = first_in_word word start 64 (InBoth ours theirs) bits (omega (arith, c.if-word-ne0.true)) fits
    (λ i h. bit_at_above word 64 i fits h) in
    some_both-true (flag_at ours) (flag_at theirs) (length ours) (start + count_trailing_zeros 64 word)
    (both-within ours theirs (start + count_trailing_zeros 64 word) found) found

pub loop-index-preserved : goal.loop-index-preserved
loop-index-preserved c = λ p l.
    let ours = c.args.self.now.flags in
    let theirs = c.args.other.now.flags in
    let start = 64 * c.loop-index.index in
    elim (cases_lt p start) as (λ _. (flag_at ours p && flag_at theirs p) ≡ false) [
      | inl low ↦ c.loop-index.invariant p low
      | inr high ↦
          none_in_word (bit_and c.word.result c.word-in-loop-index.result) start 64 (InBoth ours theirs)
          (both_words c.word.result c.word-in-loop-index.result c.loop-index.index ours theirs c.word.ensures
          c.word-in-loop-index.ensures)
          (omega (arith, c.if-word-ne0.false)) p high (omega (arith, l))
    ]

pub returns : goal.returns
returns c =
    let ours = c.args.self.now.flags in
    let theirs = c.args.other.now.flags in
    some_both-false (flag_at ours) (flag_at theirs) (length ours)
    (λ p l. elim (cases_lt p (64 * c.loop-index.index)) as (λ _. (flag_at ours p && flag_at theirs p) ≡ false) [
      | inl low ↦ c.loop-index.invariant p low
      | inr high ↦
          ap (λ x. x && flag_at theirs p)
          (c.count_words-index-end.ensures.quiet p (omega (arith, high, c.loop-index-test.false)))
    ])
