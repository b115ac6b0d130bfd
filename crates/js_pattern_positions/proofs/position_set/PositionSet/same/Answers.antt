use Rattle.std.proofs.Common.{◌≡◌, ◌+◌, ◌-◌, ◌*◌, ◌<◌, inl, inr, eqb, refl, sym, ◌∙◌, ap, arith}
use Rattle.std.specs.Int.{bit_at}
use Rattle.std.proofs.lemmas.Bool.{cases_lt}
use Rattle.std.proofs.lemmas.Nat.Bits.{bit_at-lt}
use Rattle.state_laws.specs.Flow.{flag_at}
use Rattle.js_pattern_positions.proofs.BitsLemmas.{same_bit}
use Rattle.js_pattern_positions.proofs.FlagsLemmas.{numbers-same, flags-same}
use Rattle.js_pattern_positions.proofs.position_set.PositionSet.same.Goals as goal

pub returns-then-not-have_same_bits : goal.returns-then-not-have_same_bits
returns-then-not-have_same_bits c = (
  (λ e. cc e),
  (λ e.
      let ours = c.word.result in
      let theirs = c.word-in-loop-index.result in
      sym c.if-not-have_same_bits.true
      ∙ c.have_same_bits.ensures.1
      (λ i l. same_bit (bit_at ours i) (bit_at theirs i) (bit_at-lt ours i) (bit_at-lt theirs i)
      (c.word.ensures i l
      ∙ flags-same c.args.self.now.flags c.args.other.now.flags e (64 * c.loop-index.index + i)
      ∙ sym (c.word-in-loop-index.ensures i l)))),
)

pub loop-index-preserved : goal.loop-index-preserved
loop-index-preserved c = λ p l.
    let ours = c.args.self.now.flags in
    let theirs = c.args.other.now.flags in
    let start = 64 * c.loop-index.index in
    elim (cases_lt p start) as (λ _. flag_at ours p ≡ flag_at theirs p) [
      | inl low ↦ c.loop-index.invariant p low
      | inr high ↦
          let at : p ≡ start + (p - start) = omega (arith, high) in
          let within : p - start < 64 = omega (arith, l, high) in
          ap (flag_at ours) at ∙ sym (c.word.ensures (p - start) within)
          ∙ ap (λ x. eqb x 1) (c.have_same_bits.ensures.0 c.if-not-have_same_bits.false (p - start) within)
          ∙ c.word-in-loop-index.ensures (p - start) within ∙ sym (ap (flag_at theirs) at)
    ]

pub returns : goal.returns
returns c =
    let ours = c.args.self.now.flags in
    let theirs = c.args.other.now.flags in (
      (λ e. numbers-same 0 ours theirs
          (λ p. elim (cases_lt p (64 * c.loop-index.index)) as (λ _. flag_at ours p ≡ flag_at theirs p) [
            | inl low ↦ c.loop-index.invariant p low
            | inr high ↦
                c.count_words.ensures.quiet p (omega (arith, high, c.loop-index-test.false, c.max-count.ensures))
                ∙ sym (c.count_words-2.ensures.quiet p
                (omega (arith, high, c.loop-index-test.false, c.max-count.ensures)))
          ])),
      (λ e. refl),
    )
