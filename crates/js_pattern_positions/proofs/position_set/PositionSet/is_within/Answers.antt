use Rattle.std.proofs.Common.{◌≡◌, ◌*◌, true, inl, inr, arith}
use Rattle.std.proofs.lemmas.Bool.{cases_lt}
use Rattle.state_laws.specs.Flow.{flag_at}
use Rattle.js_pattern_positions.proofs.SetLemmas.{within_word, within_flags}
use Rattle.js_pattern_positions.proofs.position_set.PositionSet.is_within.Goals as goal

pub returns-then-word : goal.returns-then-word
returns-then-word c = (
  (λ e. cc e),
  (λ h. absurd (c.if-word.true
      (within_word c.word-word.result c.word.result c.loop-index.index c.args.self.now.flags c.args.other.now.flags
      c.word-word.ensures c.word.ensures (omega (arith, c.word-word.type_inv)) h))),
)

pub loop-index-preserved : goal.loop-index-preserved
loop-index-preserved c = λ p l.
    elim (cases_lt p (64 * c.loop-index.index)) as (λ _. flag_at c.args.self.now.flags p ≡ true
    → flag_at c.args.other.now.flags p ≡ true) [
      | inl low ↦ c.loop-index.invariant p low
      | inr high ↦
          within_flags c.word-word.result c.word.result c.loop-index.index c.args.self.now.flags
          c.args.other.now.flags c.word-word.ensures c.word.ensures c.if-word.false p high (omega (arith, l))
    ]
