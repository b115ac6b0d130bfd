use Rattle.std.proofs.Common.{◌≡◌, ◌∙◌, ◌<◌, ◌≤◌, ◌+◌, ◌*◌, ◌&&◌, ℕ, List, length, set, ap, arith}
use Rattle.std.specs.Prelude.{bit_and, slice_index}
use Rattle.std.proofs.lemmas.List.{get_or_read}
use Rattle.state_laws.specs.Flow.{flag_at}
use Rattle.state_laws.specs.FollowSets.{and_each}
use Rattle.js_pattern_positions.specs.Marks.{Marks}
use Rattle.js_pattern_positions.specs.Bits.{flags_of}
use Rattle.js_pattern_positions.specs.Walk.{Quiet}
use Rattle.js_pattern_positions.proofs.SetLemmas.{Met, NoneBetween, bit_of_and, merged-step, none_between-step, no_bits-used, flags_of-met, length_seen}
use Rattle.js_pattern_positions.proofs.position_set.PositionSet.meet.Goals.{then-word-ne0, else-word-ne0}
use Rattle.js_pattern_positions.proofs.position_set.PositionSet.meet.Goals as goal

pub index-requires : goal.index-requires
index-requires c =
    omega (
      arith,
      c.loop-index.invariant.0.0,
      c.loop-index-test.true,
      c.count_words-index-end.ensures.within,
      c.self.invariant.0,
      length_seen c.self.inside.words.items c.self.inside.len c.args.self.now c.self.view_is,
      c.loop-index.self-inside.words.ok.0,
    )

pub index_mut-requires : goal.index_mut-requires
index_mut-requires c =
    omega (
      arith,
      c.loop-index.invariant.0.0,
      c.loop-index-test.true,
      c.count_words-index-end.ensures.within,
      c.self.invariant.0,
      length_seen c.self.inside.words.items c.self.inside.len c.args.self.now c.self.view_is,
      c.loop-index.self-inside.words.ok.0,
    )

pub loop-index-preserved : goal.loop-index-preserved
loop-index-preserved c =
    let words = c.loop-index.self-inside.words.items in
    let index = c.loop-index.index in
    let word = bit_and c.index.result.now c.word.result in
    let within : index < length words =
    omega (
      arith,
      c.loop-index.invariant.0.0,
      c.loop-index-test.true,
      c.count_words-index-end.ensures.within,
      c.self.invariant.0,
      length_seen c.self.inside.words.items c.self.inside.len c.args.self.now c.self.view_is,
    ) in
    let read : c.index.result.now ≡ slice_index words index = get_or_read words index _ within c.index.ensures 0 in
    let next : List ℕ = set words index word in
    let met : Met c.self.inside.words.items next c.args.other.now.flags (index + 1) =
    rw read
    (merged-step bit_and (λ a b. a && b) bit_of_and c.self.inside.words.items words c.args.other.now.flags index
    c.word.result within c.word.ensures c.loop-index.invariant.0) in
    let low : (c.if-word-ne0.used ≤ index + 1) × NoneBetween next c.if-word-ne0.used (index + 1) =
    elim c.if-word-ne0.branch [
      | then-word-ne0 w ↦ (omega (arith, w.used-is), (λ p h l. absurd (omega (arith, w.used-is, h, l))))
      | else-word-ne0 w ↦ (
        omega (arith, w.used-is, c.loop-index.invariant.3),
        rw w.used-is
            (none_between-step words c.loop-index.used index word within (omega (arith, w.if-word-ne0))
            c.loop-index.invariant.4),
      )
    ] in (
      met,
      c.loop-index.invariant.1,
      c.loop-index.invariant.2,
      low.0,
      low.1,
    )

pub invariant_of-self : goal.invariant_of-self
invariant_of-self c =
    let flags = c.args.other.now.flags in
    let words = c.self.inside.words.items in
    let quiet : Quiet (flag_at (flags_of words c.self.inside.len)) (64 * c.count_words-index-end.result) =
    λ p h. ap (λ (s : Marks). flag_at s.flags p) c.self.view_is ∙ c.count_words-index-end.ensures.quiet p h in (
      omega (arith, c.loop-index.invariant.0.0, c.loop-index.invariant.1, c.self.invariant.0),
      omega (arith, c.loop-index.invariant.0.0, c.self.invariant.1),
      omega (
        arith,
        c.min-self-inside.ensures,
        c.loop-index.invariant.1,
        c.loop-index.invariant.2,
        c.self.invariant.2,
      ),
      no_bits-used words c.loop-index.self-inside.words.items flags c.self.inside.len c.self.inside.top
          c.count_words-index-end.result c.loop-index.index c.self.invariant.2 c.self.invariant.3
          c.loop-index-test.false quiet c.loop-index.invariant.0 c.loop-index.used c.min-self-inside.result
          c.loop-index.invariant.4 (omega (arith, c.min-self-inside.ensures, c.loop-index.invariant.2)),
    )

pub returns-clause-flags : goal.returns-clause-flags
returns-clause-flags c =
    let flags = c.args.other.now.flags in
    let words = c.self.inside.words.items in
    let quiet : Quiet (flag_at (flags_of words c.self.inside.len)) (64 * c.count_words-index-end.result) =
    λ p h. ap (λ (s : Marks). flag_at s.flags p) c.self.view_is ∙ c.count_words-index-end.ensures.quiet p h in
    ap (flags_of c.loop-index.self-inside.words.items) c.loop-index.invariant.1
    ∙ flags_of-met words c.loop-index.self-inside.words.items flags c.self.inside.len c.self.inside.top
    c.count_words-index-end.result c.loop-index.index c.self.invariant.2 c.self.invariant.3
    c.loop-index-test.false quiet c.loop-index.invariant.0
    (omega (arith, c.requires, length_seen words c.self.inside.len c.args.self.now c.self.view_is))
    ∙ ap (λ (s : Marks). and_each s.flags flags) c.self.view_is
