use Rattle.std.proofs.Common.{◌≡◌, ◌∙◌, ◌<◌, ◌||◌, length, ap, arith}
use Rattle.std.specs.Prelude.{bit_or, slice_index}
use Rattle.std.proofs.lemmas.List.{get_or_read}
use Rattle.state_laws.specs.Flow.{flag_at}
use Rattle.state_laws.specs.FollowSets.{or_each}
use Rattle.js_pattern_positions.specs.Marks.{Marks}
use Rattle.js_pattern_positions.specs.Walk.{Quiet}
use Rattle.js_pattern_positions.proofs.BitsLemmas.{no_bits-quiet}
use Rattle.js_pattern_positions.proofs.SetLemmas.{bit_of_or, merged-step, no_bits-joined, flags_of-joined, length_seen}
use Rattle.js_pattern_positions.proofs.position_set.PositionSet.join.Goals as goal

pub index_mut-requires : goal.index_mut-requires
index_mut-requires c =
    omega (
      arith,
      c.loop-index.invariant.0.0,
      c.loop-index-test.true,
      c.count_words-index-end.ensures.within,
      c.requires,
      ap Marks.room c.self.view_is,
      c.loop-index.self-inside.words.ok.0,
    )

pub loop-index-preserved : goal.loop-index-preserved
loop-index-preserved c =
    let words = c.loop-index.self-inside.words.items in
    let index = c.loop-index.index in
    let within : index < length words =
    omega (
      arith,
      c.loop-index.invariant.0.0,
      c.loop-index-test.true,
      c.count_words-index-end.ensures.within,
      c.requires,
      ap Marks.room c.self.view_is,
    ) in
    let read : c.index_mut.result.now ≡ slice_index words index =
    get_or_read words index _ within c.index_mut.ensures.value 0 in (
      rw read
          (merged-step bit_or (λ a b. a || b) bit_of_or c.self.inside.words.items words c.args.other.now.flags index
          c.word.result within c.word.ensures c.loop-index.invariant.0),
      c.loop-index.invariant.1,
      c.loop-index.invariant.2,
    )

pub invariant_of-self : goal.invariant_of-self
invariant_of-self c =
    let others = c.other.inside in
    let past : Quiet (flag_at c.args.other.now.flags) others.top =
    rw (← c.other.view_is) (no_bits-quiet others.words.items others.len others.top others.top (omega arith)
    c.other.invariant.3) in
    let size = length_seen others.words.items others.len c.args.other.now c.other.view_is in (
      omega (
        arith,
        c.loop-index.invariant.0.0,
        c.loop-index.invariant.1,
        c.self.invariant.0,
        c.max-self-inside.ensures,
        size,
        c.requires,
        ap Marks.room c.self.view_is,
      ),
      omega (arith, c.loop-index.invariant.0.0, c.self.invariant.1),
      omega (
        arith,
        c.max-self-inside.ensures,
        c.max-self-inside-2.ensures,
        c.loop-index.invariant.1,
        c.loop-index.invariant.2,
        c.self.invariant.2,
        c.other.invariant.2,
      ),
      λ p h. no_bits-joined c.self.inside.words.items c.loop-index.self-inside.words.items c.args.other.now.flags
          c.self.inside.len c.self.inside.top c.count_words-index-end.result c.loop-index.index c.self.invariant.2
          c.self.invariant.3 c.loop-index-test.false others.top c.count_words-index-end.ensures.quiet past
          c.loop-index.invariant.0 p (omega (arith, h, c.max-self-inside-2.ensures, c.loop-index.invariant.2)),
    )

pub returns-clause-flags : goal.returns-clause-flags
returns-clause-flags c =
    let others = c.other.inside in
    let flags = c.args.other.now.flags in
    let past : Quiet (flag_at flags) others.top =
    rw (← c.other.view_is)
    (no_bits-quiet others.words.items others.len others.top others.top (omega arith) c.other.invariant.3) in
    let size = length_seen others.words.items others.len c.args.other.now c.other.view_is in
    flags_of-joined c.self.inside.words.items c.loop-index.self-inside.words.items flags
    c.self.inside.len c.self.inside.top c.count_words-index-end.result c.loop-index.index c.self.invariant.2
    c.self.invariant.3 c.loop-index-test.false others.top c.count_words-index-end.ensures.quiet past
    c.loop-index.invariant.0 c.max-self-inside.result
    (omega (arith, c.max-self-inside.ensures, c.loop-index.invariant.1, size))
    (omega (arith, size, c.other.invariant.2))
    ∙ ap (λ (s : Marks). or_each s.flags flags) c.self.view_is
