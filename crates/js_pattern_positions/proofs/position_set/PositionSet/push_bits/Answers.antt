use Rattle.std.proofs.Common.{◌≡◌, ◌/◌, ◌%◌, ◌∙◌, ◌∷◌, [], ◌++◌, get_or, ap, arith, length-set, eqb}
use Rattle.std.proofs.lemmas.List.{get_or_read}
use Rattle.std.specs.Int.{bit_at}
use Rattle.js_pattern_positions.specs.Marks.{Marks}
use Rattle.js_pattern_positions.specs.Bits.{flags_of}
use Rattle.js_pattern_positions.proofs.BitsLemmas.{has_room_for, has_one_word, flags_of-push_bits, no_bits-push_bits, added-fits, free-above}
use Rattle.js_pattern_positions.proofs.position_set.PositionSet.push_bits.Goals as goal

pub index-word-requires : goal.index-word-requires
index-word-requires c =
    omega (
      arith,
      has_room_for c.self.inside.words.items c.self.inside.len c.args.count _ c.self.view_is c.requires.room,
      c.requires.some,
      c.self.inside.words.ok.0,
    )

pub index_mut-requires : goal.index_mut-requires
index_mut-requires c =
    omega (
      arith,
      has_room_for c.self.inside.words.items c.self.inside.len c.args.count _ c.self.view_is c.requires.room,
      c.requires.some,
      c.self.inside.words.ok.0,
    )

pub with_bits-requires-clause-fits : goal.with_bits-requires-clause-fits
with_bits-requires-clause-fits c =
    added-fits c.args.bits c.args.count (c.self.inside.len % 64) c.requires.small
    (has_one_word c.self.inside.words.items c.self.inside.len c.args.count _ c.self.view_is c.requires.word)

pub with_bits-requires-clause-free : goal.with_bits-requires-clause-free
with_bits-requires-clause-free c = λ i l within.
    let read : c.index-word.result.now ≡ get_or c.self.inside.words.items (c.self.inside.len / 64) 0 =
    get_or_read c.self.inside.words.items (c.self.inside.len / 64) _
    (omega (
      arith,
      has_room_for c.self.inside.words.items c.self.inside.len c.args.count _ c.self.view_is c.requires.room,
      c.requires.some,
    ))
    c.index-word.ensures 0 in
    ap (λ w. eqb (bit_at w i) 1) read
    ∙ free-above c.self.inside.words.items c.self.inside.len c.self.inside.top c.self.invariant.2 c.self.invariant.3
    i l within

pub invariant_of-self : goal.invariant_of-self
invariant_of-self c =
    let words = c.self.inside.words.items in
    let len = c.self.inside.len in
    let room = has_room_for words len c.args.count _ c.self.view_is c.requires.room in
    let kept = length-set words (len / 64) c.with_bits.result in
    let read : c.index-word.result.now ≡ get_or words (len / 64) 0 =
    get_or_read words (len / 64) _ (omega (arith, room, c.requires.some)) c.index-word.ensures 0 in (
      omega (arith, room, kept),
      omega (arith, kept, c.self.invariant.1),
      omega arith,
      no_bits-push_bits words len c.with_bits.result c.args.bits c.args.count room c.requires.some
          (has_one_word words len c.args.count _ c.self.view_is c.requires.word) c.requires.small
          (λ i l. c.with_bits.ensures.below i l ∙ ap (λ w. bit_at w i) read) c.with_bits.ensures.above
          (λ p h. c.self.invariant.3 p (omega (arith, h, c.self.invariant.2))),
    )

pub returns-clause-flags : goal.returns-clause-flags
returns-clause-flags c =
    let words = c.self.inside.words.items in
    let len = c.self.inside.len in
    let room = has_room_for words len c.args.count _ c.self.view_is c.requires.room in
    let read : c.index-word.result.now ≡ get_or words (len / 64) 0 =
    get_or_read words (len / 64) _ (omega (arith, room, c.requires.some)) c.index-word.ensures 0 in
    flags_of-push_bits words len c.with_bits.result c.args.bits c.args.count room c.requires.some
    (has_one_word words len c.args.count _ c.self.view_is c.requires.word) c.requires.small
    (λ i l. c.with_bits.ensures.below i l ∙ ap (λ w. bit_at w i) read) c.with_bits.ensures.above
    ∙ ap (λ (s : Marks). s.flags ++ flags_of (c.args.bits ∷ []) c.args.count) c.self.view_is
