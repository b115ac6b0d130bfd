use Rattle.std.proofs.Common.{◌≡◌, ◌+◌, ◌/◌, ◌∙◌, if◌then◌else◌, ◌∷◌, [], ◌++◌, get_or, ap, arith, length-set}
use Rattle.std.proofs.lemmas.List.{get_or_read}
use Rattle.std.specs.Int.{bit_at}
use Rattle.js_pattern_positions.specs.Marks.{Marks}
use Rattle.js_pattern_positions.proofs.BitsLemmas.{has_room, flags_of-push, no_bits-push, top-push, top-raised}
use Rattle.js_pattern_positions.proofs.position_set.PositionSet.push.Goals as goal

pub index-word-requires : goal.index-word-requires
index-word-requires c =
    omega (
      arith,
      has_room c.self.inside.words.items c.self.inside.len _ c.self.view_is c.requires,
      c.self.inside.words.ok.0,
    )

pub index_mut-requires : goal.index_mut-requires
index_mut-requires c =
    omega (
      arith,
      has_room c.self.inside.words.items c.self.inside.len _ c.self.view_is c.requires,
      c.self.inside.words.ok.0,
    )

pub overflow_add-self : goal.overflow_add-self
overflow_add-self c = omega (arith, c.self.invariant.0, c.self.invariant.1)

pub invariant_of-self : goal.invariant_of-self
invariant_of-self c =
    let words = c.self.inside.words.items in
    let len = c.self.inside.len in
    let room = has_room words len _ c.self.view_is c.requires in
    let kept = length-set words (len / 64) c.with_bit.result in
    let read : c.index-word.result.now ≡ get_or words (len / 64) 0 =
    get_or_read words (len / 64) _ (omega (arith, room)) c.index-word.ensures 0 in
    let top : c.max-self-inside.result ≡ (if c.args.flag then len + 1 else c.self.inside.top) =
    top-raised c.args.flag len c.self.inside.top c.from.result _ c.self.invariant.2 c.from.ensures
    c.max-self-inside.ensures in (
      omega (arith, room, kept),
      omega (arith, kept, c.self.invariant.1),
      omega (arith, top, top-push c.args.flag len c.self.inside.top c.self.invariant.2),
      λ p h. no_bits-push words len c.self.inside.top c.with_bit.result c.args.flag room c.self.invariant.2
          c.with_bit.ensures.here
          (λ i l apart. c.with_bit.ensures.others i l apart ∙ ap (λ w. bit_at w i) read)
          c.self.invariant.3 p (omega (arith, top, h)),
    )

pub returns-clause-flags : goal.returns-clause-flags
returns-clause-flags c =
    let words = c.self.inside.words.items in
    let room = has_room words c.self.inside.len _ c.self.view_is c.requires in
    let read : c.index-word.result.now ≡ get_or words (c.self.inside.len / 64) 0 =
    get_or_read words (c.self.inside.len / 64) _ (omega (arith, room)) c.index-word.ensures 0 in
    flags_of-push words c.self.inside.len c.with_bit.result c.args.flag room c.with_bit.ensures.here
    (λ i l apart. c.with_bit.ensures.others i l apart ∙ ap (λ w. bit_at w i) read)
    ∙ ap (λ (s : Marks). s.flags ++ c.args.flag ∷ []) c.self.view_is
