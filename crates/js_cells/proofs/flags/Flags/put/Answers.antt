use Rattle.std.proofs.Common.{◌≡◌, ◌<◌, ◌/◌, ◌∙◌, length, set, get_or, ap, arith}
use Rattle.std.proofs.lemmas.List.{get_or_read, length-set}
use Rattle.std.specs.Int.{bit_at}
use Rattle.js_pattern_positions.proofs.BitsLemmas.{length-flags_of}
use Rattle.js_cells.proofs.FlagWordLaws.{flags_of-set, clear-set, small-set}
use Rattle.js_cells.proofs.flags.Flags.put.Goals as goal

pub index-word-requires : goal.index-word-requires
index-word-requires c =
    omega (
      arith,
      length-flags_of c.self.inside.words.items c.self.inside.len,
      ap length c.self.view_is,
      c.requires,
      c.self.invariant.0,
      c.self.inside.words.ok.0,
    )

pub index_mut-requires : goal.index_mut-requires
index_mut-requires c =
    omega (
      arith,
      length-flags_of c.self.inside.words.items c.self.inside.len,
      ap length c.self.view_is,
      c.requires,
      c.self.invariant.0,
      c.self.inside.words.ok.0,
    )

pub invariant_of-self : goal.invariant_of-self
invariant_of-self c =
    let words = c.self.inside.words.items in
    let len = c.self.inside.len in
    let place = c.args.place in
    let within : place < len = omega (arith, length-flags_of words len, ap length c.self.view_is, c.requires) in
    let read : c.index-word.result.now ≡ get_or words (place / 64) 0 =
    get_or_read words (place / 64) _ (omega (arith, within, c.self.invariant.0)) c.index-word.ensures 0 in (
      length-set words (place / 64) c.with_bit.result ∙ c.self.invariant.0,
      clear-set words len place c.with_bit.result c.self.invariant.0 within
          (λ i l apart. c.with_bit.ensures.others i l apart ∙ ap (λ w. bit_at w i) read) c.self.invariant.1,
      small-set words len place c.with_bit.result c.self.invariant.0 within
          (λ i l apart. c.with_bit.ensures.others i l apart ∙ ap (λ w. bit_at w i) read) c.with_bit.type_inv
          c.self.invariant.2,
    )

pub returns : goal.returns
returns c =
    let words = c.self.inside.words.items in
    let len = c.self.inside.len in
    let place = c.args.place in
    let within : place < len = omega (arith, length-flags_of words len, ap length c.self.view_is, c.requires) in
    let read : c.index-word.result.now ≡ get_or words (place / 64) 0 =
    get_or_read words (place / 64) _ (omega (arith, within, c.self.invariant.0)) c.index-word.ensures 0 in
    flags_of-set words len place c.with_bit.result c.self.invariant.0 within
    (λ i l apart. c.with_bit.ensures.others i l apart ∙ ap (λ w. bit_at w i) read)
    c.args.flag c.with_bit.ensures.here
    ∙ ap (λ f. set f place c.args.flag) c.self.view_is
