use Rattle.std.proofs.Common.{◌≡◌, ◌*◌, ◌/◌, ◌<◌, length, length-set, get_or, refl, ap, ◌∙◌, arith}
use Rattle.std.proofs.lemmas.List.{get_or_read}
use Rattle.std.specs.Int.{bit_at}
use Rattle.js_valid.proofs.BitsLaws.{bits-more, bits-all}
use Rattle.js_valid.proofs.verdicts.Verdicts.of.Goals as goal

pub loop-place-preserved : goal.loop-place-preserved
loop-place-preserved c =
    let words = c.loop-place.words.items in
    let room : c.loop-place.place < 64 * length words = omega (arith, c.loop-place.invariant.room) in
    let read : c.index-word.result.now ≡ get_or words (c.loop-place.place / 64) 0 =
    get_or_read words (c.loop-place.place / 64) _ (omega (arith, room)) c.index-word.ensures 0 in
    record {
      room = length-set words (c.loop-place.place / 64) c.with_bit.result ∙ c.loop-place.invariant.room;
      bits = bits-more words c.args.table.now c.loop-place.place c.with_bit.result _ room c.loop-place.invariant.bits
          c.with_bit.ensures.here refl (λ i l apart. c.with_bit.ensures.others i l apart ∙ ap (λ w. bit_at w i) read);
    }

pub returns : goal.returns
returns c =
    bits-all c.loop-place.words.items c.args.table.now c.loop-place.place (omega (arith, c.loop-place-test.false))
    c.loop-place.invariant.bits
