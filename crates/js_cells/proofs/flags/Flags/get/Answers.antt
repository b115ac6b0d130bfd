use Rattle.std.proofs.Common.{◌≡◌, ◌<◌, ◌≤◌, ◌*◌, ◌∙◌, false, length, get_or, sym, ap, arith}
use Rattle.js_pattern_positions.proofs.BitsLemmas.{bit_read, length-flags_of, flag_at-get_or}
use Rattle.js_cells.proofs.flags.Flags.get.Goals as goal

pub index-requires : goal.index-requires
index-requires c =
    omega (
      arith,
      length-flags_of c.self.inside.words.items c.self.inside.len,
      ap length c.self.view_is,
      c.requires,
      c.self.invariant.0,
      c.self.inside.words.ok.0,
    )

pub returns : goal.returns
returns c =
    let words = c.self.inside.words.items in
    let len = c.self.inside.len in
    let within : c.args.place < len =
    omega (arith, length-flags_of words len, ap length c.self.view_is, c.requires) in
    let room : len ≤ 64 * length words = omega (arith, c.self.invariant.0) in
    bit_read words len c.args.place c.index.result.now within room c.index.ensures
    ∙ flag_at-get_or _ c.args.place
    ∙ ap (λ f. get_or f c.args.place false) c.self.view_is
