use Rattle.std.proofs.Common.{◌≡◌, ◌+◌, ◌/◌, ◌∙◌, replicate, length, ap, arith}
use Rattle.std.proofs.lemmas.List.{length-replicate}
use Rattle.js_pattern_positions.proofs.BitsLemmas.{flags_of-zeros, no_bits-zeros}
use Rattle.js_cells.proofs.FlagWordLaws.{small-zeros}
use Rattle.js_cells.proofs.flags.Flags.none.Goals as goal

zeros : (c : goal.In_ok-vec) → c.in_ok-vec.field-0.items ≡ replicate (c.args.count / 64 + 1) 0
zeros c = search (c.in_ok-vec.ensures.items_if_clones_equal)

pub invariant_of-result : goal.invariant_of-result
invariant_of-result c =
    rw (zeros c) (
      length-replicate (c.args.count / 64 + 1) 0,
      λ p l. no_bits-zeros (c.args.count / 64 + 1) p (omega arith),
      small-zeros (c.args.count / 64 + 1),
    )

pub returns : goal.returns
returns c = rw (zeros c) (flags_of-zeros (c.args.count / 64 + 1) c.args.count (omega arith))
