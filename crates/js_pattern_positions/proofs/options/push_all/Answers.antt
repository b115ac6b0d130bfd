use Rattle.std.proofs.Common.{◌≡◌, ◌+◌, ◌-◌, ◌∙◌, ◌++◌, true, length, replicate, ap, arith, length-append}
use Rattle.std.proofs.lemmas.List.{length-replicate}
use Rattle.js_pattern_positions.proofs.OptionsLemmas.{replicate-next}
use Rattle.js_pattern_positions.proofs.options.push_all.Goals as goal

pub loop-at-preserved : goal.loop-at-preserved
loop-at-preserved c =
    let part = c.min-part.result in
    let left = c.len-at.result + c.args.count - c.loop-at.at in
    let less : c.len-at.result + c.args.count - (c.loop-at.at + part) ≡ left - part = omega arith in
    let longer : length c.push_ones.new.reads.flags ≡ length c.loop-at.reads.flags + part =
    ap length c.push_ones.ensures.flags ∙ length-append c.loop-at.reads.flags (replicate part true)
    ∙ ap (λ k. length c.loop-at.reads.flags + k) (length-replicate part true) in
    record {
      within = omega (arith, c.min-part.ensures, c.loop-at.invariant.within);
      at = omega (arith, longer, c.loop-at.invariant.at);
      room = c.push_ones.ensures.room ∙ c.loop-at.invariant.room;
      flags = ap (λ k. c.push_ones.new.reads.flags ++ replicate k true) less
          ∙ replicate-next true c.loop-at.reads.flags c.push_ones.new.reads.flags part left
          (omega (arith, c.min-part.ensures)) c.push_ones.ensures.flags
          ∙ c.loop-at.invariant.flags;
    }
