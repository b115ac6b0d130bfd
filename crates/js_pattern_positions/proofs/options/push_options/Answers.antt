use Rattle.std.proofs.Common.{◌≡◌, ◌+◌, ◌-◌, ◌∙◌, ◌++◌, false, length, replicate, sym, ap, arith, length-append}
use Rattle.state_laws.specs.Flow.{flag_at}
use Rattle.js_pattern_positions.specs.Choices.{options_begun}
use Rattle.js_pattern_positions.proofs.OptionsLemmas.{options-all, options-next}
use Rattle.js_pattern_positions.proofs.options.push_options.Goals as goal

pub returns-then-here-clause-flags : goal.returns-then-here-clause-flags
returns-then-here-clause-flags c =
    c.push_all.ensures.flags
    ∙ ap (λ z. c.loop-at.reads.flags ++ z)
    (sym (options-all (flag_at c.args.read.now.flags) _ (length c.loop-at.reads.flags) c.loop-at.here c.if-here.true))
    ∙ c.loop-at.invariant.flags

pub loop-at-preserved : goal.loop-at-preserved
loop-at-preserved c =
    let read = flag_at c.args.read.now.flags in
    let left = c.len-at.result + c.args.count - c.loop-at.at in
    let less : c.len-at.result + c.args.count - (c.loop-at.at + 1) ≡ left - 1 = omega arith in
    let longer : length c.push_none.new.self.flags ≡ length c.loop-at.reads.flags + 1 =
    ap length c.push_none.ensures.flags ∙ length-append c.loop-at.reads.flags (replicate 1 false) in
    record {
      within = omega (arith, c.loop-at-test.true);
      at = omega (arith, longer, c.loop-at.invariant.at);
      room = c.push_none.ensures.room ∙ c.loop-at.invariant.room;
      flags = ap (λ k. c.push_none.new.self.flags
          ++ options_begun read k (length c.push_none.new.self.flags) c.contains-here.result) less
          ∙ options-next read left c.loop-at.reads.flags c.push_none.new.self.flags c.loop-at.here
          c.contains-here.result (omega (arith, c.loop-at-test.true)) c.if-here.false c.push_none.ensures.flags
          (c.contains-here.ensures ∙ ap read c.loop-at.invariant.at)
          ∙ c.loop-at.invariant.flags;
    }
