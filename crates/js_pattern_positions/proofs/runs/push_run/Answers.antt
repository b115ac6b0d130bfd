use Rattle.std.proofs.Common.{◌≡◌, ◌+◌, ◌-◌, ◌∙◌, ◌++◌, length, sym, ap, arith, length-append}
use Rattle.state_laws.specs.Flow.{flag_at}
use Rattle.js_pattern_positions.specs.Walk.{Quiet}
use Rattle.js_pattern_positions.proofs.CopiesLemmas.{moved, moved-quiet, moved-next, length-moved}
use Rattle.js_pattern_positions.proofs.runs.push_run.Goals as goal

pub returns-then-not-here-clause-flags : goal.returns-then-not-here-clause-flags
returns-then-not-here-clause-flags c =
    let read = flag_at c.args.read.now.flags in
    let quiet : Quiet read (length c.loop-at.reads.flags) = λ p h.
    c.has_none_from.ensures c.if-has_none_from.true p (omega (arith, h, c.loop-at.invariant.at)) in
    c.push_none.ensures.flags
    ∙ ap (λ z. c.loop-at.reads.flags ++ z)
    (sym (moved-quiet read _ (length c.loop-at.reads.flags) c.loop-at.here c.if-not-here.true quiet))
    ∙ c.loop-at.invariant.flags

pub loop-at-preserved : goal.loop-at-preserved
loop-at-preserved c =
    let read = flag_at c.args.read.now.flags in
    let flags = c.loop-at.reads.flags in
    let part = c.min-part.result in
    let left = c.len-at.result + c.args.count - c.loop-at.at in
    let less : c.len-at.result + c.args.count - (c.loop-at.at + part) ≡ left - part = omega arith in
    let longer : length c.push_part.new.reads.flags ≡ length flags + part =
    ap length c.push_part.ensures.flags ∙ length-append flags (moved read part (length flags) c.loop-at.here)
    ∙ ap (λ k. length flags + k) (length-moved read part (length flags) c.loop-at.here) in
    record {
      within = omega (arith, c.min-part.ensures, c.loop-at.invariant.within);
      at = omega (arith, longer, c.loop-at.invariant.at);
      room = c.push_part.ensures.room ∙ c.loop-at.invariant.room;
      flags = ap (λ k. c.push_part.new.reads.flags
          ++ moved read k (length c.push_part.new.reads.flags) c.contains-here.result) less
          ∙ moved-next read flags c.push_part.new.reads.flags part left c.loop-at.here c.contains-here.result
          (omega (arith, c.min-part.ensures, c.loop-at-test.true)) (omega (arith, c.min-part.ensures))
          c.push_part.ensures.flags
          (c.contains-here.ensures ∙ ap (λ k. read (k + part - 1)) c.loop-at.invariant.at)
          ∙ c.loop-at.invariant.flags;
    }
