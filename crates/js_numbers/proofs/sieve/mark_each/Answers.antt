use Rattle.std.proofs.Common.{◌<◌, length, true, arith}
use Rattle.std.proofs.lemmas.List.{length-set}
use Rattle.js_numbers.proofs.SieveLaws.{mark_more, is_on-next}
use Rattle.js_numbers.proofs.sieve.mark_each.Goals as goal

pub loop-k-preserved : goal.loop-k-preserved
loop-k-preserved c =
    let marks = c.loop-k.marks in
    let k = c.loop-k.k in
    let within : k < length marks = omega arith in
    record {
      on = is_on-next c.args.first c.args.step k c.loop-k.invariant.on;
      marked = λ j l. mark_more marks c.args.marks.now c.args.first c.args.step k j c.requires.forward.0
          c.loop-k.invariant.on within (c.loop-k.invariant.marked j (omega (arith, length-set marks k true)));
    }
