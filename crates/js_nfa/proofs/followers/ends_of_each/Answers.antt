use Rattle.std.proofs.Common.{◌≡◌, ◌+◌, false, ◌∙◌, [], ◌∷◌, length, ap, arith, length-append}
use Rattle.state_laws.specs.Flow.{ends_here}
use Rattle.state_laws.specs.FollowSets.{only}
use Rattle.js_pattern.specs.View.{view}
use Rattle.js_nfa.proofs.FollowSetsSteps as S
use Rattle.js_nfa.proofs.followers.ends_of_each.Goals as goal

pub loop-p-preserved : goal.loop-p-preserved
loop-p-preserved c =
    let t = view c.args.tree.now in
    let before = c.loop-p.invariant in
    record {
      room = (
        omega (arith, before.room.0, c.read_one.ensures.room),
        omega (arith, before.room.1, c.push.ensures.room),
      );
      many = ap length c.push.ensures.flags
          ∙ length-append c.loop-p.ends.flags (c.is_end.result ∷ [])
          ∙ ap (λ n. n + 1) before.many;
      ends = S.flags-more (λ k b. b ≡ ends_here t false false (only k) 0 false) c.loop-p.ends.flags
          c.push.new.self.flags c.is_end.result c.loop-p.p before.many c.push.ensures.flags before.ends
          (c.is_end.ensures ∙ ap (λ read. ends_here t false false read 0 false) c.read_one.ensures.only);
    }
