use Rattle.std.proofs.Common.{◌≡◌, ◌+◌, ◌&&◌, false, ◌∙◌, [], ◌∷◌, length, ap, arith, length-append}
use Rattle.state_laws.specs.Flow.{flag_at, ends_here}
use Rattle.state_laws.specs.FollowSets.{only, may_follow}
use Rattle.js_pattern.specs.View.{view}
use Rattle.js_nfa.specs.FollowSets.{is_shown}
use Rattle.js_nfa.proofs.FollowSetsSteps as S
use Rattle.js_nfa.proofs.followers.follow_sets_of_each.Goals as goal

pub loop-p-preserved : goal.loop-p-preserved
loop-p-preserved c =
    let t = view c.args.tree.now in
    let cs = c.args.characters.now in
    let before = c.loop-p.invariant in
    let pushed = c.in_ok-push.ensures.items in
    let as_many : length c.push.new.self.items ≡ c.loop-p.p + 1 =
    ap length pushed ∙ length-append c.loop-p.sets.items (c.in_ok-follow_set.field-0 ∷ [])
    ∙ ap (λ n. n + 1) before.as_many in
    record {
      room = (
        omega (arith, before.room.0, c.read_one.ensures.room),
        omega (arith, before.room.1, c.push-in-loop-p.ensures.room),
      );
      as_many = as_many;
      long = λ n h.
          S.sets-more (λ p flags. length flags ≡ c.args.count) c.loop-p.sets.items c.push.new.self.items
          c.in_ok-follow_set.field-0 c.loop-p.p before.as_many pushed
          (λ p l. before.long p (omega (arith, l, before.as_many))) c.in_ok-follow_set.ensures.length n
          (omega (arith, h, as_many));
      sets = λ p q h.
          S.sets-more
          (λ k flags. flag_at flags q ≡ (flag_at (may_follow t false (only k) 0 false) q && is_shown t cs q))
          c.loop-p.sets.items c.push.new.self.items c.in_ok-follow_set.field-0 c.loop-p.p before.as_many pushed
          (λ k l. before.sets k q l)
          (c.in_ok-follow_set.ensures.flags q
          ∙ ap (λ read. flag_at (may_follow t false read 0 false) q && is_shown t cs q) c.read_one.ensures.only)
          p h;
      many = ap length c.push-in-loop-p.ensures.flags
          ∙ length-append c.loop-p.ends.flags (c.is_end.result ∷ [])
          ∙ ap (λ n. n + 1) before.many;
      ends = S.flags-more (λ k b. b ≡ ends_here t false false (only k) 0 false) c.loop-p.ends.flags
          c.push-in-loop-p.new.self.flags c.is_end.result c.loop-p.p before.many c.push-in-loop-p.ensures.flags
          before.ends
          (c.is_end.ensures ∙ ap (λ read. ends_here t false false read 0 false) c.read_one.ensures.only);
    }
