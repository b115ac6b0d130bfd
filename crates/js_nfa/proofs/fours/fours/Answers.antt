use Rattle.std.proofs.Common.{◌≡◌, ◌≤◌, ◌+◌, ◌*◌, ◌/◌, ◌%◌, [], ◌∷◌, length, ◌∙◌, ap, arith, length-append}
use Rattle.js_nfa.specs.FollowSets.{chosen_sets}
use Rattle.js_nfa.proofs.FollowSetsSteps as S
use Rattle.js_nfa.proofs.fours.fours.Goals as goal

pub loop-index-preserved : goal.loop-index-preserved
loop-index-preserved c =
    let before = c.loop-index.invariant in
    let pushed = c.in_ok-push.ensures.items in
    let as_many : length c.push.new.self.items ≡ c.loop-index.index + 1 =
    ap length pushed ∙ length-append c.loop-index.fours.items (c.in_ok-union.field-0 ∷ [])
    ∙ ap (λ n. n + 1) before.as_many in
    let turned : c.loop-index.index / 16 * 4 ≡ 4 * (c.loop-index.index / 16) = omega arith in
    record {
      as_many = as_many;
      sets = S.sets-more (λ n flags. flags ≡ chosen_sets c.args.sets.now (4 * (n / 16)) (n % 16) 4)
          c.loop-index.fours.items c.push.new.self.items c.in_ok-union.field-0 c.loop-index.index before.as_many pushed
          before.sets
          (c.in_ok-union.ensures.flags
          ∙ ap (λ first. chosen_sets c.args.sets.now first (c.loop-index.index % 16) 4) turned);
      within = λ n h.
          S.sets-more (λ p flags. length flags ≤ c.args.count) c.loop-index.fours.items c.push.new.self.items
          c.in_ok-union.field-0 c.loop-index.index before.as_many pushed
          (λ p l. before.within p (omega (arith, l, before.as_many))) c.in_ok-union.ensures.within n
          (omega (arith, h, as_many));
    }
