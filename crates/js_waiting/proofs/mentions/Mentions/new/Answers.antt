-- One more goal.
use Rattle.std.proofs.Common.{◌<◌, [], get_or, sym, ◌∙◌, subst}
use Rattle.js_explore.specs.ExploredView.{explored_view}
use Rattle.js_waiting.proofs.Mentioning.{goal_added}
use Rattle.js_waiting.proofs.mentions.Mentions.new.Goals as goal

pub loop-goal-preserved : goal.loop-goal-preserved
loop-goal-preserved c =
    let e = explored_view c.args.explored.now in
    let i = c.loop-goal.invariant in
    let h = c.loop-goal.goal in
    record {
      goals = c.in_ok-add_goal.ensures.length ∙ i.goals;
      mentions = λ m l.
          c.in_ok-add_goal.ensures.mentions m (subst (λ n. m < n) (sym i.goals) l)
          ∙ goal_added e m h (get_or c.loop-goal.mentions m []) (i.mentions m l) _ c.alternatives.ensures.value;
    }
