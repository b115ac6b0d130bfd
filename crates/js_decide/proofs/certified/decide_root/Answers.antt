use denote.Param.Send.{sendable}
use Rattle.std.proofs.Common.{◌∙◌}
use Rattle.std.proofs.Crossing.{crosses}
use Rattle.alternatives.specs.Limit.{most_goals, most_total}
use Rattle.search.specs.Explored.{explored}
use Rattle.js_explore.specs.ExploredView.{found_view}
use Rattle.expander_laws.specs.Expander.{words_by}
use Rattle.js_expander.specs.Found.{goal_expansion, cells_at}
use Rattle.js_decide.specs.View.{outcome_view, verdict_view}
use Rattle.js_algebra.proofs.Crossing.{Core-sync}
use Rattle.js_decide.proofs.Told.{all_told, still_meets}
use Rattle.js_decide.proofs.Deciding.{taken_inside, certified_root}
use Rattle.js_decide.proofs.certified.decide_root.Goals as goal

pub search_root-requires-sync-E : goal.search_root-requires-sync-E
search_root-requires-sync-E g c κs = search (sendable, crosses, Core-sync) depth 40

pub certified-requires-clause-inside : goal.certified-requires-clause-inside
certified-requires-clause-inside g c =
    let taken = rw c.new.ensures.core at c.in_ok-searched.ensures.taken in
    taken_inside c.args.core.now.positions c.args.core.now.ranks (found_view c.in_ok-searched.searched.explored).goals
    taken

pub returns-clause-decided : goal.returns-clause-decided
returns-clause-decided g c =
    let T = c.args.core.now.positions in
    let f = found_view c.in_ok-searched.searched.explored in
    let outcome = rw c.new.ensures.core at c.in_ok-searched.ensures.outcome in
    let found = rw c.new.ensures.core at c.in_ok-searched.ensures.found in
    let rounds = rw c.new.ensures.core at c.in_ok-searched.ensures.rounds in
    all_told (words_by (cells_at T)) (goal_expansion T) f (explored most_goals most_total (goal_expansion T)
    c.args.root)
    (verdict_view c.in_ok-certified.field-0) c.len-goals.result c.last_round-rounds.result found
    (c.in_ok-certified.ensures.verdict ∙ outcome) c.len-goals.ensures
    (c.last_round-rounds.ensures.rounds (goal_expansion T) f rounds)

pub returns-clause-certificate : goal.returns-clause-certificate
returns-clause-certificate g c =
    let T = c.args.core.now.positions in
    let found = rw c.new.ensures.core at c.in_ok-searched.ensures.found in
    let explores = rw c.new.ensures.core at c.in_ok-searched.ensures.explores in
    let rounds = rw c.new.ensures.core at c.in_ok-searched.ensures.rounds in
    certified_root T c.args.root (found_view c.in_ok-searched.searched.explored) c.in_ok-certified.field-0 found
    (c.in_ok-certified.ensures.certificate (goal_expansion T) explores rounds)

pub returns-clause-meets : goal.returns-clause-meets
returns-clause-meets g c =
    let T = c.args.core.now.positions in
    let f = found_view c.in_ok-searched.searched.explored in
    let taken = rw c.new.ensures.core at c.in_ok-searched.ensures.taken in
    let found = rw c.new.ensures.core at c.in_ok-searched.ensures.found in
    let meets = rw c.new.ensures.core at c.in_ok-searched.ensures.meets in
    still_meets T (goal_expansion T) f (explored most_goals most_total (goal_expansion T) c.args.root)
    (outcome_view c.in_ok-searched.searched.outcome) (verdict_view c.in_ok-certified.field-0) found
    c.in_ok-certified.ensures.verdict (meets T (c.new.ensures.sound f.goals taken))
