-- All goals of the search are taken.
use Rattle.js_explore.specs.ExploredView.{found_view}
use Rattle.js_explore.proofs.waves.ExpandingTask.answer.Goals as goal
use Rattle.list_laws.proofs.Tests.{every_slice}

pub expand-requires : goal.expand-requires
expand-requires g c =
    every_slice (g.E.Expander.takes c.args.self.now.expander.now) (found_view c.args.self.now.search.now).goals
    _ c.goal.result.now c.requires.1 c.goal.ensures
