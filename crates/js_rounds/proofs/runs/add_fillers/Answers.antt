-- One filler after another.
use Rattle.std.proofs.Common.{◌++◌, map}
use Rattle.search.specs.Uses.{added_fillers}
use Rattle.js_expansion.specs.declared.alternative.Slot.TheVariants.{Index}
use Rattle.js_explore.specs.View.{filler_view}
use Rattle.js_rounds.specs.Seen.{seen}
use Rattle.js_rounds.specs.Spread.{spread}
use Rattle.js_rounds.proofs.SpreadLemmas.{filler_turn}
use Rattle.js_rounds.proofs.runs.add_fillers.Goals as goal

pub loop-filler-preserved : goal.loop-filler-preserved
loop-filler-preserved c =
    let has = seen c.args.known.now c.args.round in
    filler_turn has c.args.fillers.now c.loop-filler.filler-index (record { goal = 0; room = 0; slot = Index 0 })
    c.loop-filler.left
    c.in_ok-left.left (spread c.loop-filler.found.items) (spread c.add_filler.new.found.items)
    (spread c.args.found.now.items ++ added_fillers has c.args.need (map filler_view c.args.fillers.now))
    c.loop-filler-test.true c.in_ok-left.ensures.found c.in_ok-left.ensures.left c.loop-filler.invariant
