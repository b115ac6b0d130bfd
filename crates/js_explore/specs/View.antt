-- The members and fillers with numbers that the program's values stand for.
use Rattle.search.specs.Rounds as R
use Rattle.js_expansion.specs.View.{slot_view}
use Rattle.js_explore.specs.declared.numbered.NumberedPlaced.{NumberedPlaced}
use Rattle.js_explore.specs.declared.numbered.NumberedFiller.{NumberedFiller}

abbrev pub placed_view : NumberedPlaced → R.NumberedPlaced
placed_view m = record { slot = slot_view m.slot; goal = m.goal }

abbrev pub filler_view : NumberedFiller → R.NumberedFiller
filler_view f = record { slot = slot_view f.slot; goal = f.goal; room = f.room }
