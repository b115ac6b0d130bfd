use Rattle.std.proofs.Common.{◌≡◌, drop}
use Rattle.js_guard.specs.RankedView.{entries_of}
use Rattle.js_normal.specs.Tables.{with_all, made_of}
use Rattle.js_normal.proofs.TableRuns.{forms, start}
use Rattle.js_normal.proofs.normal.normalise.Given as goal

abbrev pub invariant-loop-entry : goal.invariant-loop-entry
invariant-loop-entry l =
    with_all (forms (entries_of l.schema)) l.schema.ranks (start (entries_of l.schema))
    ≡ with_all (drop l.entry (forms (entries_of l.schema))) (drop l.entry l.schema.ranks) (made_of l.parts)
