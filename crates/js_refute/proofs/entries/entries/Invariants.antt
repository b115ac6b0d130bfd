-- The first goals that are listed were gone through.
use Rattle.std.specs.String.{string_bytes}
use Rattle.js_refute.specs.Unmet.{goals_of, lines_of}
use Rattle.js_refute.proofs.Growing.{IsListing}
use Rattle.js_refute.proofs.entries.entries.Given as goal

abbrev pub invariant-loop-place : goal.invariant-loop-place
invariant-loop-place l =
    IsListing (goals_of l.unmet) (lines_of l.core.positions l.unmet) l.place l.listed.keys (string_bytes l.text)
