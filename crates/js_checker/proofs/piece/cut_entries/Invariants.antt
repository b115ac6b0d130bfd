-- The pieces are the lines up to the one that began last.
use Rattle.std.proofs.Common.{◌≡◌, ◌≤◌, length, take}
use Rattle.js_checker.specs.Entries.{joined}
use Rattle.js_checker.proofs.piece.cut_entries.Given as goal

abbrev pub invariant-loop-at : goal.invariant-loop-at
invariant-loop-at l = record {
  cut : joined l.pieces.items ≡ take l.begun l.lines;
  begun : l.begun ≤ l.at;
  within : l.begun ≤ length l.lines;
}
