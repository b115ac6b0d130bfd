-- The pieces that were found, and then those of the rest, are the pieces of the text.
use Rattle.std.proofs.Common.{◌≡◌, ◌≤◌, ◌++◌, map, drop}
use Rattle.std.specs.List.{between}
use Rattle.certificate_lines.specs.Pieces.{pieces, pieces_on}
use Rattle.js_lines.proofs.pieces.pieces.Given as goal

abbrev pub invariant-loop-i : goal.invariant-loop-i
invariant-loop-i l = record {
  behind : l.start ≤ l.i;
  same : map (λ piece. piece.now) l.found.items ++ pieces_on l.at (between l.start l.i l.text) (drop l.i l.text)
      ≡ pieces l.at l.text;
}
