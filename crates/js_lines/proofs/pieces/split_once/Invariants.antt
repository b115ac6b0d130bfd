-- None of the bytes before is the one that is sought.
use Rattle.std.proofs.Common.{◌≡◌, take, drop}
use Rattle.certificate_lines.specs.Pieces.{split_on, split_at}
use Rattle.js_lines.proofs.pieces.split_once.Given as goal

abbrev pub invariant-loop-i : goal.invariant-loop-i
invariant-loop-i l = split_on l.at (take l.i l.text) (drop l.i l.text) ≡ split_at l.at l.text
