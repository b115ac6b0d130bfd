use Rattle.std.proofs.Common.{◌≡◌, ◌+◌, ◌/◌, length}
use Rattle.js_valid.proofs.BitsLaws.{HasBits}
use Rattle.js_valid.proofs.verdicts.Verdicts.of.Given as goal

abbrev pub invariant-loop-place : goal.invariant-loop-place
invariant-loop-place l = record {
  room : length l.words.items ≡ length l.table / 64 + 1;
  bits : HasBits l.words.items l.table l.place;
}
