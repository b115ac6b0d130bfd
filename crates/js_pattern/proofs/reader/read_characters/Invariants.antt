use Rattle.std.proofs.Common.{◌≡◌, ◌-◌, ◌≤◌, length, drop}
use Rattle.js_pattern.specs.Grammar.{pattern}
use Rattle.js_pattern.specs.Progress.{comes_of}
use Rattle.js_pattern.proofs.reader.read_characters.Given as goal

-- what comes of the rest, given what is read, is what comes of the whole
abbrev pub invariant-loop-at : goal.invariant-loop-at
invariant-loop-at l = record {
  same : comes_of l.reader l.at (drop l.at l.text) ≡ pattern l.text;
  within : l.at ≤ length l.text;
}

abbrev pub decreases-loop-at : goal.decreases-loop-at
decreases-loop-at l = length l.text - l.at
