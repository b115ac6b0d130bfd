use Rattle.std.proofs.Common.{◌≡◌, ◌+◌, ◌-◌, ◌≤◌, ◌++◌, length, drop}
use Rattle.js_pattern.specs.Reading.{after}
use Rattle.js_pattern.specs.Classes.{items}
use Rattle.js_pattern.proofs.class.read_items.Given as goal

-- the items so far and those of what is left are those of the whole
abbrev pub invariant-loop-taken : goal.invariant-loop-taken
invariant-loop-taken l = record {
  so_far :
      after l.taken (λ more. l.list.ranges.items ++ more) (items 0 (l.at + l.taken) (drop l.taken l.text))
      ≡ items 0 l.at l.text;
  within : l.taken ≤ length l.text;
}

abbrev pub decreases-loop-taken : goal.decreases-loop-taken
decreases-loop-taken l = length l.text - l.taken
