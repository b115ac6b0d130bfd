-- What is known of a number group's numbers.
use Rattle.std.specs.Prelude.{ℤ}

pub data Cases : Type 0 where
  -- the first candidate that meets the group
  Found : ℤ → Cases
  -- no whole number meets the group
  Empty : Cases
  -- the least common multiple, or the next candidate, is over 2^127-1 in size
  LimitMultiples : Cases
  -- as many candidates as may be struck don't meet the group, and another one remains
  LimitCandidates : Cases
