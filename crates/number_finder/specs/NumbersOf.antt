-- The number that is found for a set of signed positions.
use Rattle.std.specs.Prelude.{ℤ, List, Option, Some, None, Result, Ok, Err}
use Rattle.positions.specs.Position.{Position}
use Rattle.goals.specs.Signed.{Signed}
use Rattle.number_groups.specs.Cases.{Cases, Found, Empty, LimitMultiples, LimitCandidates}
use Rattle.number_groups.specs.Outcome.{outcome}
use Rattle.alternatives.specs.Limit.{LimitKind, Multiples, Candidates, most_candidates}
use Rattle.number_finder.specs.SetGroup.{number_group}

-- a number, none, or the limit that was passed
abbrev pub answer_of : Cases → Result (Option ℤ) LimitKind
answer_of (Found n) = Ok (Some n)
answer_of Empty = Ok None
answer_of LimitMultiples = Err Multiples
answer_of LimitCandidates = Err Candidates

abbrev pub numbers_of : List Position → List Signed → Result (Option ℤ) LimitKind
numbers_of T S = answer_of (outcome most_candidates (number_group T S))
