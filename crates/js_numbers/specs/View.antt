-- The number group and the answer that the program's values stand for.
use Rattle.std.specs.Prelude.{ℤ, List, map, Result, Ok, Err}
use Rattle.std.specs.Borrow.{Bor}
use Rattle.number_groups.specs.Group.{Group}
use Rattle.number_groups.specs.Cases as C
use Rattle.js_numbers.specs.declared.group.NumGroup.{NumGroup}
use Rattle.js_numbers.specs.declared.group.Cases.{Cases}
use Rattle.js_numbers.specs.declared.group.Cases.TheVariants as V

-- the lists that references point to
abbrev pub lists_of : List (Bor (List ℤ)) → List (List ℤ)
lists_of sets = map (λ s. s.now) sets

abbrev pub group_of : NumGroup → Group
group_of g = record {
  low = g.lo;
  high = g.hi;
  multiples = g.multiples.now;
  not_multiples = g.not_multiples.now;
  sets = lists_of g.sets.now;
  not_sets = lists_of g.not_sets.now;
}

abbrev pub cases_view : Cases → C.Cases
cases_view (V.Found x) = C.Found x
cases_view V.Empty = C.Empty
cases_view V.LimitMultiples = C.LimitMultiples
cases_view V.LimitCandidates = C.LimitCandidates

-- a candidate, or why there is none to try
abbrev pub reach_view : Result ℤ Cases → Result ℤ C.Cases
reach_view (Ok x) = Ok x
reach_view (Err why) = Err (cases_view why)
