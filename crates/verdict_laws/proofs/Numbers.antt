-- Where none is found at a set and no limit is passed, no number meets the set.
use Rattle.std.proofs.Common.{◌≡◌, ℤ, List, true, refl}
use Rattle.documents.specs.Document.{number}
use Rattle.positions.specs.Position.{Position}
use Rattle.positions.specs.Holds.{IsTable}
use Rattle.goals.specs.Signed.{Signed, meets}
use Rattle.number_groups.specs.Cases.{Cases, Found, Empty, LimitMultiples, LimitCandidates}
use Rattle.number_groups.specs.Outcome.{outcome}
use Rattle.alternatives.specs.Limit.{most_candidates}
use Rattle.number_finder.specs.SetGroup.{number_group}
use Rattle.number_finder.specs.NumbersOf.{answer_of}
use Rattle.scalar_laws.proofs.Numbers.{meets_group}
use Rattle.verdicts.specs.Leaves.{is_none_found, has_no_number}
use Rattle.verdict_laws.proofs.Groups.{outcome_none}

is_empty : (a : Cases) → is_none_found (answer_of a) ≡ true → a ≡ Empty
is_empty Empty e = refl
is_empty (Found n) e = cc
is_empty LimitMultiples e = cc
is_empty LimitCandidates e = cc

-- where deciding says that there is no number, none meets the set
pub no_number : (T : List Position) → IsTable T → (S : List Signed) → has_no_number T S ≡ true → (x : ℤ)
    → meets T S (number x) ≡ true → ⊥
no_number T ok S e x m =
    outcome_none most_candidates (number_group T S) x (meets_group T ok S x m)
    (is_empty (outcome most_candidates (number_group T S)) e)
