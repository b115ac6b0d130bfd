-- The definitions on worked examples.
use Rattle.std.proofs.Common.{◌≡◌, ◌^◌, ℕ, List, [], ◌∷◌, Option, Some, None, ℤ, pos, negsuc, refl}
use Rattle.number_groups.specs.Cases.{Found, Empty, LimitMultiples, LimitCandidates}
use Rattle.number_groups.specs.Multiples.{least_below, lcm_of}
use Rattle.number_groups.specs.Group.{Group}
use Rattle.number_groups.specs.Outcome.{multiple_from, alternate, reached, outcome, answer_of_multiples}

bounded : Option ℤ → Option ℤ → List ℕ → List ℕ → Group
bounded low high ms bs =
    record { low = low; high = high; multiples = ms; not_multiples = bs; sets = []; not_sets = [] }

listed : List ℤ → Group
listed s = record (bounded (Some (pos 2)) None (3 ∷ []) (4 ∷ [])) { sets = s ∷ [] }

without : Option ℤ → List ℤ → Group
without high s = record (bounded (Some (pos 0)) high [] []) { not_sets = s ∷ [] }

lcm_small : lcm_of (4 ∷ 6 ∷ []) ≡ 12
unfolding lcm_of least_below
lcm_small = refl

from_five : outcome 65536 (bounded (Some (pos 5)) None (3 ∷ []) []) ≡ Found (pos 6)
unfolding outcome lcm_of least_below reached bounded
from_five = refl

last_below_upper : outcome 65536 (bounded (Some (pos 8)) (Some (pos 10)) (5 ∷ []) []) ≡ Found (pos 10)
unfolding outcome lcm_of least_below reached bounded
last_below_upper = refl

divisor_of_all : outcome 65536 (bounded None None (6 ∷ []) (3 ∷ [])) ≡ Empty
unfolding outcome lcm_of least_below reached bounded
divisor_of_all = refl

wide_multiples : answer_of_multiples 65536 340282366920938463426481119284349108230
    (bounded (Some (pos 1)) None (18446744073709551615 ∷ 18446744073709551614 ∷ []) []) ≡ LimitMultiples
unfolding bounded
wide_multiples = refl

between_multiples : outcome 65536 (bounded (Some (pos 11)) (Some (pos 14)) (5 ∷ []) []) ≡ Empty
unfolding outcome lcm_of least_below reached bounded
between_multiples = refl

downwards : outcome 65536 (bounded None (Some (negsuc 6)) (5 ∷ []) (2 ∷ [])) ≡ Found (negsuc 14)
unfolding outcome lcm_of least_below reached bounded
downwards = refl

by_size : outcome 65536 (bounded None None (5 ∷ []) (25 ∷ 2 ∷ [])) ≡ Found (pos 5)
unfolding outcome lcm_of least_below reached bounded
by_size = refl

written_order : outcome 65536 (listed (pos 0 ∷ negsuc 2 ∷ pos 12 ∷ pos 9 ∷ pos 3 ∷ [])) ≡ Found (pos 9)
unfolding outcome listed bounded
written_order = refl

none_listed : outcome 65536 (listed (pos 1 ∷ negsuc 2 ∷ [])) ≡ Empty
unfolding outcome listed bounded
none_listed = refl

just_within : outcome 3 (without None (pos 0 ∷ pos 1 ∷ [])) ≡ Found (pos 2)
unfolding outcome lcm_of least_below reached without bounded
just_within = refl

just_past : outcome 3 (without None (pos 0 ∷ pos 1 ∷ pos 2 ∷ [])) ≡ LimitCandidates
unfolding outcome lcm_of least_below reached without bounded
just_past = refl

ended_at_limit : outcome 3 (without (Some (pos 2)) (pos 0 ∷ pos 1 ∷ pos 2 ∷ [])) ≡ Empty
unfolding outcome lcm_of least_below reached without bounded
ended_at_limit = refl

first_alternating : alternate 5 0 ∷ alternate 5 1 ∷ alternate 5 2 ∷ alternate 5 3 ∷ alternate 5 4 ∷ []
    ≡ pos 0 ∷ pos 5 ∷ negsuc 4 ∷ pos 10 ∷ negsuc 9 ∷ []
first_alternating = refl

first_upwards : multiple_from 5 (negsuc 6) 0 ∷ multiple_from 5 (negsuc 6) 1 ∷ multiple_from 5
    (pos 1) 0 ∷ multiple_from 5 (pos 5) 0 ∷ []
    ≡ negsuc 4 ∷ pos 0 ∷ pos 5 ∷ pos 5 ∷ []
first_upwards = refl

-- where the next candidate is too large and as many are struck as may be, the size is reported
over_before_limit : answer_of_multiples 2 (2 ^ 126) (without None (pos 0 ∷ pos (2 ^ 126) ∷ [])) ≡ LimitMultiples
unfolding least_below reached without bounded
over_before_limit = refl

-- a required set is looked at before the least common multiple
listed_before_multiples : outcome 2 (record (bounded None None (18446744073709551615 ∷ 18446744073709551614 ∷ []) []) {
  sets = (pos 1 ∷ pos 0 ∷ []) ∷ [];
}) ≡ Found (pos 0)
unfolding outcome bounded
listed_before_multiples = refl
