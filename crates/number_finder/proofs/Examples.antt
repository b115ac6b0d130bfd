-- The numbers of sets of signed positions, computed.
use Rattle.std.proofs.Common.{◌≡◌, ◌^◌, List, [], ◌∷◌, Some, None, Ok, Err, pos, refl}
use Rattle.positions.specs.Position.{Position, NumMin, NumMax, Multiple, NumIn}
use Rattle.goals.specs.Signed.{Plus, Minus}
use Rattle.number_groups.specs.Multiples.{least_below, lcm_of}
use Rattle.number_groups.specs.Group.{Group}
use Rattle.number_groups.specs.Outcome.{reached, outcome}
use Rattle.alternatives.specs.Limit.{Multiples}
use Rattle.number_finder.specs.SetGroup.{number_group}
use Rattle.number_finder.specs.NumbersOf.{numbers_of}

T : List Position
T =
    NumMin (pos 8) ∷ NumMax (pos 10) ∷ Multiple 5 ∷ NumIn (pos 3 ∷ pos 9 ∷ pos 12 ∷ []) ∷ NumMin (pos (2 ^ 127)) ∷ []

-- at least 8, more than 10, no multiple of five, and none of the list
group : Group
group = record {
  low = Some (pos 11);
  high = None;
  multiples = [];
  not_multiples = 5 ∷ [];
  sets = [];
  not_sets = (pos 3 ∷ pos 9 ∷ pos 12 ∷ []) ∷ [];
}

greatest_bound : number_group T (Plus 0 ∷ Minus 1 ∷ Minus 2 ∷ Minus 3 ∷ []) ≡ group
unfolding T group
greatest_bound = refl

between : numbers_of T (Plus 0 ∷ Plus 1 ∷ Plus 2 ∷ []) ≡ Ok (Some (pos 10))
unfolding T outcome lcm_of least_below reached
between = refl

upwards : numbers_of T (Plus 0 ∷ Minus 1 ∷ Plus 2 ∷ []) ≡ Ok (Some (pos 15))
unfolding T outcome lcm_of least_below reached
upwards = refl

downwards : numbers_of T (Minus 0 ∷ Plus 2 ∷ []) ≡ Ok (Some (pos 5))
unfolding T outcome lcm_of least_below reached
downwards = refl

no_multiple : numbers_of T (Plus 1 ∷ Minus 2 ∷ []) ≡ Ok (Some (pos 9))
unfolding T outcome lcm_of least_below reached
no_multiple = refl

listed : numbers_of T (Plus 0 ∷ Plus 3 ∷ []) ≡ Ok (Some (pos 9))
unfolding T outcome lcm_of least_below reached
listed = refl

-- the list has no multiple of five
none_listed : numbers_of T (Plus 2 ∷ Plus 3 ∷ []) ≡ Ok None
unfolding T outcome lcm_of least_below reached
none_listed = refl

-- at least 8 and at most 7
crossed : numbers_of T (Plus 0 ∷ Minus 0 ∷ []) ≡ Ok None
unfolding T outcome lcm_of least_below reached
crossed = refl

-- the least number that is left is 2^127
too_large : numbers_of T (Plus 4 ∷ []) ≡ Err Multiples
unfolding T outcome lcm_of least_below reached
too_large = refl
