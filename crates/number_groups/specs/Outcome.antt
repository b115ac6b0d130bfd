-- The answer that is owed for a group: the number that is found first, that there is none, or the limit that
-- was passed.
use Rattle.std.specs.Prelude.{ℕ, ◌+◌, ◌*◌, ◌/◌, ◌%◌, ◌^◌, ◌==◌, nat_le, List, [], ◌∷◌, Bool, true, not, Option, Some, None, Result, Ok, Err, ℤ, pos, neg_ℤ, ◌+ℤ◌, unsigned_abs, if◌then◌else◌}
use Rattle.std.specs.List.{list_any, find}
use Rattle.std.specs.Int.{int_rem_euclid}
use Rattle.number_groups.specs.Cases.{Cases, Found, Empty, LimitMultiples, LimitCandidates}
use Rattle.number_groups.specs.Multiples.{least_below, lcm_of}
use Rattle.number_groups.specs.Group.{Group, is_below, is_crossed, is_met, is_struck}

-- the k-th of the multiples of m that aren't below low, counted upwards from 0
abbrev pub multiple_from : ℕ → ℤ → ℕ → ℤ
multiple_from m low k = low +ℤ int_rem_euclid (neg_ℤ low) (pos m) +ℤ pos (k * m)

-- the k-th of 0, m, -m, 2m, -2m and so on
abbrev pub alternate : ℕ → ℕ → ℤ
alternate m k = if k % 2 == 0 then neg_ℤ (pos (k / 2 * m)) else pos ((k / 2 + 1) * m)

-- the k-th candidate among the multiples of m: upwards from the lower bound; without one downwards from the
-- upper bound; without both by size, the positive one first. The upper bound alone may end them
abbrev pub place : ℕ → Option ℤ → Option ℤ → ℕ → ℤ
place m (Some low) high k = multiple_from m low k
place m None (Some high) k = neg_ℤ (multiple_from m (neg_ℤ high) k)
place m None None k = alternate m k

-- the k-th candidate of the group among the multiples of m
abbrev pub candidate : ℕ → Group → ℕ → ℤ
candidate m g k = place m g.low g.high k

-- x is over 2^127-1 in size
abbrev pub is_over : ℤ → Bool
is_over x = nat_le (2 ^ 127) (unsigned_abs x)

-- x where it is at most 2^127-1 in size
abbrev pub sized : ℤ → Option ℤ
sized x = if is_over x then None else Some x

-- a candidate x, or why there is none to try
abbrev pub in_reach : Bool → ℤ → Result ℤ Cases
in_reach remains x = if remains then (if is_over x then Err LimitMultiples else Ok x) else Err Empty

-- the k-th candidate, or why there is none to try: none remains, or it is over 2^127-1 in size
unfoldable pub reached : ℕ → Group → ℕ → Result ℤ Cases
reached m g k = in_reach (is_below g.high (candidate m g k)) (candidate m g k)

-- what follows where a candidate is over 2^127-1 in size: upwards, it is above any upper bound
abbrev pub after_last : Option ℤ → Option ℤ → Cases
after_last (Some low) (Some high) = Empty
after_last (Some low) None = LimitMultiples
after_last None high = LimitMultiples

-- the candidates end here: with one that isn't struck, or without one
abbrev pub is_last : Group → Result ℤ Cases → Bool
is_last g (Ok x) = not (is_struck g x)
is_last g (Err why) = true

-- the answer at the candidate after k that were struck
abbrev pub answer_at : ℕ → ℕ → Result ℤ Cases → Cases
answer_at limit k (Ok x) = if k == limit then LimitCandidates else Found x
answer_at limit k (Err why) = why

-- how many candidates are struck before the last one, or the limit
abbrev pub struck_before : ℕ → ℕ → Group → ℕ
struck_before limit m g = least_below (λ k. is_last g (reached m g k)) limit

-- the answer among the multiples of m
abbrev pub answer_among : ℕ → ℕ → Group → Cases
answer_among limit m g = answer_at limit (struck_before limit m g) (reached m g (struck_before limit m g))

-- the answer among the multiples of m, or without a look at them: where they are too large, or all are struck
abbrev pub answer_of_multiples : ℕ → ℕ → Group → Cases
answer_of_multiples limit m g =
    if nat_le (2 ^ 127) m then LimitMultiples
    else (if list_any (λ b. m % b == 0) g.not_multiples then Empty else answer_among limit m g)

-- the first value that meets the group, where there is one
abbrev pub found : Option ℤ → Cases
found (Some x) = Found x
found None = Empty

-- in a required set, the first value in its order that meets the group
abbrev pub answer_in : ℕ → Group → List (List ℤ) → Cases
answer_in limit g (s ∷ ss) = found (find (is_met g) s)
answer_in limit g [] = answer_of_multiples limit (lcm_of g.multiples) g

-- the answer, where at most the given number of candidates may be struck
unfoldable pub outcome : ℕ → Group → Cases
outcome limit g = if is_crossed g.low g.high then Empty else answer_in limit g g.sets
