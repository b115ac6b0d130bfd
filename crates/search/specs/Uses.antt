-- What the document of a goal is made of, and the goals that it uses, in the order in which rounds add them.
use Rattle.std.specs.Prelude.{ℕ, zero, suc, ◌-◌, min, List, [], ◌∷◌, ◌++◌, length, filter, Bool, ◌&&◌, ◌||◌, not, cond, nat_eq, Option, Some, None, slice_get}
use Rattle.std.specs.List.{range_with_len}
use Rattle.documents.specs.Tests.{some}
use Rattle.goals.specs.Signed.{Signed}
use Rattle.alternatives.specs.Alternative.{Slot}
use Rattle.alternatives.specs.Slots.{next_slot}
use Rattle.alternatives.specs.Expansion.{Expansion}
use Rattle.search.specs.Explored.{Found}
use Rattle.search.specs.Rounds.{NumberedPlaced, NumberedFiller, Numbered, alternatives_of, round, answer}

-- a goal at so many slots, from one on
abbrev pub repeated : Slot → ℕ → ℕ → List NumberedPlaced
repeated s zero g = []
repeated s (suc n) g = record { slot = s; goal = g } ∷ repeated (next_slot s) n g

module _ (has : ℕ → Bool) where
  -- so many of the fillers whose goals pass, in order, each up to its room
  abbrev pub added_fillers : ℕ → List NumberedFiller → List NumberedPlaced
  added_fillers n [] = []
  added_fillers n (f ∷ fs) =
      cond (has f.goal) (repeated f.slot (min n f.room) f.goal ++ added_fillers (n - f.room) fs) (added_fillers n fs)

  -- the members of an alternative, and the fillers that it needs
  abbrev pub contents_of : Numbered → List NumberedPlaced
  contents_of a = a.members ++ added_fillers a.need a.fillers

abbrev pub before : ℕ → ℕ
before zero = 0
before (suc r) = r

-- the round before the one of an answer
abbrev pub round_before : Option (ℕ × ℕ) → ℕ
round_before None = 0
round_before (Some a) = before a.0

-- the alternative of a goal's answer
abbrev pub chosen_in : List Numbered → Option (ℕ × ℕ) → Option Numbered
chosen_in bs None = None
chosen_in bs (Some a) = slice_get bs a.1

module _ (expansion : List Signed → Expansion) (f : Found) where
  -- the numbers of the goals
  abbrev pub numbers : List ℕ
  numbers = range_with_len 0 (length f.goals)

  -- the least round that has a goal, and the first alternative that the round before meets; as many rounds as there
  -- are goals suffice
  abbrev pub satisfied : ℕ → Option (ℕ × ℕ)
  satisfied n = answer expansion f (length f.goals) n

  abbrev pub is_added : ℕ → ℕ → Bool
  is_added r n = round expansion f (suc r) n && not (round expansion f r n)

  -- the last round that adds a goal, looking no further than a round
  abbrev pub last_within : ℕ → ℕ
  last_within zero = 0
  last_within (suc r) = cond (some (is_added r) numbers) (suc r) (last_within r)

  abbrev pub last_round : ℕ
  last_round = last_within (length f.goals)

  -- the goals of a round in order of least round, then number
  abbrev pub in_order : ℕ → List ℕ
  in_order zero = []
  in_order (suc r) = in_order r ++ filter (is_added r) numbers

  -- the alternative of a goal's answer
  abbrev pub chosen : ℕ → Option Numbered
  chosen n = chosen_in (alternatives_of expansion f n) (satisfied n)

  abbrev pub contents_in : ℕ → Option Numbered → List NumberedPlaced
  contents_in r None = []
  contents_in r (Some a) = contents_of (round expansion f r) a

  -- what the document of a goal is made of
  abbrev pub contents : ℕ → List NumberedPlaced
  contents n = contents_in (round_before (satisfied n)) (chosen n)

  -- the document of goal n is or uses that of goal m, through at most so many others
  abbrev pub uses : ℕ → ℕ → ℕ → Bool
  uses zero n m = nat_eq n m
  uses (suc k) n m = nat_eq n m || some (λ p. uses k p.goal m) (contents n)

  -- the goal and all that its document uses, in order of least round, then number
  abbrev pub used_goals : ℕ → List ℕ
  used_goals n = filter (uses (length f.goals) n) (in_order (length f.goals))
