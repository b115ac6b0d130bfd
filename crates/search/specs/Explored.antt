-- The explored goals: numbered in order of first mention, as goals are taken by number.
use Rattle.std.specs.Prelude.{ℕ, zero, suc, ◌+◌, List, [], ◌∷◌, ◌++◌, length, Bool, true, false, ◌&&◌, cond, nat_lt, Option, Some, None, option_map, is_some, slice_get}
use Rattle.goals.specs.Signed.{Signed, same_signed}
use Rattle.alternatives.specs.Alternative.{named, places}
use Rattle.alternatives.specs.Limit.{LimitKind, Goals, Total}
use Rattle.alternatives.specs.Expansion.{Expansion, first_limit}

abbrev pub same_goal : List Signed → List Signed → Bool
same_goal [] [] = true
same_goal (x ∷ g) (y ∷ h) = same_signed x y && same_goal g h
same_goal _ _ = false

-- the number of a goal in a list of goals
abbrev pub number_in : List (List Signed) → List Signed → Option ℕ
number_in [] g = None
number_in (h ∷ gs) g = cond (same_goal g h) (Some 0) (option_map suc (number_in gs g))

abbrev pub is_listed : List (List Signed) → List Signed → Bool
is_listed gs g = is_some (number_in gs g)

-- what was found so far: the numbered goals, how many were taken, their places, and the limit that was passed first
pub record Found : Type 0 where
  pub goals : List (List Signed)
  pub taken : ℕ
  pub places : ℕ
  pub over : Option LimitKind

abbrev pub found : List (List Signed) → ℕ → ℕ → Option LimitKind → Found
found gs n p o = record { goals = gs; taken = n; places = p; over = o }

module _ (most_goals : ℕ) where
  -- a goal is mentioned: a new one takes the next number, if there is one left
  abbrev pub mention : Found → List Signed → Found
  mention s g =
      cond (is_listed s.goals g) s
      (cond (nat_lt (length s.goals) most_goals) (found (s.goals ++ g ∷ []) s.taken s.places s.over)
      (found s.goals s.taken s.places (first_limit s.over Goals)))

  abbrev pub mention_goals : Found → List (List Signed) → Found
  mention_goals s [] = s
  mention_goals s (x ∷ xs) = mention_goals (mention s x) xs

  module _ (most_total : ℕ) where
    -- the answer for the goal that is taken next: its places are looked at first, then the goals that it names
    abbrev pub take_answer : Found → Expansion → Found
    take_answer s e =
        cond (nat_lt most_total (s.places + places e.alternatives))
        (found s.goals s.taken s.places (first_limit s.over Total))
        (let t = mention_goals s (named e.alternatives) in
        found t.goals (suc t.taken) (t.places + places e.alternatives) t.over)

    module _ (expansion : List Signed → Expansion) where
      abbrev pub take_goal : Found → Option (List Signed) → Found
      take_goal s None = s
      take_goal s (Some g) = take_answer s (expansion g)

      abbrev pub step : Found → Found
      step s = take_goal s (slice_get s.goals s.taken)

      abbrev pub after : ℕ → Found → Found
      after zero s = s
      after (suc n) s = step (after n s)

      unfoldable pub explored : List Signed → Found
      explored root = after most_goals (found (root ∷ []) 0 0 None)
