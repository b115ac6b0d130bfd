-- The places that name a goal.
use Rattle.std.specs.Prelude.{ℕ, suc, List, [], ◌∷◌, ◌++◌, map, flat_map, length, slice_get, Bool, true, ◌&&◌, cond, nat_eq, Option, Some, None}
use Rattle.std.specs.List.{range_with_len}
use Rattle.search.specs.Rounds.{Numbered}
use Rattle.js_explore.specs.Exploration.{Exploration, alternatives_at}
use Rattle.js_waiting.specs.Counts.{Counts, count_at, waits_at}
use Rattle.js_waiting.specs.declared.mention.Mention.{Mention}

abbrev pub mention : ℕ → ℕ → ℕ → Mention
mention h a p = record { goal = h; alternative = a; place = p }

-- the goals that an alternative names at its places, members before fillers
abbrev pub named_goals : Numbered → List ℕ
named_goals a = map (λ m. m.goal) a.members ++ map (λ f. f.goal) a.fillers

-- of the goals at places from p on, those where it is m
abbrev pub mentions_from : ℕ → ℕ → ℕ → ℕ → List ℕ → List Mention
mentions_from m h a p [] = []
mentions_from m h a p (g ∷ gs) =
    cond (nat_eq g m) (mention h a p ∷ mentions_from m h a (suc p) gs) (mentions_from m h a (suc p) gs)

abbrev pub mentions_by : ℕ → ℕ → ℕ → List Numbered → List Mention
mentions_by m h a [] = []
mentions_by m h a (x ∷ xs) = mentions_from m h a 0 (named_goals x) ++ mentions_by m h (suc a) xs

-- the places that name goal m, in order of goals, alternatives and places
abbrev pub mentions_of : Exploration → ℕ → List Mention
mentions_of e m =
    flat_map (λ h. mentions_by m h 0 (alternatives_at e h)) (range_with_len 0 (length e.found.goals))

abbrev pub goals_in : Option Numbered → List ℕ
goals_in None = []
goals_in (Some a) = named_goals a

-- the goal at a place
abbrev pub goal_at : Exploration → ℕ → ℕ → ℕ → Option ℕ
goal_at e h a p = slice_get (goals_in (slice_get (alternatives_at e h) a)) p

-- places are counted one after another
abbrev pub count_all : List Mention → List (List Counts) → List (List Counts)
count_all [] w = w
count_all (u ∷ us) w = count_all us (count_at u.goal u.alternative u.place w)

-- each waits when its turn comes
abbrev pub can_count : List Mention → List (List Counts) → Bool
can_count [] w = true
can_count (u ∷ us) w =
    waits_at u.goal u.alternative u.place w && can_count us (count_at u.goal u.alternative u.place w)
