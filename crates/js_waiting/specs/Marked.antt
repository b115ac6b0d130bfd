-- Places that are counted exactly where a test of goal, alternative and place says so.
use Rattle.std.specs.Prelude.{ℕ, suc, List, [], ◌∷◌, ◌++◌, map, take, Bool, true, false, ◌&&◌, ◌||◌, nat_eq, Option, Some, None}
use Rattle.documents.specs.Tests.{some}
use Rattle.search.specs.Rounds.{NumberedPlaced, NumberedFiller, Numbered}
use Rattle.js_explore.specs.Exploration.{Exploration}
use Rattle.js_waiting.specs.Counts.{Counts, with_counted, with_places}
use Rattle.js_waiting.specs.Mentioned.{goal_at, mentions_of}
use Rattle.js_waiting.specs.declared.place.Place.{Place}
use Rattle.js_waiting.specs.declared.mention.Mention.{Mention}

-- each element by its number, from k on
abbrev pub map_from : {A B : Type 0} → (ℕ → A → B) → ℕ → List A → List B
map_from f k [] = []
map_from f k (x ∷ xs) = f k x ∷ map_from f (suc k) xs

abbrev pub mark_counts : (ℕ → Bool) → Counts → Counts
mark_counts bit c = with_places c (map_from (λ p q. with_counted (bit p) q) 0 c.places)

abbrev pub mark_all : (ℕ → ℕ → Bool) → List Counts → List Counts
mark_all bit cs = map_from (λ a c. mark_counts (bit a) c) 0 cs

abbrev pub marked : (ℕ → ℕ → ℕ → Bool) → List (List Counts) → List (List Counts)
marked bit w = map_from (λ h cs. mark_all (bit h) cs) 0 w

-- the places whose goals pass are counted
abbrev pub member_by : (ℕ → Bool) → NumberedPlaced → Place
member_by has m = record { is_member = true; room = 0; counted = has m.goal }

abbrev pub filler_by : (ℕ → Bool) → NumberedFiller → Place
filler_by has f = record { is_member = false; room = f.room; counted = has f.goal }

abbrev pub counts_by : (ℕ → Bool) → Numbered → Counts
counts_by has a =
    record { need = a.need; places = map (member_by has) a.members ++ map (filler_by has) a.fillers }

abbrev pub is_at : ℕ → ℕ → ℕ → Mention → Bool
is_at h a p u = nat_eq u.goal h && (nat_eq u.alternative a && nat_eq u.place p)

abbrev pub passes : (ℕ → Bool) → Option ℕ → Bool
passes has None = false
passes has (Some g) = has g

-- the goal at the place passes
abbrev pub by_goal : (ℕ → Bool) → Exploration → ℕ → ℕ → ℕ → Bool
by_goal has e h a p = passes has (goal_at e h a p)

-- beside the goals that pass, so many of the places that name goal m
abbrev pub while_taken : (ℕ → Bool) → Exploration → ℕ → ℕ → ℕ → ℕ → ℕ → Bool
while_taken has e m i h a p = some (is_at h a p) (take i (mentions_of e m)) || by_goal has e h a p

abbrev pub with_goal : (ℕ → Bool) → ℕ → ℕ → Bool
with_goal has m g = nat_eq g m || has g
