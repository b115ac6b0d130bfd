-- What is counted of alternatives: of each the places, members before fillers, and how much room is needed.
use Rattle.std.specs.Prelude.{ℕ, zero, suc, ◌+◌, List, [], ◌∷◌, ◌++◌, map, length, get_or, slice_get, Bool, true, false, not, ◌&&◌, ◌||◌, cond, nat_le, Option, Some, None}
use Rattle.std.specs.List.{range_with_len}
use Rattle.documents.specs.Tests.{every}
use Rattle.search.specs.Rounds.{NumberedPlaced, NumberedFiller, Numbered}
use Rattle.js_explore.specs.Exploration.{Exploration, alternatives_at}
use Rattle.js_waiting.specs.declared.place.Place.{Place}

pub record Counts : Type 0 where
  pub need : ℕ
  pub places : List Place

-- the element at a number is changed
abbrev pub change : {A : Type 0} → (A → A) → ℕ → List A → List A
change f n [] = []
change f zero (x ∷ xs) = f x ∷ xs
change f (suc n) (x ∷ xs) = x ∷ change f n xs

abbrev pub with_counted : Bool → Place → Place
with_counted b q = record { is_member = q.is_member; room = q.room; counted = b }

abbrev pub with_places : Counts → List Place → Counts
with_places c qs = record { need = c.need; places = qs }

abbrev pub count_in : ℕ → Counts → Counts
count_in p c = with_places c (change (with_counted true) p c.places)

-- place p of alternative a of goal h is counted
abbrev pub count_at : ℕ → ℕ → ℕ → List (List Counts) → List (List Counts)
count_at h a p w = change (change (count_in p) a) h w

-- how much room there is in the places that were counted
abbrev pub counted_rooms : List Place → ℕ
counted_rooms [] = 0
counted_rooms (q ∷ qs) = cond q.counted q.room 0 + counted_rooms qs

-- the members are all counted, and the rooms that were counted reach the need
abbrev pub is_ready : Counts → Bool
is_ready c = every (λ q. q.counted || not q.is_member) c.places && nat_le c.need (counted_rooms c.places)

abbrev pub ready_in : Option Counts → Bool
ready_in None = false
ready_in (Some c) = is_ready c

abbrev pub is_ready_at : ℕ → ℕ → List (List Counts) → Bool
is_ready_at h a w = ready_in (slice_get (get_or w h []) a)

abbrev pub place_in : ℕ → Option Counts → Option Place
place_in p None = None
place_in p (Some c) = slice_get c.places p

abbrev pub waits : Option Place → Bool
waits None = false
waits (Some q) = not q.counted

-- there is such a place, and it wasn't counted
abbrev pub waits_at : ℕ → ℕ → ℕ → List (List Counts) → Bool
waits_at h a p w = waits (place_in p (slice_get (get_or w h []) a))

abbrev pub waiting_places : List Place → ℕ
waiting_places [] = 0
waiting_places (q ∷ qs) = cond q.counted 0 1 + waiting_places qs

abbrev pub waiting_of : List Counts → ℕ
waiting_of [] = 0
waiting_of (c ∷ cs) = waiting_places c.places + waiting_of cs

-- how many places weren't counted
abbrev pub waiting : List (List Counts) → ℕ
waiting [] = 0
waiting (cs ∷ w) = waiting_of cs + waiting w

-- nothing is counted
abbrev pub member_place : NumberedPlaced → Place
member_place m = record { is_member = true; room = 0; counted = false }

abbrev pub filler_place : NumberedFiller → Place
filler_place f = record { is_member = false; room = f.room; counted = false }

abbrev pub counts_of : Numbered → Counts
counts_of a = record { need = a.need; places = map member_place a.members ++ map filler_place a.fillers }

abbrev pub uncounted : Exploration → List (List Counts)
uncounted e = map (λ n. map counts_of (alternatives_at e n)) (range_with_len 0 (length e.found.goals))

-- how many places of members and fillers the alternatives of goals have
abbrev pub places_of : List Numbered → ℕ
places_of [] = 0
places_of (a ∷ alternatives) = length a.members + length a.fillers + places_of alternatives

abbrev pub places_by : (ℕ → List Numbered) → List ℕ → ℕ
places_by alternatives [] = 0
places_by alternatives (n ∷ ns) = places_of (alternatives n) + places_by alternatives ns

abbrev pub all_places : Exploration → ℕ
all_places e = places_by (alternatives_at e) (range_with_len 0 (length e.found.goals))
