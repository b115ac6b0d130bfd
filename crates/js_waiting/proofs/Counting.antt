-- One more place is counted: what is left of members, of room and of places.
use Rattle.std.proofs.Common.{◌≡◌, ◌≢◌, ℕ, zero, suc, ◌+◌, ◌-◌, ◌≤◌, ◌<◌, ◌⊎◌, inl, inr, List, [], ◌∷◌, ◌++◌, map, length, drop, set, get_or, slice_get, get_or-set_same, Bool, true, false, not, ◌&&◌, ◌||◌, cond, nat_le, nat_eq, Option, Some, None, is_some, refl, ap, ap₂, sym, ◌∙◌, arith, zero-add}
use Rattle.std.proofs.lemmas.Bool.{le-leb, lt-leb, cases_lt, not-true}
use Rattle.std.proofs.lemmas.Bool.Decides.{eqb_tells}
use Rattle.std.specs.List.{range_with_len}
use Rattle.documents.specs.Tests.{every}
use Rattle.search.specs.Rounds.{NumberedPlaced, NumberedFiller, Numbered}
use Rattle.js_explore.specs.Exploration.{Exploration, alternatives_at}
use Rattle.std.proofs.lemmas.List.{append_assoc}
use Rattle.js_explore.specs.View.{placed_view}
use Rattle.js_explore.specs.declared.numbered.NumberedPlaced as E
use Rattle.js_waiting.specs.Counts.{Counts, change, with_counted, count_in, count_at, with_places, counted_rooms, is_ready, ready_in, is_ready_at, place_in, waits, waits_at, waiting_places, waiting_of, waiting, member_place, filler_place, counts_of, uncounted, places_of, places_by, all_places}
use Rattle.js_waiting.specs.Left.{members_left}
use Rattle.js_waiting.specs.declared.place.Place.{Place}
use Rattle.js_waiting.proofs.Changes.{change_set, get_low, get_or_get, get-set, get_here}

one_less : (b : Bool) → not b ≡ true → cond {A = ℕ} b 0 1 ≡ 1
one_less true e = cc
one_less false e = refl

-- members, rooms and places of one alternative
pub left_change : (qs : List Place) (p : ℕ) (q : Place) → slice_get qs p ≡ Some q → q.counted ≡ false
    → members_left (change (with_counted true) p qs) + cond q.is_member 1 0 ≡ members_left qs
left_change [] p q e h = cc
left_change (x ∷ xs) zero q e h = go x q (some_same e) h where
  some_same : {x y : Place} → Some x ≡ Some y → x ≡ y
  some_same e = cc

  at : (m c : Bool) (r : ℕ) → c ≡ false
      → cond (m && not true) 1 0 + members_left xs + cond m 1 0 ≡ cond (m && not c) 1 0 + members_left xs
  at true true r h = cc
  at true false r h = omega arith
  at false c r h = omega arith

  go : (x q : Place) → x ≡ q → q.counted ≡ false
      → members_left (with_counted true x ∷ xs) + cond q.is_member 1 0 ≡ members_left (x ∷ xs)
  go x q e h =
      ap (λ z. members_left (with_counted true x ∷ xs) + cond z.is_member 1 0) (sym e)
      ∙ at x.is_member x.counted x.room (ap (λ z. z.counted) e ∙ h)
left_change (x ∷ xs) (suc p) q e h =
    let l = left_change xs p q e h in omega (arith, l)

pub rooms_change : (qs : List Place) (p : ℕ) (q : Place) → slice_get qs p ≡ Some q → q.counted ≡ false
    → counted_rooms (change (with_counted true) p qs) ≡ counted_rooms qs + q.room
rooms_change [] p q e h = cc
rooms_change (x ∷ xs) zero q e h = go x q (some_same e) h where
  some_same : {x y : Place} → Some x ≡ Some y → x ≡ y
  some_same e = cc

  at : (c : Bool) (r : ℕ) → c ≡ false → r + counted_rooms xs ≡ cond c r 0 + counted_rooms xs + r
  at true r h = cc
  at false r h = omega arith

  go : (x q : Place) → x ≡ q → q.counted ≡ false
      → counted_rooms (with_counted true x ∷ xs) ≡ counted_rooms (x ∷ xs) + q.room
  go x q e h =
      at x.counted x.room (ap (λ z. z.counted) e ∙ h) ∙ ap (λ z. counted_rooms (x ∷ xs) + z.room) e
rooms_change (x ∷ xs) (suc p) q e h =
    let l = rooms_change xs p q e h in omega (arith, l)

places_change : (qs : List Place) (p : ℕ) → waits (slice_get qs p) ≡ true
    → waiting_places (change (with_counted true) p qs) + 1 ≡ waiting_places qs
places_change [] p e = cc
places_change (x ∷ xs) zero e = let l = one_less x.counted e in omega (arith, l)
places_change (x ∷ xs) (suc p) e = let l = places_change xs p e in omega (arith, l)

of_change : (cs : List Counts) (a p : ℕ) → waits (place_in p (slice_get cs a)) ≡ true
    → waiting_of (change (count_in p) a cs) + 1 ≡ waiting_of cs
of_change [] a p e = cc
of_change (c ∷ cs) zero p e = let l = places_change c.places p e in omega (arith, l)
of_change (c ∷ cs) (suc a) p e = let l = of_change cs a p e in omega (arith, l)

-- a place that is counted is one less that waits
pub waiting_less : (w : List (List Counts)) (h a p : ℕ) → waits_at h a p w ≡ true
    → waiting (count_at h a p w) + 1 ≡ waiting w
waiting_less [] h a p e = cc
waiting_less (cs ∷ w) zero a p e = let l = of_change cs a p e in omega (arith, l)
waiting_less (cs ∷ w) (suc h) a p e = let l = waiting_less w h a p e in omega (arith, l)

above : (d : ℕ) → 0 < d → nat_eq d 0 ≡ false
above d l = go (eqb_tells d 0) where
  go : ((nat_eq d 0 ≡ true) × (d ≡ 0)) ⊎ ((nat_eq d 0 ≡ false) × (d ≢ 0)) → nat_eq d 0 ≡ false
  go (inl (t, e)) = absurd (omega (arith, l, e))
  go (inr (t, e)) = t

-- no member is left exactly where all are counted, and no room is missing exactly where the need is reached
pub left_none : (qs : List Place) → nat_eq (members_left qs) 0 ≡ every (λ q. q.counted || not q.is_member) qs
left_none [] = refl
left_none (q ∷ qs) = go q.is_member q.counted (left_none qs) where
  go : (m c : Bool) → nat_eq (members_left qs) 0 ≡ every (λ q. q.counted || not q.is_member) qs
      → nat_eq (cond (m && not c) 1 0 + members_left qs) 0
      ≡ ((c || not m) && every (λ q. q.counted || not q.is_member) qs)
  go true true e = ap (λ z. nat_eq z 0) (zero-add (members_left qs)) ∙ e
  go true false e = above (1 + members_left qs) (omega arith)
  go false true e = ap (λ z. nat_eq z 0) (zero-add (members_left qs)) ∙ e
  go false false e = ap (λ z. nat_eq z 0) (zero-add (members_left qs)) ∙ e

pub missing_none : (n r : ℕ) → nat_eq (n - r) 0 ≡ nat_le n r
missing_none n r = go (cases_lt r n) where
  go : (r < n) ⊎ (n ≤ r) → nat_eq (n - r) 0 ≡ nat_le n r
  go (inl l) = above (n - r) (omega (arith, l)) ∙ sym (lt-leb n r l)
  go (inr l) = ap (λ z. nat_eq z 0) same ∙ sym (le-leb n r l) where
    same : n - r ≡ 0
    same = omega (arith, l)

-- at first all places wait
waiting-append : (xs ys : List Place) → waiting_places (xs ++ ys) ≡ waiting_places xs + waiting_places ys
waiting-append [] ys = omega arith
waiting-append (x ∷ xs) ys = let l = waiting-append xs ys in omega (arith, l)

members_wait : (ms : List NumberedPlaced) → waiting_places (map member_place ms) ≡ length ms
members_wait [] = refl
members_wait (m ∷ ms) = let l = members_wait ms in omega (arith, l)

fillers_wait : (fs : List NumberedFiller) → waiting_places (map filler_place fs) ≡ length fs
fillers_wait [] = refl
fillers_wait (f ∷ fs) = let l = fillers_wait fs in omega (arith, l)

of_wait : (xs : List Numbered) → waiting_of (map counts_of xs) ≡ places_of xs
of_wait [] = refl
of_wait (x ∷ xs) =
    let l = of_wait xs in
    let m = members_wait x.members in
    let f = fillers_wait x.fillers in
    let b = waiting-append (map member_place x.members) (map filler_place x.fillers) in
    omega (arith, l, m, f, b)

by_wait : (alternatives : ℕ → List Numbered) (ns : List ℕ)
    → waiting (map (λ n. map counts_of (alternatives n)) ns) ≡ places_by alternatives ns
by_wait alternatives [] = refl
by_wait alternatives (n ∷ ns) =
    let l = by_wait alternatives ns in let m = of_wait (alternatives n) in omega (arith, l, m)

pub all_wait : (e : Exploration) → waiting (uncounted e) ≡ all_places e
all_wait e = by_wait (alternatives_at e) (range_with_len 0 (length e.found.goals))

-- what a count of an alternative says of its fields
pub ready_is : (c : Counts) (members missing : ℕ) → members ≡ members_left c.places
    → missing ≡ c.need - counted_rooms c.places → (nat_eq members 0 && nat_eq missing 0) ≡ is_ready c
ready_is c members missing e h =
    ap₂ (λ a b. nat_eq a 0 && nat_eq b 0) e h
    ∙ ap₂ (λ a b. a && b) (left_none c.places) (missing_none c.need (counted_rooms c.places))

pub ready_of : (c d : Counts) (members missing : ℕ) → d ≡ c → members ≡ members_left d.places
    → missing ≡ d.need - counted_rooms d.places → (nat_eq members 0 && nat_eq missing 0) ≡ is_ready c
ready_of c d members missing s e h = ready_is d members missing e h ∙ ap is_ready s

pub not_none : (d : ℕ) → (d ≡ 0 → ⊥) → nat_eq d 0 ≡ false
not_none d h = go (eqb_tells d 0) where
  go : ((nat_eq d 0 ≡ true) × (d ≡ 0)) ⊎ ((nat_eq d 0 ≡ false) × (d ≢ 0)) → nat_eq d 0 ≡ false
  go (inl (t, e)) = absurd (h e)
  go (inr (t, e)) = t

pub waits_get : (o : Option Place) → waits o ≡ true → (q : Place) × (o ≡ Some q) × (q.counted ≡ false)
waits_get None e = cc
waits_get (Some q) e = (q, refl, not-true q.counted e)

-- an alternative whose place waits is there
pub waits_some : (o : Option Counts) (p : ℕ) → waits (place_in p o) ≡ true → is_some o ≡ true
waits_some None p e = cc
waits_some (Some c) p e = refl

-- whether an alternative becomes ready when its counts are set
pub wakes_set : (r : Bool) (xs now : List Counts) (n : ℕ) (old new : Counts) → xs ≡ now → n < length xs
    → old ≡ get_or xs n old → r ≡ (is_ready new && not (is_ready old))
    → r ≡ (ready_in (slice_get (set xs n new) n) && not (ready_in (slice_get now n)))
wakes_set r xs now n old new same l e h =
    h ∙ ap₂ (λ a b. ready_in a && not (ready_in b)) (sym (get-set xs n new l))
    (sym (get_here xs n old l e) ∙ ap (λ z. slice_get z n) same)

pub wakes_at : (r : Bool) (xs now : List (List Counts)) (n a : ℕ) (old new : List Counts) → xs ≡ now → n < length xs
    → old ≡ get_or xs n old → r ≡ (ready_in (slice_get new a) && not (ready_in (slice_get old a)))
    → r ≡ (is_ready_at n a (set xs n new) && not (is_ready_at n a now))
wakes_at r xs now n a old new same l e h =
    h ∙ ap₂ (λ x y. ready_in (slice_get x a) && not (ready_in (slice_get y a))) (sym (get_or-set_same xs n new [] l))
    (sym (get_or_get xs n old [] (get_here xs n old l e)) ∙ ap (λ z. get_or z n []) same)

-- at first all members are left, and no room was counted
left-append : (xs ys : List Place) → members_left (xs ++ ys) ≡ members_left xs + members_left ys
left-append [] ys = omega arith
left-append (x ∷ xs) ys = let l = left-append xs ys in omega (arith, l)

members_are_left : (ms : List NumberedPlaced) → members_left (map member_place ms) ≡ length ms
members_are_left [] = refl
members_are_left (m ∷ ms) = let l = members_are_left ms in omega (arith, l)

fillers_are_left : (fs : List NumberedFiller) → members_left (map filler_place fs) ≡ 0
fillers_are_left [] = refl
fillers_are_left (f ∷ fs) = let l = fillers_are_left fs in omega (arith, l)

pub all_left : (ms : List NumberedPlaced) (fs : List NumberedFiller)
    → members_left (map member_place ms ++ map filler_place fs) ≡ length ms
all_left ms fs =
    let a = left-append (map member_place ms) (map filler_place fs) in
    let b = members_are_left ms in
    let c = fillers_are_left fs in
    omega (arith, a, b, c)

rooms-append : (xs ys : List Place) → counted_rooms (xs ++ ys) ≡ counted_rooms xs + counted_rooms ys
rooms-append [] ys = omega arith
rooms-append (x ∷ xs) ys = let l = rooms-append xs ys in omega (arith, l)

no_member_rooms : (ms : List NumberedPlaced) → counted_rooms (map member_place ms) ≡ 0
no_member_rooms [] = refl
no_member_rooms (m ∷ ms) = let l = no_member_rooms ms in omega (arith, l)

no_filler_rooms : (fs : List NumberedFiller) → counted_rooms (map filler_place fs) ≡ 0
no_filler_rooms [] = refl
no_filler_rooms (f ∷ fs) = let l = no_filler_rooms fs in omega (arith, l)

pub no_rooms : (ms : List NumberedPlaced) (fs : List NumberedFiller)
    → counted_rooms (map member_place ms ++ map filler_place fs) ≡ 0
no_rooms ms fs =
    let a = rooms-append (map member_place ms) (map filler_place fs) in
    let b = no_member_rooms ms in
    let c = no_filler_rooms fs in
    omega (arith, a, b, c)

-- the place that is counted
pub record Here (qs : List Place) (p : ℕ) (q : Place) : Type 0 where
  pub low : p < length qs
  pub is : slice_get qs p ≡ Some q
  pub waits : q.counted ≡ false

pub here_is : (qs : List Place) (need : ℕ) (now : Counts) (p : ℕ) (q : Place)
    → record { need = need; places = qs } ≡ now → waits (slice_get now.places p) ≡ true → q ≡ get_or qs p q
    → Here qs p q
here_is qs need now p q same w e =
    let (x, is, left) = waits_get (slice_get qs p) (ap (λ c. waits (slice_get c.places p)) same ∙ w) in
    let y : q ≡ x = e ∙ get_or_get qs p x q is in
    record { low = get_low qs p x is; is = is ∙ ap Some (sym y); waits = ap (λ z. z.counted) y ∙ left }

pub one_place : (qs : List Place) (p : ℕ) (q r : Place) → Here qs p q → Here qs p r → q ≡ r
one_place qs p q r h k = some_same (sym h.is ∙ k.is) where
  some_same : {x y : Place} → Some x ≡ Some y → x ≡ y
  some_same e = cc

module _ (qs : List Place) (p : ℕ) (q : Place) (h : Here qs p q) where
  pub left_enough : cond q.is_member 1 0 ≤ members_left qs
  left_enough = let l = left_change qs p q h.is h.waits in omega (arith, l)

  set_is : set qs p (with_counted true q) ≡ change (with_counted true) p qs
  set_is =
      ap (λ z. set qs p (with_counted true z)) (sym (get_or_get qs p q q h.is))
      ∙ sym (change_set (with_counted true) p qs q h.low)

  pub left_set : (members less : ℕ) → members ≡ members_left qs → less + cond q.is_member 1 0 ≡ members
      → less ≡ members_left (set qs p (with_counted true q))
  left_set members less e l =
      let m = left_change qs p q h.is h.waits in
      let s = ap members_left set_is in
      omega (arith, e, l, m, s)

  pub missing_set : (need missing less : ℕ) → missing ≡ need - counted_rooms qs → less ≡ missing - q.room
      → less ≡ need - counted_rooms (set qs p (with_counted true q))
  missing_set need missing less e l =
      let m = rooms_change qs p q h.is h.waits in
      let s = ap counted_rooms set_is in
      omega (arith, e, l, m, s)

  pub counted_set : (need : ℕ) (now : Counts) → record { need = need; places = qs } ≡ now
      → record { need = need; places = set qs p (with_counted true q) } ≡ count_in p now
  counted_set need now same = ap (with_places (record { need = need; places = qs })) set_is ∙ ap (count_in p) same

-- one more member, of whatever goal
same_for_all : {A B : Type 0} (h : A → B) (y : B) → ((x : A) → h x ≡ y) → (xs : List A) (i : ℕ) → i < length xs
    → map h (drop i xs) ≡ y ∷ map h (drop (i + 1) xs)
same_for_all h y e [] i l = absurd (omega (arith, l))
same_for_all h y e (x ∷ xs) zero l = ap (λ z. z ∷ map h xs) (e x)
same_for_all h y e (x ∷ xs) (suc i) l =
    same_for_all h y e xs i (omega (arith, l)) ∙ ap (λ n. y ∷ map h (drop n (x ∷ xs))) (plus i)
  where
    plus : (i : ℕ) → suc (i + 1) ≡ suc i + 1
    plus i = omega arith

pub member_turn : (ms : List E.NumberedPlaced) (i : ℕ) (now next all : List Place) (q : Place)
    → ((m : NumberedPlaced) → member_place m ≡ q) → i < length ms → next ≡ now ++ q ∷ []
    → now ++ map member_place (map placed_view (drop i ms)) ≡ all
    → next ++ map member_place (map placed_view (drop (i + 1) ms)) ≡ all
member_turn ms i now next all q one l e h =
    ap (λ z. z ++ map member_place (map placed_view (drop (i + 1) ms))) e
    ∙ append_assoc now (q ∷ []) (map member_place (map placed_view (drop (i + 1) ms)))
    ∙ ap (λ z. now ++ z) (both (i + 1) (q ∷ []) ∙ sym step)
    ∙ h
  where
    joined : (xs : List E.NumberedPlaced)
        → map member_place (map placed_view xs) ≡ map (λ m. member_place (placed_view m)) xs
    joined [] = refl
    joined (x ∷ xs) = ap (λ ys. member_place (placed_view x) ∷ ys) (joined xs)

    both : (n : ℕ) (front : List Place) → front ++ map member_place (map placed_view (drop n ms))
        ≡ front ++ map (λ m. member_place (placed_view m)) (drop n ms)
    both n front = ap (λ z. front ++ z) (joined (drop n ms))

    step : map member_place (map placed_view (drop i ms)) ≡ q ∷ map (λ m. member_place (placed_view m))
        (drop (i + 1) ms)
    step = joined (drop i ms) ∙ same_for_all (λ m. member_place (placed_view m)) q (λ m. one (placed_view m)) ms i l
