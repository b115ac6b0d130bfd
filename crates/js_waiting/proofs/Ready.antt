-- An alternative is ready exactly where a round that has what was counted meets it; and a count changes the first one
-- that is ready just where it wakes an alternative.
use Rattle.std.proofs.Common.{◌≡◌, ℕ, zero, suc, ◌+◌, ◌≤◌, List, [], ◌∷◌, ◌++◌, map, slice_get, Bool, true, false, not, ◌&&◌, ◌||◌, cond, nat_le, Option, Some, None, option_map, refl, ap, ap₂, sym, ◌∙◌, arith}
use Rattle.std.proofs.lemmas.Bool.{and_parts, and_from, leb-true, le-leb}
use Rattle.documents.specs.Tests.{every}
use Rattle.search.specs.Rounds.{NumberedPlaced, NumberedFiller, Numbered, rooms, is_met, first_place}
use Rattle.js_waiting.specs.Counts.{Counts, change, with_counted, count_in, counted_rooms, is_ready, ready_in}
use Rattle.js_waiting.specs.Marked.{counts_by, member_by, filler_by}
use Rattle.js_waiting.specs.First.{least_place}
use Rattle.js_waiting.specs.declared.place.Place.{Place}
use Rattle.js_waiting.proofs.Changes.{get-change}
use Rattle.std.proofs.Math.Bool.{or-false}

abbrev Counts_for : Place → Bool
Counts_for q = q.counted || not q.is_member

module _ (has : ℕ → Bool) where
  fillers_ready : (fs : List NumberedFiller) → every Counts_for (map (filler_by has) fs) ≡ true
  fillers_ready [] = refl
  fillers_ready (f ∷ fs) = go (has f.goal) (fillers_ready fs) where
    go : (b : Bool) → every Counts_for (map (filler_by has) fs) ≡ true
        → ((b || true) && every Counts_for (map (filler_by has) fs)) ≡ true
    go true e = e
    go false e = e

  members_ready : (ms : List NumberedPlaced) (fs : List NumberedFiller)
      → every Counts_for (map (member_by has) ms ++ map (filler_by has) fs) ≡ every (λ m. has m.goal) ms
  members_ready [] fs = fillers_ready fs
  members_ready (m ∷ ms) fs = ap₂ (λ a b. a && b) (or-false (has m.goal)) (members_ready ms fs)

  filler_rooms : (fs : List NumberedFiller) → counted_rooms (map (filler_by has) fs) ≡ rooms has fs
  filler_rooms [] = refl
  filler_rooms (f ∷ fs) = go (has f.goal) (filler_rooms fs) where
    go : (b : Bool) → counted_rooms (map (filler_by has) fs) ≡ rooms has fs
        → cond b f.room 0 + counted_rooms (map (filler_by has) fs) ≡ cond b (f.room + rooms has fs) (rooms has fs)
    go true e = omega (arith, e)
    go false e = omega (arith, e)

  all_rooms : (ms : List NumberedPlaced) (fs : List NumberedFiller)
      → counted_rooms (map (member_by has) ms ++ map (filler_by has) fs) ≡ rooms has fs
  all_rooms [] fs = filler_rooms fs
  all_rooms (m ∷ ms) fs = go (has m.goal) (all_rooms ms fs) where
    go : (b : Bool) → counted_rooms (map (member_by has) ms ++ map (filler_by has) fs) ≡ rooms has fs
        → cond b 0 0 + counted_rooms (map (member_by has) ms ++ map (filler_by has) fs) ≡ rooms has fs
    go true e = omega (arith, e)
    go false e = omega (arith, e)

  ready_met : (a : Numbered) → is_ready (counts_by has a) ≡ is_met has a
  ready_met a =
      ap₂ (λ x r. x && nat_le a.need r) (members_ready a.members a.fillers) (all_rooms a.members a.fillers)

  pub first_ready : (xs : List Numbered) → first_place is_ready (map (counts_by has) xs) ≡ first_place (is_met has) xs
  first_ready [] = refl
  first_ready (x ∷ xs) = ap₂ (λ b o. cond b (Some 0) (option_map suc o)) (ready_met x) (first_ready xs)

-- what is ready stays ready

every_stays : (p : ℕ) (qs : List Place) → every Counts_for qs ≡ true
    → every Counts_for (change (with_counted true) p qs) ≡ true
every_stays p [] e = refl
every_stays zero (q ∷ qs) e = let (a, b) = and_parts (Counts_for q) (every Counts_for qs) e in b
every_stays (suc p) (q ∷ qs) e =
    let (a, b) = and_parts (Counts_for q) (every Counts_for qs) e in
    and_from (Counts_for q) (every Counts_for (change (with_counted true) p qs)) a (every_stays p qs b)

rooms_stay : (p : ℕ) (qs : List Place) → counted_rooms qs ≤ counted_rooms (change (with_counted true) p qs)
rooms_stay p [] = omega arith
rooms_stay zero (q ∷ qs) = go q.counted where
  go : (b : Bool) → cond b q.room 0 + counted_rooms qs ≤ q.room + counted_rooms qs
  go true = omega arith
  go false = omega arith
rooms_stay (suc p) (q ∷ qs) = let l = rooms_stay p qs in omega (arith, l)

pub stays_ready : (p : ℕ) (c : Counts) → is_ready c ≡ true → is_ready (count_in p c) ≡ true
stays_ready p c e =
    let (a, b) = and_parts (every Counts_for c.places) (nat_le c.need (counted_rooms c.places)) e in
    let l = leb-true c.need (counted_rooms c.places) b in
    let m = rooms_stay p c.places in
    and_from (every Counts_for (change (with_counted true) p c.places))
    (nat_le c.need (counted_rooms (change (with_counted true) p c.places))) (every_stays p c.places a)
    (le-leb c.need (counted_rooms (change (with_counted true) p c.places)) (omega (arith, l, m)))

-- the first that passes, after a change
first_same : {A : Type 0} (p : A → Bool) (f : A → A) (a : ℕ) (xs : List A)
    → ((x : A) → slice_get xs a ≡ Some x → p (f x) ≡ p x) → first_place p (change f a xs) ≡ first_place p xs
first_same p f a [] h = refl
first_same p f zero (x ∷ xs) h = ap (λ b. cond b (Some 0) (option_map suc (first_place p xs))) (h x refl)
first_same p f (suc a) (x ∷ xs) h = ap (λ o. cond (p x) (Some 0) (option_map suc o)) (first_same p f a xs h)

first_new : {A : Type 0} (p : A → Bool) (f : A → A) (a : ℕ) (xs : List A) (x : A) → slice_get xs a ≡ Some x
    → p x ≡ false → p (f x) ≡ true → first_place p (change f a xs) ≡ Some (least_place a (first_place p xs))
first_new p f a [] x e h k = cc
first_new {A = A} p f zero (y ∷ ys) x e h k =
    ap (λ b. cond b (Some 0) (option_map suc (first_place p ys))) (ap (λ z. p (f z)) (some_same e) ∙ k)
    ∙ ap Some (sym (least_zero (cond (p y) (Some 0) (option_map suc (first_place p ys)))))
  where
    some_same : {x y : A} → Some x ≡ Some y → x ≡ y
    some_same e = cc

    least_zero : (o : Option ℕ) → least_place 0 o ≡ 0
    least_zero None = refl
    least_zero (Some i) = omega arith
first_new p f (suc a) (y ∷ ys) x e h k =
    ap (λ o. cond (p y) (Some 0) (option_map suc o)) (first_new p f a ys x e h k)
    ∙ go (p y) (first_place p ys)
  where
    go : (b : Bool) (o : Option ℕ) → cond b (Some 0) (option_map suc (Some (least_place a o)))
        ≡ Some (least_place (suc a) (cond b (Some 0) (option_map suc o)))
    go true o = ap Some (omega arith)
    go false None = refl
    go false (Some i) = ap Some (omega arith)

-- a count of a place: the first that is ready changes where the alternative wakes
pub first_counted : (cs : List Counts) (a p : ℕ) (woken : Bool)
    → woken ≡ (ready_in (slice_get (change (count_in p) a cs) a) && not (ready_in (slice_get cs a)))
    → first_place is_ready (change (count_in p) a cs)
    ≡ cond woken (Some (least_place a (first_place is_ready cs))) (first_place is_ready cs)
first_counted cs a p woken e = go (slice_get cs a) refl where
  Now : Option ℕ
  Now = first_place is_ready (change (count_in p) a cs)

  Then : Bool → Option ℕ
  Then b = cond b (Some (least_place a (first_place is_ready cs))) (first_place is_ready cs)

  same_some : {x y : Counts} → Some x ≡ Some y → x ≡ y
  same_some e = cc

  told : (o : Option Counts) → slice_get cs a ≡ o
      → woken ≡ (ready_in (option_map (count_in p) o) && not (ready_in o))
  told o h =
      let now = get-change (count_in p) a cs ∙ ap (option_map (count_in p)) h in
      e ∙ ap₂ (λ x y. ready_in x && not (ready_in y)) now h

  by : (c : Counts) → slice_get cs a ≡ Some c → (now old : Bool) → is_ready (count_in p c) ≡ now → is_ready c ≡ old
      → Now ≡ Then (now && not old)
  by c h true true x y =
      first_same is_ready (count_in p) a cs
      (λ d k. ap (λ z. is_ready (count_in p z)) (same_some (sym k ∙ h)) ∙ x ∙ sym y
      ∙ ap is_ready (same_some (sym h ∙ k)))
  by c h true false x y = first_new is_ready (count_in p) a cs c h y x
  by c h false true x y = let s = stays_ready p c y in cc
  by c h false false x y =
      first_same is_ready (count_in p) a cs
      (λ d k. ap (λ z. is_ready (count_in p z)) (same_some (sym k ∙ h)) ∙ x ∙ sym y
      ∙ ap is_ready (same_some (sym h ∙ k)))

  go : (o : Option Counts) → slice_get cs a ≡ o → Now ≡ Then woken
  go None h =
      first_same is_ready (count_in p) a cs (λ d k. absurd (none (sym h ∙ k))) ∙ ap Then (sym (told None h))
    where
      none : {x : Counts} → None ≡ Some x → ⊥
      none e = cc
  go (Some c) h = by c h (is_ready (count_in p c)) (is_ready c) refl refl ∙ ap Then (sym (told (Some c) h))
