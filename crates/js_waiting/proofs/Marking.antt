-- States in which places are counted exactly where a test says so.
use Rattle.std.proofs.Common.{◌≡◌, ◌≢◌, ℕ, zero, suc, ◌+◌, ◌<◌, ◌⊎◌, inl, inr, List, [], ◌∷◌, ◌++◌, map, length, take, get_or, slice_get, Bool, true, false, not, ◌&&◌, ◌||◌, nat_eq, Option, Some, None, option_map, is_some, refl, ap, ap₂, sym, ◌∙◌, subst, arith, eqb-true, eq-eqb, drop, drop-cons, zero-add, add-zero, suc-add}
use Rattle.std.proofs.lemmas.Bool.{and_parts}
use Rattle.std.proofs.lemmas.Bool.Decides.{eqb_tells}
use Rattle.std.proofs.lemmas.List.{drop_all}
use Rattle.std.proofs.lemmas.List.FromFn.{length-range_with_len, get_or-range_with_len, get_or-map-range_with_len}
use Rattle.std.specs.List.{range_with_len}
use Rattle.documents.specs.Tests.{some}
use Rattle.search.specs.Rounds.{NumberedPlaced, NumberedFiller, Numbered, is_met, first_place}
use Rattle.list_laws.specs.In.{IsIn, Distinct}
use Rattle.list_laws.proofs.Lists.{get_or-in}
use Rattle.list_laws.proofs.Tests.{some_find, some_from}
use Rattle.js_explore.specs.Exploration.{Exploration, alternatives_at}
use Rattle.js_waiting.specs.Counts.{Counts, change, with_counted, with_places, count_in, count_at, is_ready, place_in, waits, waits_at, member_place, filler_place, counts_of, uncounted}
use Rattle.js_waiting.specs.Mentioned.{count_all, can_count, mention, named_goals, mentions_of, goals_in, goal_at}
use Rattle.js_waiting.specs.Marked.{map_from, mark_counts, mark_all, marked, member_by, filler_by, counts_by, is_at, passes, by_goal, while_taken, with_goal}
use Rattle.js_waiting.specs.declared.place.Place.{Place}
use Rattle.js_waiting.specs.declared.mention.Mention.{Mention}
use Rattle.js_waiting.proofs.Changes.{change_map, map_from_same, get-map_from, get_or-map_from, map_from-constant, get_low, get_or_get}
use Rattle.js_waiting.proofs.Ready.{first_ready}
use Rattle.js_waiting.proofs.Mentioning.{Names, right, listed, once}
use Rattle.list_laws.proofs.Numbers.{nat_eq-refl, suc_add-add_suc}
use Rattle.list_laws.proofs.Booleans.{same_test, or_left_comm}
use Rattle.std.proofs.Math.Bool.{or_assoc}
use Rattle.std.proofs.lemmas.Option.{same_Some}
use Rattle.std.proofs.Math.Numerals.{suc-eq-add-one}

differ : (m n : ℕ) → m ≢ n → nat_eq m n ≡ false
differ m n h = go (eqb_tells m n) where
  go : ((nat_eq m n ≡ true) × (m ≡ n)) ⊎ ((nat_eq m n ≡ false) × (m ≢ n)) → nat_eq m n ≡ false
  go (inl (t, e)) = absurd (h e)
  go (inr (t, e)) = t

-- one more place
module _ (bit : ℕ → ℕ → ℕ → Bool) (h a p : ℕ) where
  abbrev More : ℕ → ℕ → ℕ → Bool
  More g b q = is_at g b q (mention h a p) || bit g b q

  other_goal : (g b q : ℕ) → g ≢ h → More g b q ≡ bit g b q
  other_goal g b q e =
      ap (λ t. (t && (nat_eq a b && nat_eq p q)) || bit g b q) (differ h g (λ k. e (sym k)))

  other_alternative : (b q : ℕ) → b ≢ a → More h b q ≡ bit h b q
  other_alternative b q e =
      ap₂ (λ s t. (s && (t && nat_eq p q)) || bit h b q) (nat_eq-refl h) (differ a b (λ k. e (sym k)))

  other_place : (q : ℕ) → q ≢ p → More h a q ≡ bit h a q
  other_place q e =
      ap₂ (λ s t. (s && t) || bit h a q) (nat_eq-refl h)
      (ap₂ (λ s t. s && t) (nat_eq-refl a) (differ p q (λ k. e (sym k))))

  here : More h a p ≡ true
  here =
      ap₂ (λ s t. (s && t) || bit h a p) (nat_eq-refl h) (ap₂ (λ s t. s && t) (nat_eq-refl a) (nat_eq-refl p))

  in_places : (qs : List Place)
      → change (with_counted true) p (map_from (λ q x. with_counted (bit h a q) x) 0 qs)
      ≡ map_from (λ q x. with_counted (More h a q) x) 0 qs
  in_places qs =
      change_map (with_counted true) (λ q x. with_counted (bit h a q) x) (λ q x. with_counted (More h a q) x) p
      (λ x. ap (λ b. with_counted b x) (sym here)) (λ q x e. ap (λ b. with_counted b x) (sym (other_place q e))) 0 p qs
      (sym (zero-add p))

  in_alternatives : (cs : List Counts) → change (count_in p) a (mark_all (bit h) cs) ≡ mark_all (More h) cs
  in_alternatives cs =
      change_map (count_in p) (λ b c. mark_counts (bit h b) c) (λ b c. mark_counts (More h b) c) a
      (λ c. ap (with_places c) (in_places c.places))
      (λ b c e. ap (λ t. mark_counts t c) (λ i q. sym (other_alternative b q e) i)) 0 a cs (sym (zero-add a))

  pub count_marked : (w : List (List Counts)) → count_at h a p (marked bit w) ≡ marked More w
  count_marked w =
      change_map (change (count_in p) a) (λ g cs. mark_all (bit g) cs) (λ g cs. mark_all (More g) cs) h
      in_alternatives (λ g cs e. ap (λ t. mark_all t cs) (λ i b q. sym (other_goal g b q e) i)) 0 h w (sym (zero-add h))

-- the places of one alternative, where the test is that of goals
module _ (has : ℕ → Bool) where
  places_by : (bit : ℕ → Bool) (k : ℕ) (ms : List NumberedPlaced) (fs : List NumberedFiller)
      → ((i g : ℕ) → slice_get (map (λ m. m.goal) ms ++ map (λ f. f.goal) fs) i ≡ Some g → bit (k + i) ≡ has g)
      → map_from (λ p q. with_counted (bit p) q) k (map member_place ms ++ map filler_place fs)
      ≡ map (member_by has) ms ++ map (filler_by has) fs
  places_by bit k [] [] h = refl
  places_by bit k [] (f ∷ fs) h =
      ap₂ (λ b qs. record { is_member = false; room = f.room; counted = b } ∷ qs)
      (ap bit (sym (add-zero k)) ∙ h 0 f.goal refl)
      (places_by bit (suc k) [] fs (λ i g e. ap bit (suc_add-add_suc k i) ∙ h (suc i) g e))
  places_by bit k (m ∷ ms) fs h =
      ap₂ (λ b qs. record { is_member = true; room = 0; counted = b } ∷ qs)
      (ap bit (sym (add-zero k)) ∙ h 0 m.goal refl)
      (places_by bit (suc k) ms fs (λ i g e. ap bit (suc_add-add_suc k i) ∙ h (suc i) g e))

  counts_are : (bit : ℕ → Bool) (x : Numbered)
      → ((p g : ℕ) → slice_get (named_goals x) p ≡ Some g → bit p ≡ has g)
      → mark_counts bit (counts_of x) ≡ counts_by has x
  counts_are bit x h =
      ap (with_places (counts_of x))
      (places_by bit 0 x.members x.fillers (λ i g e. ap bit (zero-add i) ∙ h i g e))

map_from-map : {A B C : Type 0} (f : ℕ → B → C) (g : A → B) (k : ℕ) (xs : List A)
    → map_from f k (map g xs) ≡ map_from (λ i x. f i (g x)) k xs
map_from-map f g k [] = refl
map_from-map f g k (x ∷ xs) = ap (λ ys. f k (g x) ∷ ys) (map_from-map f g (suc k) xs)

range_at : (n i x : ℕ) → slice_get (range_with_len 0 n) i ≡ Some x → (x ≡ i) × (i < n)
range_at n i x e =
    let l : i < n = below (get_low (range_with_len 0 n) i x e) in
    (sym (get_or_get (range_with_len 0 n) i x 0 e) ∙ get_or-range_with_len 0 n i 0 l ∙ zero-add i, l)
  where
    below : i < length (range_with_len 0 n) → i < n
    below l = omega (arith, l, length-range_with_len 0 n)

module _ (e : Exploration) where
  abbrev Size : ℕ
  Size = length e.found.goals

  -- what is counted where the test agrees with one of goals
  pub state_is : (bit : ℕ → ℕ → ℕ → Bool) (has : ℕ → Bool)
      → ((h a p g : ℕ) → h < length e.found.goals → goal_at e h a p ≡ Some g → bit h a p ≡ has g)
      → marked bit (uncounted e) ≡ map (λ n. map (counts_by has) (alternatives_at e n)) (range_with_len 0 (length
      e.found.goals))
  state_is bit has agree =
      map_from-map (λ h cs. mark_all (bit h) cs) (λ n. map counts_of (alternatives_at e n)) 0 (range_with_len 0 Size)
      ∙ map_from_same (λ h n. mark_all (bit h) (map counts_of (alternatives_at e n)))
      (λ h n. map (counts_by has) (alternatives_at e n)) 0 (range_with_len 0 Size) one
      ∙ map_from-constant (λ n. map (counts_by has) (alternatives_at e n)) 0 (range_with_len 0 Size)
    where
      of_goal : (h : ℕ) → h < Size
          → mark_all (bit h) (map counts_of (alternatives_at e h)) ≡ map (counts_by has) (alternatives_at e h)
      of_goal h l =
          map_from-map (λ a c. mark_counts (bit h a) c) counts_of 0 (alternatives_at e h)
          ∙ map_from_same (λ a x. mark_counts (bit h a) (counts_of x)) (λ a x. counts_by has x) 0 (alternatives_at e h)
          (λ a x k. counts_are has (bit h (0 + a)) x
          (λ p g n. ap (λ z. bit h z p) (zero-add a)
          ∙ agree h a p g l (ap (λ o. slice_get (goals_in o) p) k ∙ n)))
          ∙ map_from-constant (counts_by has) 0 (alternatives_at e h)

      one : (i n : ℕ) → slice_get (range_with_len 0 Size) i ≡ Some n
          → mark_all (bit (0 + i)) (map counts_of (alternatives_at e n)) ≡ map (counts_by has) (alternatives_at e n)
      one i n k =
          let (s, l) = range_at Size i n k in
          ap₂ (λ z m. mark_all (bit z) (map counts_of (alternatives_at e m))) (zero-add i) s
          ∙ of_goal i l
          ∙ ap (λ m. map (counts_by has) (alternatives_at e m)) (sym s)

  -- tests that agree with the same test of goals
  pub state_same : (bit next : ℕ → ℕ → ℕ → Bool) (has : ℕ → Bool)
      → ((h a p g : ℕ) → h < length e.found.goals → goal_at e h a p ≡ Some g → bit h a p ≡ has g)
      → ((h a p g : ℕ) → h < length e.found.goals → goal_at e h a p ≡ Some g → next h a p ≡ has g)
      → marked bit (uncounted e) ≡ marked next (uncounted e)
  state_same bit next has x y = state_is bit has x ∙ sym (state_is next has y)

  by_agrees : (has : ℕ → Bool) (h a p g : ℕ) → h < Size → goal_at e h a p ≡ Some g → by_goal has e h a p ≡ has g
  by_agrees has h a p g l k = ap (passes has) k

  -- nothing is counted
  pub none_counted : uncounted e ≡ marked (by_goal (λ n. false) e) (uncounted e)
  none_counted = sym (state_is (by_goal (λ n. false) e) (λ n. false) (by_agrees (λ n. false)))

  -- the first alternative that is ready is the first that what was counted meets
  pub first_is : (has : ℕ → Bool) (h : ℕ) → h < length e.found.goals
      → first_place is_ready (get_or (marked (by_goal has e) (uncounted e)) h [])
      ≡ first_place (is_met has) (alternatives_at e h)
  first_is has h l =
      ap (λ w. first_place is_ready (get_or w h [])) (state_is (by_goal has e) has (by_agrees has))
      ∙ ap (first_place is_ready)
      (get_or-map-range_with_len (λ n. map (counts_by has) (alternatives_at e n)) 0 Size h h [] l (zero-add h))
      ∙ first_ready has (alternatives_at e h)

-- a goal is taken
is_at_is : (h a p : ℕ) (u : Mention) → is_at h a p u ≡ true → u ≡ mention h a p
is_at_is h a p u e =
    let (x, y) = and_parts (nat_eq u.goal h) (nat_eq u.alternative a && nat_eq u.place p) e in
    let (y, z) = and_parts (nat_eq u.alternative a) (nat_eq u.place p) y in
    ap₂ (λ f q. f q) (ap₂ mention (eqb-true u.goal h x) (eqb-true u.alternative a y)) (eqb-true u.place p z)

is_at_self : (h a p : ℕ) → is_at h a p (mention h a p) ≡ true
is_at_self h a p = ap₂ (λ s t. s && t) (nat_eq-refl h) (ap₂ (λ s t. s && t) (nat_eq-refl a) (nat_eq-refl p))

take_next : {A : Type 0} (p : A → Bool) (xs : List A) (i : ℕ) (d : A) → i < length xs
    → some p (take (i + 1) xs) ≡ (p (get_or xs i d) || some p (take i xs))
take_next p [] i d l = absurd (omega (arith, l))
take_next p (x ∷ xs) zero d l = refl
take_next p (x ∷ xs) (suc i) d l =
    ap (λ n. some p (take n (x ∷ xs))) (suc-add i 1)
    ∙ ap (λ b. p x || b) (take_next p xs i d (omega (arith, l)))
    ∙ or_left_comm (p x) (p (get_or xs i d)) (some p (take i xs))

take_own : {A : Type 0} (xs : List A) (i : ℕ) (d : A) → Distinct xs → i < length xs
    → IsIn (get_or xs i d) (take i xs) → ⊥
take_own [] i d h l j = absurd (omega (arith, l))
take_own (x ∷ xs) zero d h l j = j
take_own (x ∷ xs) (suc i) d h l (inl e) =
    h.0 (subst (λ z. IsIn z xs) e (get_or-in xs i d (omega (arith, l))))
take_own (x ∷ xs) (suc i) d h l (inr j) = take_own xs i d h.1 (omega (arith, l)) j

module _ (e : Exploration) (has : ℕ → Bool) (m : ℕ) where
  abbrev Us : List Mention
  Us = mentions_of e m

  -- the place that comes next isn't one of those before
  not_before : (i : ℕ) (u : Mention) → i < length Us → u ≡ get_or Us i u
      → some (is_at u.goal u.alternative u.place) (take i Us) ≡ false
  not_before i u l k = go (some (is_at u.goal u.alternative u.place) (take i Us)) refl where
    go : (b : Bool) → some (is_at u.goal u.alternative u.place) (take i Us) ≡ b
        → some (is_at u.goal u.alternative u.place) (take i Us) ≡ false
    go false x = x
    go true x =
        let (v, j, y) = some_find (is_at u.goal u.alternative u.place) (take i Us) x in
        let s = is_at_is u.goal u.alternative u.place v y in
        absurd (take_own Us i u (once e m) l (subst (λ z. IsIn z (take i Us)) (s ∙ k) j))

  pub names_next : (i : ℕ) (u : Mention) → i < length (mentions_of e m) → u ≡ get_or (mentions_of e m) i u → Names e m u
  names_next i u l k = right e m u (subst (λ z. IsIn z Us) (sym k) (get_or-in Us i u l))

  -- one more mention is taken
  pub taken_next : (i : ℕ) (u : Mention) → i < length (mentions_of e m) → u ≡ get_or (mentions_of e m) i u
      → count_at u.goal u.alternative u.place (marked (while_taken has e m i) (uncounted e))
      ≡ marked (while_taken has e m (i + 1)) (uncounted e)
  taken_next i u l k =
      count_marked (while_taken has e m i) u.goal u.alternative u.place (uncounted e)
      ∙ ap (λ b. marked b (uncounted e)) (λ j h a p. more h a p j)
    where
      more : (h a p : ℕ) → (is_at h a p u || while_taken has e m i h a p) ≡ while_taken has e m (i + 1) h a p
      more h a p =
          sym (or_assoc (is_at h a p u) (some (is_at h a p) (take i Us)) (by_goal has e h a p))
          ∙ ap (λ b. b || by_goal has e h a p)
          (ap (λ v. is_at h a p v || some (is_at h a p) (take i Us)) k
          ∙ sym (take_next (is_at h a p) Us i u l))

  -- where all mentions of a goal are taken, the goal counts as one of the round
  pub taken_all : marked (while_taken has e m (length (mentions_of e m))) (uncounted e)
      ≡ marked (by_goal (with_goal has m) e) (uncounted e)
  taken_all =
      state_same e (while_taken has e m (length Us)) (by_goal (with_goal has m) e) (with_goal has m) agree
      (by_agrees e (with_goal has m))
    where
      all : (h a p : ℕ) (b : Bool) → some (is_at h a p) (take (length Us) Us) ≡ b → some (is_at h a p) Us ≡ b
      all h a p b x = ap (some (is_at h a p)) (sym (take_whole Us)) ∙ x where
        take_whole : {A : Type 0} (xs : List A) → take (length xs) xs ≡ xs
        take_whole [] = refl
        take_whole (x ∷ xs) = ap (λ ys. x ∷ ys) (take_whole xs)

      found : (h a p g : ℕ) → h < length e.found.goals → goal_at e h a p ≡ Some g
          → some (is_at h a p) Us ≡ nat_eq g m
      found h a p g l n = same_test (some (is_at h a p) Us) (nat_eq g m)
          (λ x.
          let (u, j, y) = some_find (is_at h a p) Us x in
          let s = is_at_is h a p u y in
          let r = right e m (mention h a p) (subst (λ z. IsIn z Us) s j) in
          eq-eqb g m (same_Some _ _ (sym n ∙ r.names)))
          (λ x. some_from (is_at h a p) (mention h a p) Us
          (listed e m h a p l (n ∙ ap Some (eqb-true g m x))) (is_at_self h a p))

      agree : (h a p g : ℕ) → h < length e.found.goals → goal_at e h a p ≡ Some g
          → while_taken has e m (length Us) h a p ≡ with_goal has m g
      agree h a p g l n =
          ap₂ (λ x y. x || y) (sym (all h a p (some (is_at h a p) (take (length Us) Us)) refl) ∙ found h a p g l n)
          (ap (passes has) n)

  -- the place that comes next waits, if the goal wasn't taken
  pub next_waits : (i : ℕ) (u : Mention) → i < length (mentions_of e m) → u ≡ get_or (mentions_of e m) i u
      → has m ≡ false
      → waits_at u.goal u.alternative u.place (marked (while_taken has e m i) (uncounted e)) ≡ true
  next_waits i u l k left =
      let n = names_next i u l k in
      let bit : while_taken has e m i u.goal u.alternative u.place ≡ false =
      ap₂ (λ a b. a || b) (not_before i u l k) (ap (passes has) n.names ∙ left) in
      waits_where (while_taken has e m i) u.goal u.alternative u.place m n.low n.names bit
    where
      place_there : (ms : List NumberedPlaced) (fs : List NumberedFiller) (p g : ℕ)
          → slice_get (map (λ x. x.goal) ms ++ map (λ x. x.goal) fs) p ≡ Some g
          → is_some (slice_get (map member_place ms ++ map filler_place fs) p) ≡ true
      place_there [] [] p g e = cc
      place_there [] (f ∷ fs) zero g e = refl
      place_there [] (f ∷ fs) (suc p) g e = place_there [] fs p g e
      place_there (x ∷ ms) fs zero g e = refl
      place_there (x ∷ ms) fs (suc p) g e = place_there ms fs p g e

      in_alternative : (bit : ℕ → Bool) (o : Option Numbered) (p g : ℕ) → slice_get (goals_in o) p ≡ Some g
          → bit p ≡ false → waits (place_in p (option_map (mark_counts bit) (option_map counts_of o))) ≡ true
      in_alternative bit None p g e b = cc
      in_alternative bit (Some x) p g e b =
          ap waits (get-map_from (λ q z. with_counted (bit q) z) 0 p (counts_of x).places)
          ∙ go (slice_get (counts_of x).places p) (place_there x.members x.fillers p g e)
        where
          go : (o : Option Place) → is_some o ≡ true
              → waits (option_map (with_counted (bit (0 + p))) o) ≡ true
          go None h = cc
          go (Some q) h = ap not (ap bit (zero-add p) ∙ b)

      get-map : {A B : Type 0} (f : A → B) (xs : List A) (i : ℕ)
          → slice_get (map f xs) i ≡ option_map f (slice_get xs i)
      get-map f [] i = refl
      get-map f (x ∷ xs) zero = refl
      get-map f (x ∷ xs) (suc i) = get-map f xs i

      waits_where : (bit : ℕ → ℕ → ℕ → Bool) (h a p g : ℕ) → h < length e.found.goals → goal_at e h a p ≡ Some g
          → bit h a p ≡ false → waits_at h a p (marked bit (uncounted e)) ≡ true
      waits_where bit h a p g l n b =
          ap (λ cs. waits (place_in p (slice_get cs a)))
          (get_or-map_from (λ z cs. mark_all (bit z) cs) 0 h (uncounted e) [] [] (λ j. refl)
          ∙ ap₂ (λ z cs. mark_all (bit z) cs) (zero-add h)
          (get_or-map-range_with_len (λ z. map counts_of (alternatives_at e z)) 0 (length e.found.goals) h h [] l
          (zero-add h)))
          ∙ ap (λ o. waits (place_in p o))
          (get-map_from (λ z c. mark_counts (bit h z) c) 0 a (map counts_of (alternatives_at e h))
          ∙ ap₂ (λ z o. option_map (mark_counts (bit h z)) o) (zero-add a)
          (get-map counts_of (alternatives_at e h) a))
          ∙ in_alternative (bit h a) (slice_get (alternatives_at e h) a) p g n b

  -- all places that name a goal which wasn't taken can be counted; then the goal was taken
  abbrev State : ℕ → List (List Counts)
  State i = marked (while_taken has e m i) (uncounted e)

  left_at : (i : ℕ) → i < length Us → (u : Mention) × (u ≡ get_or Us i u) × (drop i Us ≡ u ∷ drop (i + 1) Us)
  left_at i l = (
    get_or Us i zeros,
    any Us i l,
    drop-cons Us i zeros l
        ∙ ap (λ n. get_or Us i zeros ∷ drop n Us) (suc-eq-add-one i),
  )
    where
      zeros : Mention
      zeros = mention 0 0 0

      any : (xs : List Mention) (i : ℕ) → i < length xs → get_or xs i zeros ≡ get_or xs i (get_or xs i zeros)
      any [] i l = absurd (omega (arith, l))
      any (x ∷ xs) zero l = refl
      any (x ∷ xs) (suc i) l = any xs i (omega (arith, l))

  pub all_counted : (k i : ℕ) → k + i ≡ length (mentions_of e m)
      → count_all (drop i (mentions_of e m)) (marked (while_taken has e m i) (uncounted e))
      ≡ marked (by_goal (with_goal has m) e) (uncounted e)
  all_counted zero i k =
      ap (λ us. count_all us (State i)) (drop_all i Us (omega (arith, k)))
      ∙ ap State (sym (zero-add i) ∙ k) ∙ taken_all
  all_counted (suc n) i k =
      let (u, at, left) = left_at i (omega (arith, k)) in
      ap (λ us. count_all us (State i)) left
      ∙ ap (count_all (drop (i + 1) Us)) (taken_next i u (omega (arith, k)) at)
      ∙ all_counted n (i + 1) (omega (arith, k))

  pub all_can : has m ≡ false → (k i : ℕ) → k + i ≡ length (mentions_of e m)
      → can_count (drop i (mentions_of e m)) (marked (while_taken has e m i) (uncounted e)) ≡ true
  all_can out zero i k = ap (λ us. can_count us (State i)) (drop_all i Us (omega (arith, k)))
  all_can out (suc n) i k =
      let (u, at, left) = left_at i (omega (arith, k)) in
      ap (λ us. can_count us (State i)) left
      ∙ ap₂ (λ b c. b && c) (next_waits i u (omega (arith, k)) at out)
      (ap (can_count (drop (i + 1) Us)) (taken_next i u (omega (arith, k)) at)
      ∙ all_can out n (i + 1) (omega (arith, k)))

  pub goal_counted : count_all (mentions_of e m) (marked (by_goal has e) (uncounted e))
      ≡ marked (by_goal (with_goal has m) e) (uncounted e)
  goal_counted = all_counted (length Us) 0 (omega arith)

  pub goal_can : has m ≡ false → can_count (mentions_of e m) (marked (by_goal has e) (uncounted e)) ≡ true
  goal_can out = all_can out (length Us) 0 (omega arith)
