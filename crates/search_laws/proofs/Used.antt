-- The goals that the document of a goal uses: all of lesser round, and all that they contain among them, so that the
-- goal itself is the last.
use Rattle.std.proofs.Common.{◌≡◌, ℕ, zero, suc, ◌+◌, ◌-◌, ◌≤◌, ◌<◌, ◌⊎◌, inl, inr, min, List, [], ◌∷◌, ◌++◌, filter, length, Bool, true, false, ◌&&◌, not, cond, nat_eq, nat_le, Option, Some, None, is_some, option_map, slice_get, refl, ap, ap₂, sym, ◌∙◌, subst, arith, true≢false, eqb-true, eq-eqb, zero-add, suc-add}
use Rattle.std.proofs.lemmas.Bool.{and_parts, and_from, or_cases, or_left, or_right, cases_lt, false_from_ne_true}
use Rattle.std.proofs.lemmas.List.{append-nil, append_assoc}
use Rattle.std.proofs.lemmas.List.Elements.{filter-append}
use Rattle.documents.specs.Tests.{every, some}
use Rattle.goals.specs.Signed.{Signed}
use Rattle.list_laws.specs.In.{IsIn, Distinct}
use Rattle.list_laws.proofs.Lists.{every_at, in_left, in_right, from_append, in_filter}
use Rattle.list_laws.proofs.Tests.{some_find, some_from, from_filter, in_range}
use Rattle.list_laws.proofs.Counts.{Distinct-filter}
use Rattle.list_laws.proofs.Pigeons.{Distinct-range}
use Rattle.alternatives.specs.Alternative.{Slot}
use Rattle.alternatives.specs.Slots.{next_slot}
use Rattle.alternatives.specs.Expansion.{Expansion}
use Rattle.search.specs.Explored.{Found}
use Rattle.search.specs.Rounds.{NumberedPlaced, NumberedFiller, Numbered, rooms, is_met, first_place, alternatives_of, round}
use Rattle.search.specs.Uses.{repeated, added_fillers, contents_of, numbers, satisfied, is_added, in_order, round_before, chosen_in, contents_in, contents, uses, used_goals}
use Rattle.search_laws.proofs.Rise.{rises, answer_round}
use Rattle.search_laws.proofs.Settled.{settled, rise_to}
use Rattle.search_laws.proofs.Answers.{Enters, Least, answer_least, before_too, added_low}
use Rattle.list_laws.proofs.Every.{every_joined}
use Rattle.list_laws.proofs.Booleans.{and_not-parts}

-- lists

pub filter_none : {A : Type 0} (p : A → Bool) (xs : List A) → ((x : A) → IsIn x xs → p x ≡ false) → filter p xs ≡ []
filter_none p [] h = refl
filter_none p (x ∷ xs) h = go (p x) (h x (inl refl)) (filter_none p xs (λ y i. h y (inr i))) where
  go : (b : Bool) → b ≡ false → filter p xs ≡ [] → cond b (x ∷ filter p xs) (filter p xs) ≡ []
  go true e more = cc
  go false e more = more

pub filter_one : (p : ℕ → Bool) (n : ℕ) (xs : List ℕ) → Distinct xs → IsIn n xs → p n ≡ true
    → ((x : ℕ) → IsIn x xs → p x ≡ true → x ≡ n) → filter p xs ≡ n ∷ []
filter_one p n [] d i e h = absurd i
filter_one p n (x ∷ xs) d i e h =
    go (p x) refl (λ j. filter_one p n xs d.1 j e (λ y k. h y (inr k))) where
      rest : x ≡ n → filter p xs ≡ []
      rest s =
          filter_none p xs
          (λ y j. false_from_ne_true (p y) (λ q. d.0 (subst (λ z. IsIn z xs) (h y (inr j) q ∙ sym s) j)))

      go : (b : Bool) → p x ≡ b → (IsIn n xs → filter p xs ≡ n ∷ []) → cond b (x ∷ filter p xs) (filter p xs) ≡ n ∷ []
      go true q more = let s = h x (inl refl) q in ap₂ (λ y ys. y ∷ ys) s (rest s)
      go false q more = by i where
        by : (n ≡ x) ⊎ IsIn n xs → filter p xs ≡ n ∷ []
        by (inl s) = absurd (true≢false (sym e ∙ ap p s ∙ q))
        by (inr j) = more j

pub first_place_is : {A : Type 0} (p : A → Bool) (xs : List A) (i : ℕ) (x : A) → first_place p xs ≡ Some i
    → slice_get xs i ≡ Some x → p x ≡ true
first_place_is p [] i x e at = cc
first_place_is p (y ∷ xs) i x e at = go (p y) refl e (λ j. first_place_is p xs j x) where
  some_same : Some y ≡ Some x → y ≡ x
  some_same e = cc

  inner : (a b : ℕ) (o : Option ℕ) → o ≡ Some a → o ≡ Some b → a ≡ b
  inner a b o x y = cc

  go : (b : Bool) → p y ≡ b → cond b (Some 0) (option_map suc (first_place p xs)) ≡ Some i
      → ((j : ℕ) → first_place p xs ≡ Some j → slice_get xs j ≡ Some x → p x ≡ true) → p x ≡ true
  go true q e more =
      let s : y ≡ x = some_same (ap (slice_get (y ∷ xs)) (inner 0 i (Some 0) refl e) ∙ at) in sym (ap p s) ∙ q
  go false q e more = by (first_place p xs) refl e where
    by : (o : Option ℕ) → first_place p xs ≡ o → option_map suc o ≡ Some i → p x ≡ true
    by None r e = cc
    by (Some j) r e = more j r (ap (slice_get (y ∷ xs)) (inner (suc j) i (Some (suc j)) refl e) ∙ at)

-- what an alternative that is met contains

module _ (has : ℕ → Bool) where
  repeated_has : (s : Slot) (n g : ℕ) → has g ≡ true → every (λ p. has p.goal) (repeated s n g) ≡ true
  repeated_has s zero g e = refl
  repeated_has s (suc n) g e =
      and_from (has g) (every (λ p. has p.goal) (repeated (next_slot s) n g)) e (repeated_has (next_slot s) n g e)

  fillers_have : (n : ℕ) (fs : List NumberedFiller) → every (λ p. has p.goal) (added_fillers has n fs) ≡ true
  fillers_have n [] = refl
  fillers_have n (f ∷ fs) = go (has f.goal) refl (fillers_have n fs) (fillers_have (n - f.room) fs) where
    go : (b : Bool) → has f.goal ≡ b → every (λ p. has p.goal) (added_fillers has n fs) ≡ true
        → every (λ p. has p.goal) (added_fillers has (n - f.room) fs) ≡ true
        → every (λ p. has p.goal) (cond b
        (repeated f.slot (min n f.room) f.goal ++ added_fillers has (n - f.room) fs)
        (added_fillers has n fs)) ≡ true
    go true e x y =
        every_joined (λ p. has p.goal) (repeated f.slot (min n f.room) f.goal)
        (added_fillers has (n - f.room) fs) (repeated_has f.slot (min n f.room) f.goal e) y
    go false e x y = x

  pub contents_have : (a : Numbered) → is_met has a ≡ true → every (λ p. has p.goal) (contents_of has a) ≡ true
  contents_have a e =
      let (m, r) = and_parts (every (λ m. has m.goal) a.members) (nat_le a.need (rooms has a.fillers)) e in
      every_joined (λ p. has p.goal) a.members (added_fillers has a.need a.fillers) m (fillers_have a.need a.fillers)

module _ (expansion : List Signed → Expansion) (f : Found) where
  abbrev Round : ℕ → ℕ → Bool
  Round r n = round expansion f r n

  abbrev Count : ℕ
  Count = length f.goals

  -- the least round of a goal that some round has, and its alternative
  pub record Entered (n : ℕ) : Type 0 where
    pub q : ℕ
    pub place : ℕ
    pub is : satisfied expansion f n ≡ Some (suc q, place)
    pub enters : Enters expansion f n q place
    pub few : suc q ≤ Count

  pub entered : (r n : ℕ) → Round r n ≡ true → Entered n
  entered r n e =
      go (satisfied expansion f n) refl (answer_round expansion f Count n ∙ settled expansion f r n e) where
        go : (o : Option (ℕ × ℕ)) → satisfied expansion f n ≡ o → is_some o ≡ true → Entered n
        go None h s = cc
        go (Some a) h s =
            let l : Least expansion f Count n a.0 a.1 = answer_least expansion f Count n a.0 a.1 h in
            let k = l.is in
            let w = l.within in
            record {
              q = l.q;
              place = a.1;
              is = h ∙ ap (λ z. Some (z, a.1)) l.is;
              enters = l.enters;
              few = omega (arith, k, w);
            }

  -- the round before it, seen from a round that has the goal
  pub entered_by : (r n : ℕ) → Round r n ≡ true → (e : Entered n) → suc e.q ≤ r
  entered_by r n h e = go (cases_lt e.q r) where
    go : (e.q < r) ⊎ (r ≤ e.q) → suc e.q ≤ r
    go (inl l) = omega (arith, l)
    go (inr l) = let b = e.enters in absurd (true≢false (sym (rise_to expansion f r e.q n l h) ∙ b.before))

  -- the round before has all that the goal contains
  contents_all : (r n : ℕ) → Round r n ≡ true → (e : Entered n) → every (λ p. Round e.q p.goal) (contents expansion
      f n) ≡ true
  contents_all r n h e =
      ap (λ o. every (λ p. Round e.q p.goal) (contents_in expansion f (round_before o)
      (chosen_in (alternatives_of expansion f n) o))) e.is
      ∙ go (slice_get (alternatives_of expansion f n) e.place) refl
    where
      go : (o : Option Numbered) → slice_get (alternatives_of expansion f n) e.place ≡ o
          → every (λ p. Round e.q p.goal) (contents_in expansion f e.q o) ≡ true
      go None at = refl
      go (Some a) at =
          let b = e.enters in
          contents_have (round expansion f e.q) a
          (first_place_is (is_met (round expansion f e.q)) (alternatives_of expansion f n) e.place a b.first at)

  pub contents_below : (r n : ℕ) → Round r n ≡ true → (e : Entered n) → (p : NumberedPlaced)
      → IsIn p (contents expansion f n) → Round e.q p.goal ≡ true
  contents_below r n h e p i = every_at (λ p. Round e.q p.goal) p (contents expansion f n) (contents_all r n h e) i

  -- what is used

  abbrev Uses : ℕ → ℕ → ℕ → Bool
  Uses k n m = uses expansion f k n m

  pub uses_itself : (k n : ℕ) → Uses k n n ≡ true
  uses_itself zero n = eq-eqb n n refl
  uses_itself (suc k) n =
      or_left (nat_eq n n) (some (λ p. uses expansion f k p.goal n) (contents expansion f n)) (eq-eqb n n refl)

  uses_next : (k n h : ℕ) (p : NumberedPlaced) → Uses k n h ≡ true → IsIn p (contents expansion f h)
      → Uses (suc k) n p.goal ≡ true
  uses_next zero n h p e i =
      let s : n ≡ h = eqb-true n h e in
      or_right (nat_eq n p.goal) (some (λ x. uses expansion f zero x.goal p.goal) (contents expansion f n))
      (some_from (λ x. uses expansion f zero x.goal p.goal) p (contents expansion f n)
      (subst (λ z. IsIn p (contents expansion f z)) (sym s) i) (uses_itself zero p.goal))
  uses_next (suc k) n h p e i =
      go (or_cases (nat_eq n h) (some (λ x. uses expansion f k x.goal h) (contents expansion f n)) e)
      (λ x u. uses_next k x h p u i) where
        with_first : (x : NumberedPlaced) → IsIn x (contents expansion f n) → Uses (suc k) x.goal p.goal ≡ true
            → Uses (suc (suc k)) n p.goal ≡ true
        with_first x j u =
            or_right (nat_eq n p.goal) (some (λ x. uses expansion f (suc k) x.goal p.goal) (contents expansion f n))
            (some_from (λ x. uses expansion f (suc k) x.goal p.goal) x (contents expansion f n) j u)

        go : (nat_eq n h ≡ true) ⊎ (some (λ x. uses expansion f k x.goal h) (contents expansion f n) ≡ true)
            → ((x : ℕ) → Uses k x h ≡ true → Uses (suc k) x p.goal ≡ true) → Uses (suc (suc k)) n p.goal ≡ true
        go (inl a) more =
            with_first p (subst (λ z. IsIn p (contents expansion f z)) (sym (eqb-true n h a)) i) (uses_itself (suc
            k) p.goal)
        go (inr a) more =
            let (x, j, u) = some_find (λ x. uses expansion f k x.goal h) (contents expansion f n) a in
            with_first x j (more x.goal u)

  -- as many as the round of the goal suffice
  uses_within : (r n k m : ℕ) → Round r n ≡ true → Uses k n m ≡ true → Uses r n m ≡ true
  uses_within zero n k m h e = cc
  uses_within (suc r) n zero m h e =
      or_left (nat_eq n m) (some (λ p. uses expansion f r p.goal m) (contents expansion f n)) e
  uses_within (suc r) n (suc k) m h e =
      go (or_cases (nat_eq n m) (some (λ p. uses expansion f k p.goal m) (contents expansion f n)) e)
      (λ x. uses_within r x k m) where
        go : (nat_eq n m ≡ true) ⊎ (some (λ p. uses expansion f k p.goal m) (contents expansion f n) ≡ true)
            → ((x : ℕ) → Round r x ≡ true → Uses k x m ≡ true → Uses r x m ≡ true) → Uses (suc r) n m ≡ true
        go (inl a) more = or_left (nat_eq n m) (some (λ p. uses expansion f r p.goal m) (contents expansion f n)) a
        go (inr a) more =
            let (p, i, u) = some_find (λ p. uses expansion f k p.goal m) (contents expansion f n) a in
            let x = entered (suc r) n h in
            let l : suc x.q ≤ suc r = entered_by (suc r) n h x in
            let low = rise_to expansion f x.q r p.goal (omega (arith, l)) (contents_below (suc r) n h x p i) in
            or_right (nat_eq n m) (some (λ p. uses expansion f r p.goal m) (contents expansion f n))
            (some_from (λ p. uses expansion f r p.goal m) p (contents expansion f n) i (more p.goal low u))

  -- what a used goal contains is used
  pub used_on : (n h : ℕ) (p : NumberedPlaced) → Round Count n ≡ true → Uses Count n h ≡ true
      → IsIn p (contents expansion f h) → Uses Count n p.goal ≡ true
  used_on n h p r e i = uses_within Count n (suc Count) p.goal r (uses_next Count n h p e i)

  pub used_itself : (n : ℕ) → Uses Count n n ≡ true
  used_itself n = uses_itself Count n

  -- a round that has a goal has all that it uses
  pub uses_round : (k r n m : ℕ) → Round r n ≡ true → Uses k n m ≡ true → Round r m ≡ true
  uses_round zero r n m h e = subst (λ z. Round r z ≡ true) (eqb-true n m e) h
  uses_round (suc k) r n m h e =
      go (or_cases (nat_eq n m) (some (λ p. uses expansion f k p.goal m) (contents expansion f n)) e)
      (λ x. uses_round k r x m) where
        go : (nat_eq n m ≡ true) ⊎ (some (λ p. uses expansion f k p.goal m) (contents expansion f n) ≡ true)
            → ((x : ℕ) → Round r x ≡ true → Uses k x m ≡ true → Round r m ≡ true) → Round r m ≡ true
        go (inl a) more = subst (λ z. Round r z ≡ true) (eqb-true n m a) h
        go (inr a) more =
            let (p, i, u) = some_find (λ p. uses expansion f k p.goal m) (contents expansion f n) a in
            let x = entered r n h in
            let l : suc x.q ≤ r = entered_by r n h x in
            more p.goal (rise_to expansion f x.q r p.goal (omega (arith, l)) (contents_below r n h x p i)) u

  -- the round before that of a goal has all others that it uses
  pub used_below : (k r n m : ℕ) → Round r n ≡ true → (e : Entered n) → Uses k n m ≡ true
      → (n ≡ m) ⊎ (Round e.q m ≡ true)
  used_below zero r n m h x e = inl (eqb-true n m e)
  used_below (suc k) r n m h x e =
      go (or_cases (nat_eq n m) (some (λ p. uses expansion f k p.goal m) (contents expansion f n)) e) where
        go : (nat_eq n m ≡ true) ⊎ (some (λ p. uses expansion f k p.goal m) (contents expansion f n) ≡ true)
            → (n ≡ m) ⊎ (Round x.q m ≡ true)
        go (inl a) = inl (eqb-true n m a)
        go (inr a) =
            let (p, i, u) = some_find (λ p. uses expansion f k p.goal m) (contents expansion f n) a in
            inr (uses_round k x.q p.goal m (contents_below r n h x p i) u)

  -- the order

  abbrev Order : ℕ → List ℕ
  Order r = in_order expansion f r

  abbrev Added : ℕ → List ℕ
  Added r = filter (is_added expansion f r) (numbers expansion f)

  added_from : (a b : Bool) → a ≡ true → b ≡ false → (a && not b) ≡ true
  added_from true true e h = cc
  added_from true false e h = refl
  added_from false b e h = cc

  pub in_added : (r n : ℕ) → Round (suc r) n ≡ true → Round r n ≡ false → IsIn n (Added r)
  in_added r n e h =
      in_filter (is_added expansion f r) n (numbers expansion f) (in_range Count n (added_low expansion f (suc r) n e))
      (added_from (Round (suc r) n) (Round r n) e h)

  pub from_added : (r n : ℕ) → IsIn n (Added r) → (Round (suc r) n ≡ true) × (Round r n ≡ false)
  from_added r n i =
      let (j, e) = from_filter (is_added expansion f r) n (numbers expansion f) i in
      and_not-parts (Round (suc r) n) (Round r n) e

  -- the order has just the goals of the round
  pub order_has : (r n : ℕ) → Round r n ≡ true → IsIn n (Order r)
  order_has zero n e = cc
  order_has (suc r) n e = go (Round r n) refl (order_has r n) where
    go : (b : Bool) → Round r n ≡ b → (Round r n ≡ true → IsIn n (Order r)) → IsIn n (Order r ++ Added r)
    go true h more = in_left n (Order r) (Added r) (more h)
    go false h more = in_right n (Order r) (Added r) (in_added r n e h)

  -- each goal of the order is a goal of the round
  pub has_order : (r n : ℕ) → IsIn n (Order r) → Round r n ≡ true
  has_order zero n i = absurd i
  has_order (suc r) n i = go (from_append n (Order r) (Added r) i) (has_order r n) where
    go : IsIn n (Order r) ⊎ IsIn n (Added r) → (IsIn n (Order r) → Round r n ≡ true) → Round (suc r) n ≡ true
    go (inl j) more = rises expansion f r n (more j)
    go (inr j) more = (from_added r n j).0

  -- past a round come goals that it lacks
  pub record Beyond (q r : ℕ) : Type 0 where
    pub rest : List ℕ
    pub is : Order r ≡ Order q ++ rest
    pub later : (m : ℕ) → IsIn m rest → Round q m ≡ false

  pub beyond : (k q : ℕ) → Beyond q (k + q)
  beyond zero q = record {
    rest = [];
    is = ap (λ z. Order z) (zero-add q) ∙ sym (append-nil (Order q));
    later = λ m i. absurd i;
  }
  beyond (suc k) q =
      let b = beyond k q in
      record {
        rest = b.rest ++ Added (k + q);
        is = ap (λ z. Order z) (suc-add k q) ∙ ap (λ l. l ++ Added (k + q)) b.is ∙ append_assoc (Order q) b.rest
            (Added (k + q));
        later = λ m i. go b.rest m (from_append m b.rest (Added (k + q)) i) b.later;
      }
    where
      go : (rest : List ℕ) (m : ℕ) → IsIn m rest ⊎ IsIn m (Added (k + q))
          → ((m : ℕ) → IsIn m rest → Round q m ≡ false) → Round q m ≡ false
      go rest m (inl j) more = more m j
      go rest m (inr j) more = before_too expansion f q (k + q) m (omega arith) (from_added (k + q) m j).1

  pub beyond_to : (q r : ℕ) → q ≤ r → Beyond q r
  beyond_to q r l = subst (λ z. Beyond q z) (plus q r l) (beyond (r - q) q) where
    plus : (q r : ℕ) → q ≤ r → r - q + q ≡ r
    plus q r l = omega (arith, l)

  -- the goal is the last of those that it uses
  pub used_last : (n : ℕ) → Round Count n ≡ true → (e : Entered n)
      → used_goals expansion f n ≡ filter (uses expansion f Count n) (Order e.q) ++ n ∷ []
  used_last n h e =
      ap (filter (uses expansion f Count n)) b.is
      ∙ filter-append (uses expansion f Count n) (Order e.q ++ Added e.q) b.rest
      ∙ ap₂ (λ x y. x ++ y) (filter-append (uses expansion f Count n) (Order e.q) (Added e.q)) none
      ∙ append-nil (filter (uses expansion f Count n) (Order e.q) ++ filter (uses expansion f Count n) (Added e.q))
      ∙ ap (λ l. filter (uses expansion f Count n) (Order e.q) ++ l) one
    where
      x : Enters expansion f n e.q e.place
      x = e.enters

      b : Beyond (suc e.q) Count
      b = beyond_to (suc e.q) Count e.few

      not_later : (m : ℕ) → IsIn m b.rest → (n ≡ m) ⊎ (Round e.q m ≡ true) → ⊥
      not_later m i (inl s) = true≢false (sym x.has ∙ ap (Round (suc e.q)) s ∙ b.later m i)
      not_later m i (inr k) = true≢false (sym (rises expansion f e.q m k) ∙ b.later m i)

      none : filter (uses expansion f Count n) b.rest ≡ []
      none = filter_none (uses expansion f Count n) b.rest
          (λ m i. false_from_ne_true (Uses Count n m) (λ u. not_later m i (used_below Count Count n m h e u)))

      itself : (m : ℕ) → IsIn m (Added e.q) → (n ≡ m) ⊎ (Round e.q m ≡ true) → m ≡ n
      itself m i (inl s) = sym s
      itself m i (inr k) = absurd (true≢false (sym k ∙ (from_added e.q m i).1))

      one : filter (uses expansion f Count n) (Added e.q) ≡ n ∷ []
      one = filter_one (uses expansion f Count n) n (Added e.q)
          (Distinct-filter (is_added expansion f e.q) (numbers expansion f) (Distinct-range 0 Count))
          (in_added e.q n x.has x.before) (used_itself n)
          (λ m i u. itself m i (used_below Count Count n m h e u))
