-- A round on the way: what wakes an alternative, and what doesn't.
use Rattle.std.proofs.Common.{◌≡◌, ◌≢◌, ℕ, zero, suc, ◌+◌, ◌≤◌, ◌<◌, ◌⊎◌, inl, inr, min, List, [], ◌∷◌, ◌++◌, length, take, get_or, slice_get, set, Bool, true, false, not, ◌&&◌, cond, nat_eq, nat_lt, Option, Some, None, is_some, get_or-set_same, get_or-set_other, refl, ap, ap₂, sym, ◌∙◌, subst, arith, length-append, add-one}
use Rattle.std.proofs.lemmas.Bool.{lt-ltb, le-ltb, cases_lt}
use Rattle.std.proofs.lemmas.Bool.Decides.{eqb_tells}
use Rattle.std.proofs.lemmas.List.{append-nil, append_assoc, take-append-le}
use Rattle.goals.specs.Signed.{Signed}
use Rattle.alternatives.specs.Expansion.{Expansion}
use Rattle.search.specs.Explored.{Found}
use Rattle.search.specs.Rounds.{first_place, told, answer}
use Rattle.search.specs.Uses.{in_order, last_within}
use Rattle.search_laws.proofs.Answers.{Least, answer_least}
use Rattle.js_waiting.specs.Counts.{Counts, change, count_in, count_at, is_ready, ready_in, is_ready_at}
use Rattle.js_waiting.specs.First.{least_place}
use Rattle.js_waiting.proofs.Changes.{get_or-change_other}
use Rattle.js_waiting.proofs.Ready.{first_counted}
use Rattle.js_rounds.specs.State.{IsNew, IsRoomy}
use Rattle.js_rounds.specs.Waking.{Keeps, Waking, firsts, told_at, new_goal}
use Rattle.js_rounds.specs.declared.rounds.Rounds.{Rounds}
use Rattle.js_rounds.proofs.Answered.{answered_most, length_take}
use Rattle.js_rounds.proofs.Using.{get_take}

module _ (expansion : List Signed → Expansion) (f : Found) (r : ℕ) where
  abbrev Answer : ℕ → Option (ℕ × ℕ)
  Answer g = answer expansion f r g

  -- what is ready is as before
  pub quiet : (first next : ℕ → Option ℕ) (s t : Rounds) → Waking expansion f r first s
      → ((g : ℕ) → next g ≡ first g) → t.known.items ≡ s.known.items
      → take t.count t.order.items ≡ take s.count s.order.items → t.last ≡ s.last → Waking expansion f r next t
  quiet first next s t h same known order last = record {
    known = λ g. ap (λ os. get_or os g None) known ∙ h.known g ∙ ap (told r (Answer g)) (sym (same g));
    woken = h.woken;
    order = order ∙ h.order;
    last = last ∙ h.last;
  }

  -- an alternative that is ready is noted
  told_least : (a g : ℕ) (o : Option ℕ)
      → told_at r a (told r (Answer g) o) ≡ told r (Answer g) (Some (least_place a o))
  told_least a g o = go (Answer g) refl o where
    next : r + 1 ≡ suc r
    next = omega arith

    pair : ℕ → Option (ℕ × ℕ)
    pair i = Some (suc r, i)

    least : (i : ℕ) → (a < i) ⊎ (i ≤ a) → cond (true && nat_lt a i) (pair a) (pair i) ≡ pair (min a i)
    least i (inl l) = ap (λ b. cond b (pair a) (pair i)) (lt-ltb a i l) ∙ ap pair (omega (arith, l))
    least i (inr l) = ap (λ b. cond b (pair a) (pair i)) (le-ltb a i l) ∙ ap pair (omega (arith, l))

    go : (b : Option (ℕ × ℕ)) → Answer g ≡ b → (o : Option ℕ)
        → told_at r a (told r b o) ≡ told r b (Some (least_place a o))
    go None e None = ap (λ k. Some (k, a)) next
    go None e (Some i) =
        ap (λ b. cond (b && nat_lt a i) (pair a) (pair i)) (lt-ltb r (suc r) (omega arith))
        ∙ least i (cases_lt a i)
    go (Some b) e o =
        let l : Least expansion f r g b.0 b.1 = answer_least expansion f r g b.0 b.1 e in
        ap (λ c. cond (c && nat_lt a b.1) (Some (b.0, a)) (Some b)) (le-ltb r b.0 l.within)

  -- where an alternative becomes ready the state stays one on the way, with the alternative noted
  pub wakes : (first next : ℕ → Option ℕ) (s t : Rounds) (h a : ℕ) → Waking expansion f r first s
      → ((g : ℕ) → g ≢ h → next g ≡ first g) → next h ≡ Some (least_place a (first h)) → h < length s.known.items
      → t.known.items ≡ set s.known.items h (told_at r a (get_or s.known.items h None))
      → take t.count t.order.items ≡ take s.count s.order.items ++ new_goal h (get_or s.known.items h None)
      → t.last ≡ cond (is_some (get_or s.known.items h None)) s.last (r + 1) → Waking expansion f r next t
  wakes first next s t h a x others here l known order last = record {
    known = λ g. by g (eqb_tells g h);
    woken = x.woken ++ new_goal h Was;
    order = order ∙ ap (λ l. l ++ new_goal h Was) x.order
        ∙ append_assoc (in_order expansion f r) x.woken (new_goal h Was);
    last = last ∙ go Was;
  } where
    Was : Option (ℕ × ℕ)
    Was = get_or s.known.items h None

    by : (g : ℕ) → ((nat_eq g h ≡ true) × (g ≡ h)) ⊎ ((nat_eq g h ≡ false) × (g ≢ h))
        → get_or t.known.items g None ≡ told r (Answer g) (next g)
    by g (inr (u, e)) =
        ap (λ os. get_or os g None) known
        ∙ get_or-set_other s.known.items h g (told_at r a Was) None e
        ∙ x.known g ∙ ap (told r (Answer g)) (sym (others g e))
    by g (inl (u, e)) =
        subst (λ z. get_or t.known.items z None ≡ told r (Answer z) (next z)) (sym e)
        (ap (λ os. get_or os h None) known
        ∙ get_or-set_same s.known.items h (told_at r a Was) None l
        ∙ ap (told_at r a) (x.known h) ∙ told_least a h (first h) ∙ ap (told r (Answer h)) (sym here))

    go : (o : Option (ℕ × ℕ)) → cond (is_some o) s.last (r + 1)
        ≡ cond (nat_lt 0 (length (x.woken ++ new_goal h o))) (suc r) (last_within expansion f r)
    go (Some b) =
        x.last ∙ ap (λ l. cond (nat_lt 0 (length l)) (suc r) (last_within expansion f r)) (sym (append-nil x.woken))
    go None =
        add-one r
        ∙ sym (ap (λ b. cond b (suc r) (last_within expansion f r))
        (lt-ltb 0 (length (x.woken ++ h ∷ [])) (some x.woken)))
      where
        some : (xs : List ℕ) → 0 < length (xs ++ h ∷ [])
        some [] = omega arith
        some (y ∷ ys) = omega arith

-- before the first round
pub begun : (expansion : List Signed → Expansion) (f : Found) (n : ℕ) (w : List (List Counts)) (s : Rounds) → IsNew n s
    → Waking expansion f 0 (firsts (take 0 w)) s
begun expansion f n w s h = record {
  known = h.none;
  woken = [];
  order = ap (λ k. take k s.order.items) h.count;
  last = h.last;
}

-- what is ready of the goals below one more
get_beyond : {A : Type 0} (k : ℕ) (xs : List A) (j : ℕ) (d : A) → k ≤ j → get_or (take k xs) j d ≡ d
get_beyond zero xs j d l = refl
get_beyond (suc k) [] j d l = refl
get_beyond (suc k) (x ∷ xs) zero d l = absurd (omega (arith, l))
get_beyond (suc k) (x ∷ xs) (suc j) d l = get_beyond k xs j d (omega (arith, l))

pub below_other : (w : List (List Counts)) (j g : ℕ) → g ≢ j → firsts (take (j + 1) w) g ≡ firsts (take j w) g
below_other w j g e = ap (first_place is_ready) (go (cases_lt g j)) where
  go : (g < j) ⊎ (j ≤ g) → get_or (take (j + 1) w) g [] ≡ get_or (take j w) g []
  go (inl l) = get_take (j + 1) w g [] (omega (arith, l)) ∙ sym (get_take j w g [] l)
  go (inr l) = get_beyond (j + 1) w g [] (omega (arith, l, e)) ∙ sym (get_beyond j w g [] l)

pub below_next : (w : List (List Counts)) (j : ℕ) → firsts (take (j + 1) w) j ≡ firsts w j
below_next w j = ap (first_place is_ready) (get_take (j + 1) w j [] (omega arith))

pub below_none : (w : List (List Counts)) (j : ℕ) → firsts (take j w) j ≡ None
below_none w j = ap (first_place is_ready) (get_beyond j w j [] (omega arith))

-- a place is counted
get_change : {A : Type 0} (f : A → A) (n : ℕ) (xs : List A) (d : A) → f d ≡ d
    → get_or (change f n xs) n d ≡ f (get_or xs n d)
get_change f n [] d e = sym e
get_change f zero (x ∷ xs) d e = refl
get_change f (suc n) (x ∷ xs) d e = get_change f n xs d e

pub counted_other : (w : List (List Counts)) (h a p g : ℕ) → g ≢ h → firsts (count_at h a p w) g ≡ firsts w g
counted_other w h a p g e =
    ap (first_place is_ready) (get_or-change_other (change (count_in p) a) h g w [] e)

pub counted_here : (w : List (List Counts)) (h a p : ℕ) (woken : Bool)
    → woken ≡ (is_ready_at h a (count_at h a p w) && not (is_ready_at h a w))
    → firsts (count_at h a p w) h ≡ cond woken (Some (least_place a (firsts w h))) (firsts w h)
counted_here w h a p woken e =
    ap (first_place is_ready) now
    ∙ first_counted (get_or w h []) a p woken
    (e ∙ ap (λ cs. ready_in (slice_get cs a) && not (is_ready_at h a w)) now)
  where
    now : get_or (count_at h a p w) h [] ≡ change (count_in p) a (get_or w h [])
    now = get_change (change (count_in p) a) h w [] refl

pub counted_quiet : (w : List (List Counts)) (h a p g : ℕ)
    → false ≡ (is_ready_at h a (count_at h a p w) && not (is_ready_at h a w))
    → firsts (count_at h a p w) g ≡ firsts w g
counted_quiet w h a p g e = go (eqb_tells g h) where
  go : ((nat_eq g h ≡ true) × (g ≡ h)) ⊎ ((nat_eq g h ≡ false) × (g ≢ h)) → firsts (count_at h a p w) g ≡ firsts w g
  go (inl (u, k)) =
      subst (λ z. firsts (count_at h a p w) z ≡ firsts w z) (sym k) (counted_here w h a p false e)
  go (inr (u, k)) = counted_other w h a p g k

take_take : (k n : ℕ) (xs : List ℕ) → k ≤ n → take k (take n xs) ≡ take k xs
take_take zero n xs l = refl
take_take (suc k) zero xs l = absurd (omega (arith, l))
take_take (suc k) (suc n) [] l = refl
take_take (suc k) (suc n) (x ∷ xs) l = ap (λ ys. x ∷ ys) (take_take k n xs (omega (arith, l)))

-- what was noted stays
pub keeps_from : (n m : ℕ) (r s : Rounds) (more : List ℕ) → IsRoomy n r → IsRoomy m s
    → length s.known.items ≡ length r.known.items
    → take s.count s.order.items ≡ take r.count r.order.items ++ more → s.has_run ≡ r.has_run
    → s.mentions ≡ r.mentions → Keeps r s
keeps_from n m r s more x y known order has_run mentions = record {
  known = known;
  count = count;
  order = λ k l.
      sym (take_take k s.count s.order.items (omega (arith, l, count)))
      ∙ ap (take k) order
      ∙ take-append-le k (take r.count r.order.items) more (omega (arith, l, long))
      ∙ take_take k r.count r.order.items l;
  has_run = has_run;
  mentions = mentions;
} where
  within : (k : ℕ) (q : Rounds) → IsRoomy k q → q.count ≤ length q.order.items
  within k q h = let l = answered_most q.known.items in omega (arith, l, h.known, h.order, h.count)

  long : length (take r.count r.order.items) ≡ r.count
  long = length_take r.count r.order.items (within n r x)

  count : r.count ≤ s.count
  count =
      let a = length_take s.count s.order.items (within m s y) in
      let b = ap length order in
      let c = length-append (take r.count r.order.items) more in
      omega (arith, a, b, c, long)
