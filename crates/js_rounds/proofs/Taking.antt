-- The goals of a round are taken one after another.
use Rattle.std.proofs.Common.{◌≡◌, ℕ, zero, suc, ◌+◌, ◌≤◌, ◌<◌, ◌⊎◌, inl, inr, List, [], ◌∷◌, ◌++◌, map, length, take, drop, drop-cons, get_or, Bool, true, false, ◌||◌, cond, nat_eq, nat_lt, Option, Some, None, is_some, eqb-true, eq-eqb, refl, ap, ap₂, sym, ◌∙◌, subst, arith, suc-add}
use Rattle.std.proofs.lemmas.Bool.{cases_lt, or_cases, or_left, or_right, false_from_ne_true}
use Rattle.std.proofs.lemmas.Option.{slice_get_past}
use Rattle.std.proofs.lemmas.List.FromFn.{length-map-range_with_len}
use Rattle.std.specs.List.{range_with_len}
use Rattle.documents.specs.Tests.{some}
use Rattle.goals.specs.Signed.{Signed}
use Rattle.list_laws.specs.In.{IsIn}
use Rattle.list_laws.proofs.Lists.{from_append, in_left, in_right}
use Rattle.list_laws.proofs.Tests.{some_find, some_from}
use Rattle.alternatives.specs.Expansion.{Expansion}
use Rattle.search.specs.Explored.{Found}
use Rattle.search.specs.Rounds.{is_met, first_place, alternatives_at, alternatives_of, round}
use Rattle.search.specs.Uses.{in_order}
use Rattle.search_laws.proofs.Used.{order_has, has_order}
use Rattle.js_explore.specs.Exploration as E
use Rattle.js_explore.specs.Exploration.{Exploration, Explores}
use Rattle.js_waiting.specs.Counts.{Counts, counts_of, is_ready, uncounted}
use Rattle.js_waiting.specs.Mentioned.{mentions_of, can_count, count_all}
use Rattle.js_waiting.specs.Marked.{marked, passes, by_goal, counts_by, with_goal}
use Rattle.js_waiting.specs.declared.mention.Mention.{Mention}
use Rattle.js_waiting.proofs.Mentioning.{Names, right}
use Rattle.js_waiting.proofs.Marking.{none_counted, state_is, first_is, goal_counted, goal_can}
use Rattle.js_rounds.specs.State.{IsRoomy, IsUncounted, times}
use Rattle.js_rounds.specs.Waking.{Keeps, IsTaken, firsts, among}
use Rattle.js_rounds.specs.declared.rounds.Rounds.{Rounds}
use Rattle.js_rounds.proofs.Answered.{times-append, in_times, times_in, known_low}
use Rattle.js_rounds.proofs.Members.{none_there}
use Rattle.list_laws.proofs.Booleans.{same_test}

among_in : (xs : List ℕ) (g : ℕ) → among xs g ≡ true → IsIn g xs
among_in xs g e =
    let (x, i, t) = some_find (λ x. nat_eq x g) xs e in subst (λ z. IsIn z xs) (eqb-true x g t) i

in_among : (xs : List ℕ) (g : ℕ) → IsIn g xs → among xs g ≡ true
in_among xs g i = some_from (λ x. nat_eq x g) g xs i (eq-eqb g g refl)

among-append : (xs : List ℕ) (m g : ℕ) → with_goal (among xs) m g ≡ among (xs ++ m ∷ []) g
among-append xs m g =
    same_test (with_goal (among xs) m g) (among (xs ++ m ∷ []) g)
    (λ e. in_among (xs ++ m ∷ []) g (to (or_cases (nat_eq g m) (among xs g) e)))
    (λ e. from (from_append g xs (m ∷ []) (among_in (xs ++ m ∷ []) g e)))
  where
    to : (nat_eq g m ≡ true) ⊎ (among xs g ≡ true) → IsIn g (xs ++ m ∷ [])
    to (inl e) = in_right g xs (m ∷ []) (inl (eqb-true g m e))
    to (inr e) = in_left g xs (m ∷ []) (among_in xs g e)

    from : IsIn g xs ⊎ IsIn g (m ∷ []) → with_goal (among xs) m g ≡ true
    from (inl i) = or_right (nat_eq g m) (among xs g) (in_among xs g i)
    from (inr (inl e)) = or_left (nat_eq g m) (among xs g) (eq-eqb g m e)
    from (inr (inr i)) = absurd i

pub length_uncounted : (e : Exploration) → length (uncounted e) ≡ length e.found.goals
length_uncounted e = length-map-range_with_len (λ n. map counts_of (E.alternatives_at e n)) 0 (length e.found.goals)

-- before the first goal is taken
pub none_taken : (e : Exploration) (s : Rounds) → IsUncounted e s → IsTaken e 0 s
none_taken e s h = record {
  waiting = h.waiting ∙ none_counted e;
  mentions = h.mentions;
}

-- the goal that is at a place
take_next : (xs : List ℕ) (i d : ℕ) → i < length xs → take (i + 1) xs ≡ take i xs ++ get_or xs i d ∷ []
take_next [] i d l = absurd (omega (arith, l))
take_next (x ∷ xs) zero d l = refl
take_next (x ∷ xs) (suc i) d l =
    ap (λ n. take n (x ∷ xs)) (suc-add i 1) ∙ ap (λ ys. x ∷ ys) (take_next xs i d (omega (arith, l)))

take_split : (xs : List ℕ) (i n : ℕ) → i ≤ n → (ys : List ℕ) × (take n xs ≡ take i xs ++ ys)
take_split xs zero n l = (take n xs, refl)
take_split [] (suc i) zero l = absurd (omega (arith, l))
take_split [] (suc i) (suc n) l = ([], refl)
take_split (x ∷ xs) (suc i) zero l = absurd (omega (arith, l))
take_split (x ∷ xs) (suc i) (suc n) l =
    let (ys, e) = take_split xs i n (omega (arith, l)) in (ys, ap (λ zs. x ∷ zs) e)

at_most_one : (b : Bool) → cond {A = ℕ} b 1 0 ≤ 1
at_most_one true = omega arith
at_most_one false = omega arith

some_one : (b : Bool) → 0 < cond {A = ℕ} b 1 0 → b ≡ true
some_one true l = refl
some_one false l = absurd (omega (arith, l))

module _ (e : Exploration) (s : Rounds) (roomy : IsRoomy (length e.found.goals) s) (place : ℕ)
    (taken : IsTaken e place s)
    (low : place < s.count) (long : s.count ≤ length s.order.items) (m : ℕ) (at : m ≡ get_or s.order.items place m)
  where
    abbrev Before : List ℕ
    Before = take place s.order.items

    next_is : take (place + 1) s.order.items ≡ Before ++ m ∷ []
    next_is =
        take_next s.order.items place m (omega (arith, low, long)) ∙ ap (λ x. Before ++ x ∷ []) (sym at)

    counted_once : (0 < times m (take s.count s.order.items)) × (times m Before ≡ 0)
    counted_once =
        let (ys, k) = take_split s.order.items (place + 1) s.count (omega (arith, low)) in
        let all = ap (times m) (k ∙ ap (λ l. l ++ ys) next_is) in
        let x = times-append m (Before ++ m ∷ []) ys in
        let y = times-append m Before (m ∷ []) in
        let z = in_times m (m ∷ []) (inl refl) in
        let n = roomy.noted m in
        let o = at_most_one (is_some (get_or s.known.items m None)) in
        (omega (arith, all, x, y, z), omega (arith, all, x, y, z, n, o))

    goal_low : m < length e.found.goals
    goal_low =
        let n = roomy.noted m in
        let (l, z) = counted_once in
        let has = some_one (is_some (get_or s.known.items m None)) (omega (arith, n, l)) in
        let k = known_low s.known.items m has in
        omega (arith, k, roomy.known)

    not_taken : among Before m ≡ false
    not_taken = false_from_ne_true (among Before m) (λ t.
        let l = in_times m Before (among_in Before m t) in
        let (k, z) = counted_once in
        omega (arith, l, z))

    mentioned : get_or s.mentions m [] ≡ mentions_of e m
    mentioned = taken.mentions m goal_low

    -- the places that name it are there, and wait
    pub names_low : (u : Mention) → IsIn u (get_or s.mentions m []) → u.goal < length s.known.items
    names_low u i =
        let n : Names e m u = right e m u (subst (λ us. IsIn u us) mentioned i) in
        let l = n.low in
        omega (arith, l, roomy.known)

    pub names_wait : can_count (get_or s.mentions m []) s.waiting ≡ true
    names_wait = ap₂ can_count mentioned taken.waiting ∙ goal_can e (among Before) m not_taken

    -- then the goal is taken
    pub taken_on : (t : Rounds) → Keeps s t → t.waiting ≡ count_all (get_or s.mentions m []) s.waiting
        → IsTaken e (place + 1) t
    taken_on t keeps counted = record {
      waiting = counted ∙ ap₂ count_all mentioned taken.waiting ∙ goal_counted e (among Before) m
          ∙ ap (λ has. marked (by_goal has e) (uncounted e)) (λ i g. more g i);
      mentions = λ k l. ap (λ ms. get_or ms k []) keeps.mentions ∙ taken.mentions k l;
    } where
      more : (g : ℕ) → with_goal (among Before) m g ≡ among (take (place + 1) t.order.items) g
      more g =
          among-append Before m g
          ∙ ap (λ xs. among xs g) (sym (keeps.order (place + 1) (omega (arith, low)) ∙ next_is))

-- what is ready is what a round meets, where the goals taken are those of the round
module _ (X : List Signed → Expansion) (e : Exploration) (explores : Explores X e) where
  past_none : (g : ℕ) → length e.found.goals ≤ g → alternatives_of X e.found g ≡ []
  past_none g l =
      ap (λ o. cond (nat_lt g e.found.taken) (alternatives_at X e.found o) []) (slice_get_past e.found.goals g l)
      ∙ none (nat_lt g e.found.taken)
    where
      none : {A : Type 0} (b : Bool) → cond {A = List A} b [] [] ≡ []
      none true = refl
      none false = refl

  pub firsts_are : (q place : ℕ) (s : Rounds) → IsTaken e place s → take place s.order.items ≡ in_order X e.found q
      → (g : ℕ) → firsts s.waiting g ≡ first_place (is_met (round X e.found q)) (alternatives_of X e.found g)
  firsts_are q place s taken order g =
      ap (λ w. firsts w g) (taken.waiting ∙ ap (λ has. marked (by_goal has e) (uncounted e)) (λ i h. same h i))
      ∙ go (cases_lt g (length e.found.goals))
    where
      same : (h : ℕ) → among (take place s.order.items) h ≡ round X e.found q h
      same h =
          ap (λ xs. among xs h) order
          ∙ same_test (among (in_order X e.found q) h) (round X e.found q h)
          (λ t. has_order X e.found q h (among_in (in_order X e.found q) h t))
          (λ t. in_among (in_order X e.found q) h (order_has X e.found q h t))

      W : List (List Counts)
      W = marked (by_goal (round X e.found q) e) (uncounted e)

      go : (g < length e.found.goals) ⊎ (length e.found.goals ≤ g)
          → firsts W g ≡ first_place (is_met (round X e.found q)) (alternatives_of X e.found g)
      go (inl l) =
          first_is e (round X e.found q) g l
          ∙ ap (first_place (is_met (round X e.found q))) (explores.alternatives g)
      go (inr l) =
          ap (first_place is_ready) (none_there W g [] (omega (arith, l, long)))
          ∙ sym (ap (first_place (is_met (round X e.found q))) (past_none g l))
        where
          long : length W ≡ length e.found.goals
          long =
              ap length (state_is e (by_goal (round X e.found q) e) (round X e.found q)
              (λ h a p k m n. ap (passes (round X e.found q)) n))
              ∙ length-map-range_with_len (λ n. map (counts_by (round X e.found q)) (E.alternatives_at e n)) 0
              (length e.found.goals)
