-- What was counted where an exploration passed the limit on goals, or the one on their places.
use Rattle.std.proofs.Common.{◌≡◌, ℕ, zero, suc, ◌+◌, ◌<◌, ◌≤◌, ◌⊎◌, inl, inr, Bool, true, false, cond, nat_lt, List, [], ◌∷◌, ◌++◌, length, take, Option, Some, None, slice_get, refl, ap, sym, ◌∙◌, subst, arith}
use Rattle.std.proofs.lemmas.Bool.{ltb-true, ltb-false}
use Rattle.std.proofs.lemmas.List.{append-nil, append_assoc}
use Rattle.list_laws.specs.In.{IsIn}
use Rattle.list_laws.proofs.Lists.{every_from, in_left, in_right}
use Rattle.goals.specs.Signed.{Signed}
use Rattle.alternatives.specs.Alternative.{named, places}
use Rattle.alternatives.specs.Limit.{LimitKind, Goals, Total}
use Rattle.alternatives.specs.Expansion.{Expansion, first_limit}
use Rattle.search.specs.Explored.{Found, found, is_listed, mention, mention_goals, take_goal, step, after, explored}
use Rattle.decision_laws.proofs.Full.{IsKept, explored_kept, not_total}
use Rattle.js_decide.specs.Counted.{all_places, PassesAll}
use Rattle.std.proofs.lemmas.Option.{same_Some}

-- what is taken with one more
take_next : {A : Type 0} (n : ℕ) (xs ys : List A) (x : A) → slice_get xs n ≡ Some x
    → take (suc n) (xs ++ ys) ≡ take n xs ++ x ∷ []
take_next zero [] ys x e = cc
take_next (suc n) [] ys x e = cc
take_next zero (z ∷ xs) ys x e = ap (λ y. y ∷ []) (same_Some z x e)
take_next (suc n) (z ∷ xs) ys x e = ap (λ l. z ∷ l) (take_next n xs ys x e)

goals_first : (o : Option LimitKind) → first_limit o Goals ≡ Some Goals → (o ≡ None) ⊎ (o ≡ Some Goals)
goals_first None e = inl refl
goals_first (Some j) e = inr e

not_goals : (o : Option LimitKind) → first_limit o Goals ≡ Some Total → o ≡ Some Total
not_goals None e = cc
not_goals (Some j) e = e

module _ (most : ℕ) where
  -- what mentions change
  record IsMore (s t : Found) : Type 0 where
    pub more : List (List Signed)
    pub goals : t.goals ≡ s.goals ++ more
    pub taken : t.taken ≡ s.taken
    pub places : t.places ≡ s.places
    pub total : t.over ≡ Some Total → s.over ≡ Some Total
    pub full : most ≤ length s.goals → t.goals ≡ s.goals

  nothing_more : (s : Found) → IsMore s s
  nothing_more s = record {
    more = [];
    goals = sym (append-nil s.goals);
    taken = refl;
    places = refl;
    total = λ o. o;
    full = λ l. refl;
  }

  one_more : (s : Found) (g : List Signed) → IsMore s (mention most s g)
  one_more s g = go (is_listed s.goals g) (nat_lt (length s.goals) most) refl where
    go : (a b : Bool) → nat_lt (length s.goals) most ≡ b
        → IsMore s (cond a s
        (cond b (found (s.goals ++ g ∷ []) s.taken s.places s.over)
        (found s.goals s.taken s.places (first_limit s.over Goals))))
    go true b e = nothing_more s
    go false true e = record {
      more = g ∷ [];
      goals = refl;
      taken = refl;
      places = refl;
      total = λ o. o;
      full = λ l. absurd (omega (arith, l, ltb-true (length s.goals) most e));
    }
    go false false e = record {
      more = [];
      goals = sym (append-nil s.goals);
      taken = refl;
      places = refl;
      total = not_goals s.over;
      full = λ l. refl;
    }

  all_more : (s : Found) (xs : List (List Signed)) → IsMore s (mention_goals most s xs)
  all_more s [] = nothing_more s
  all_more s (x ∷ xs) =
      let p = one_more s x in
      let q = all_more (mention most s x) xs in
      record {
        more = p.more ++ q.more;
        goals = q.goals ∙ ap (λ l. l ++ q.more) p.goals ∙ append_assoc s.goals p.more q.more;
        taken = q.taken ∙ p.taken;
        places = q.places ∙ p.places;
        total = λ o. p.total (q.total o);
        full = λ l. q.full (subst (λ gs. most ≤ length gs) (sym (p.full l)) l) ∙ p.full l;
      }

  -- a goal that found no number
  record IsPast (xs : List (List Signed)) (t : Found) : Type 0 where
    pub goal : List Signed
    pub at : IsIn goal xs
    pub is_new : is_listed t.goals goal ≡ false
    pub full : most ≤ length t.goals

  one_past : (s : Found) (g : List Signed) → (mention most s g).over ≡ Some Goals
      → (s.over ≡ Some Goals) ⊎ ((is_listed (mention most s g).goals g ≡ false)
      × (most ≤ length (mention most s g).goals))
  one_past s g = go (is_listed s.goals g) (nat_lt (length s.goals) most) refl refl where
    go : (a b : Bool) → is_listed s.goals g ≡ a → nat_lt (length s.goals) most ≡ b
        → (let t = cond a s
        (cond b (found (s.goals ++ g ∷ []) s.taken s.places s.over)
        (found s.goals s.taken s.places (first_limit s.over Goals))) in
        t.over ≡ Some Goals → (s.over ≡ Some Goals) ⊎ ((is_listed t.goals g ≡ false) × (most ≤ length t.goals)))
    go true b p q e = inl e
    go false true p q e = inl e
    go false false p q e = by (goals_first s.over e) where
      by : (s.over ≡ None) ⊎ (s.over ≡ Some Goals)
          → (s.over ≡ Some Goals) ⊎ ((is_listed s.goals g ≡ false) × (most ≤ length s.goals))
      by (inl o) = inr (p, ltb-false (length s.goals) most q)
      by (inr o) = inl o

  some_past : (s : Found) (xs : List (List Signed)) → (mention_goals most s xs).over ≡ Some Goals
      → (s.over ≡ Some Goals) ⊎ IsPast xs (mention_goals most s xs)
  some_past s [] e = inl e
  some_past s (x ∷ xs) e = go (some_past (mention most s x) xs e) where
    go : ((mention most s x).over ≡ Some Goals) ⊎ IsPast xs (mention_goals most (mention most s x) xs)
        → (s.over ≡ Some Goals) ⊎ IsPast (x ∷ xs) (mention_goals most (mention most s x) xs)
    go (inr u) = inr (record { goal = u.goal; at = inr u.at; is_new = u.is_new; full = u.full })
    go (inl o) = by (one_past s x o) where
      by : (s.over ≡ Some Goals) ⊎ ((is_listed (mention most s x).goals x ≡ false)
          × (most ≤ length (mention most s x).goals))
          → (s.over ≡ Some Goals) ⊎ IsPast (x ∷ xs) (mention_goals most (mention most s x) xs)
      by (inl p) = inl p
      by (inr (is_new, full)) =
          let same = (all_more (mention most s x) xs).full full in
          inr (record {
            goal = x;
            at = inl refl;
            is_new = subst (λ gs. is_listed gs x ≡ false) (sym same) is_new;
            full = subst (λ gs. most ≤ length gs) (sym same) full;
          })

  module _ (most_total : ℕ) (expansion : List Signed → Expansion) where
    places_last : (gs : List (List Signed)) (g : List Signed)
        → all_places expansion (gs ++ g ∷ []) ≡ all_places expansion gs + places (expansion g).alternatives
    places_last [] g = omega arith
    places_last (h ∷ gs) g = omega (arith, places_last gs g)

    -- one of so many goals names one that is not listed, and there is no room for it
    record NamesNew (gs : List (List Signed)) (n : ℕ) : Type 0 where
      pub goal : List Signed
      pub was_taken : IsIn goal (take n gs)
      pub further : List Signed
      pub is_named : IsIn further (named (expansion goal).alternatives)
      pub is_new : is_listed gs further ≡ false
      pub full : most ≤ length gs

    -- the next goal has too many places beside those that are there
    record IsHeavy (s : Found) : Type 0 where
      pub goal : List Signed
      pub at : slice_get s.goals s.taken ≡ Some goal
      pub many : most_total < s.places + places (expansion goal).alternatives

    record IsRight (s : Found) : Type 0 where
      pub places : s.places ≡ all_places expansion (take s.taken s.goals)
      pub goals : s.over ≡ Some Goals → NamesNew s.goals s.taken
      pub total : s.over ≡ Some Total → IsHeavy s

    module _ (s : Found) (g : List Signed) (at : slice_get s.goals s.taken ≡ Some g) (h : IsRight s) where
      abbrev Next : Found
      Next = mention_goals most s (named (expansion g).alternatives)

      taken_next : take (suc Next.taken) Next.goals ≡ take s.taken s.goals ++ g ∷ []
      taken_next =
          let m = all_more s (named (expansion g).alternatives) in
          ap (λ n. take (suc n) Next.goals) m.taken ∙ ap (take (suc s.taken)) m.goals
          ∙ take_next s.taken s.goals m.more g at

      names_next : (s.over ≡ Some Goals) ⊎ IsPast (named (expansion g).alternatives) Next
          → NamesNew Next.goals (suc Next.taken)
      names_next (inl o) =
          let n = h.goals o in
          let same = (all_more s (named (expansion g).alternatives)).full n.full in
          record {
            goal = n.goal;
            was_taken = subst (IsIn n.goal) (sym taken_next)
                (in_left n.goal (take s.taken s.goals) (g ∷ []) n.was_taken);
            further = n.further;
            is_named = n.is_named;
            is_new = subst (λ gs. is_listed gs n.further ≡ false) (sym same) n.is_new;
            full = subst (λ gs. most ≤ length gs) (sym same) n.full;
          }
      names_next (inr u) = record {
        goal = g;
        was_taken = subst (IsIn g) (sym taken_next) (in_right g (take s.taken s.goals) (g ∷ []) (inl refl));
        further = u.goal;
        is_named = u.at;
        is_new = u.is_new;
        full = u.full;
      }

      places_next : Next.places + places (expansion g).alternatives
          ≡ all_places expansion (take (suc Next.taken) Next.goals)
      places_next =
          ap (λ n. n + places (expansion g).alternatives)
          ((all_more s (named (expansion g).alternatives)).places ∙ h.places)
          ∙ sym (places_last (take s.taken s.goals) g)
          ∙ sym (ap (all_places expansion) taken_next)

      -- a goal that has too many places isn't taken
      never_heavy : s.places + places (expansion g).alternatives ≤ most_total → s.over ≡ Some Total → ⊥
      never_heavy l o =
          let k = h.total o in
          let same : k.goal ≡ g = same_Some k.goal g (sym k.at ∙ at) in
          let many = subst (λ x. most_total < s.places + places (expansion x).alternatives) same k.many in
          omega (arith, l, many)

    stepped : (s : Found) → IsRight s → IsRight (step most most_total expansion s)
    stepped s h = go (slice_get s.goals s.taken) refl where
      go : (o : Option (List Signed)) → slice_get s.goals s.taken ≡ o
          → IsRight (take_goal most most_total expansion s o)
      go None at = h
      go (Some g) at = by (nat_lt most_total (s.places + places (expansion g).alternatives)) refl where
        by : (b : Bool) → nat_lt most_total (s.places + places (expansion g).alternatives) ≡ b
            → IsRight (cond b (found s.goals s.taken s.places (first_limit s.over Total))
            (let t = mention_goals most s (named (expansion g).alternatives) in
            found t.goals (suc t.taken) (t.places + places (expansion g).alternatives) t.over))
        by true q = record {
          places = h.places;
          goals = λ o. h.goals (not_total s.over o);
          total = λ o. record { goal = g; at = at; many = ltb-true most_total _ q };
        }
        by false q = record {
          places = places_next s g at h;
          goals = λ o. names_next s g at h (some_past s (named (expansion g).alternatives) o);
          total = λ o. absurd (never_heavy s g at h (ltb-false most_total _ q)
              ((all_more s (named (expansion g).alternatives)).total o));
        }

    right_after : (n : ℕ) (s : Found) → IsRight s → IsRight (after most most_total expansion n s)
    right_after zero s h = h
    right_after (suc n) s h = stepped (after most most_total expansion n s) (right_after n s h)

    right_at_end : (root : List Signed) → IsRight (explored most most_total expansion root)
    unfolding explored
    right_at_end root =
        right_after most (found (root ∷ []) 0 0 None)
        (record { places = refl; goals = λ o. cc; total = λ o. cc })

    kept : (root : List Signed) → IsKept most most_total expansion (λ g. true)
        (λ g. every_from (λ g. true) (named (expansion g).alternatives) (λ x i. refl))
        (explored most most_total expansion root)
    kept root =
        explored_kept most most_total expansion (λ g. true)
        (λ g. every_from (λ g. true) (named (expansion g).alternatives) (λ x i. refl)) root refl

    -- the limit that an exploration passed is passed by its count
    pub all_counted : (root : List Signed) (k : LimitKind)
        → (explored most most_total expansion root).over ≡ Some k → (k ≡ Goals) ⊎ (k ≡ Total)
        → PassesAll expansion most most_total (explored most most_total expansion root) k
    all_counted root k e (inl q) =
        let f = explored most most_total expansion root in
        let n = (right_at_end root).goals (e ∙ ap Some q) in
        subst (PassesAll expansion most most_total f) (sym q) (record {
          many = n.full;
          differ = (kept root).differ;
          goal = n.goal;
          was_taken = n.was_taken;
          further = n.further;
          is_named = n.is_named;
          is_new = n.is_new;
        })
    all_counted root k e (inr q) =
        let f = explored most most_total expansion root in
        let h = right_at_end root in
        let n = h.total (e ∙ ap Some q) in
        let next = ap (take (suc f.taken)) (sym (append-nil f.goals)) ∙ take_next f.taken f.goals [] n.goal n.at in
        let count = ap (all_places expansion) next ∙ places_last (take f.taken f.goals) n.goal in
        subst (PassesAll expansion most most_total f) (sym q) (omega (arith, n.many, h.places, count))
