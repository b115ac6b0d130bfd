-- Which limits stop an exploration, and what its goals are: different, and no more than there is room for.
use Rattle.std.proofs.Common.{◌≡◌, ℕ, zero, suc, ◌+◌, ◌≤◌, ◌⊎◌, inl, inr, ⊎_elim, Bool, true, false, cond, nat_lt, List, [], ◌∷◌, ◌++◌, length, Option, Some, None, option_map, is_some, slice_get, refl, ap, sym, subst, arith, length-append}
use Rattle.std.proofs.lemmas.Bool.{and_parts, and_from, ltb-false}
use Rattle.documents.specs.Tests.{every}
use Rattle.goals.specs.Signed.{Signed}
use Rattle.list_laws.specs.In.{IsIn, Distinct}
use Rattle.list_laws.proofs.Lists.{every_at, every_from, from_append}
use Rattle.cell_laws.proofs.Lists.{distinct_append}
use Rattle.alternatives.specs.Alternative.{named, places}
use Rattle.alternatives.specs.Limit.{LimitKind, Goals, Total}
use Rattle.alternatives.specs.Expansion.{Expansion, first_limit}
use Rattle.search.specs.Explored.{Found, found, same_goal, number_in, is_listed, mention, mention_goals, take_goal, step, after, explored}
use Rattle.search_laws.proofs.Numbers.{same_goal_itself}
use Rattle.std.proofs.lemmas.Option.{same_Some}

pub in_listed : (gs : List (List Signed)) (g : List Signed) → IsIn g gs → is_listed gs g ≡ true
in_listed [] g i = absurd i
in_listed (h ∷ gs) g (inl e) =
    ap (λ b. is_some (cond b (Some 0) (option_map suc (number_in gs g))))
    (subst (λ z. same_goal g z ≡ true) e (same_goal_itself g))
in_listed (h ∷ gs) g (inr i) = go (same_goal g h) (number_in gs g) (in_listed gs g i) where
  go : (b : Bool) (o : Option ℕ) → is_some o ≡ true → is_some (cond b (Some 0) (option_map suc o)) ≡ true
  go true o e = refl
  go false (Some n) e = refl
  go false None e = cc

pub not_total : (o : Option LimitKind) → first_limit o Total ≡ Some Goals → o ≡ Some Goals
not_total None e = cc
not_total (Some j) e = e

module _ (most most_total : ℕ) (expansion : List Signed → Expansion) (good : List Signed → Bool)
    (all_named : (g : List Signed) → every good (named (expansion g).alternatives) ≡ true) where
  pub record IsKept (s : Found) : Type 0 where
    pub limits : (k : LimitKind) → s.over ≡ Some k → (k ≡ Goals) ⊎ (k ≡ Total)
    -- the limit on goals is passed where there are as many as may be
    pub full : s.over ≡ Some Goals → most ≤ length s.goals
    pub differ : Distinct s.goals
    pub are_good : every good s.goals ≡ true

  -- one more limit, which is `Goals` or `Total`

  with_goals : (o : Option LimitKind) → ((k : LimitKind) → o ≡ Some k → (k ≡ Goals) ⊎ (k ≡ Total))
      → (k : LimitKind) → first_limit o Goals ≡ Some k → (k ≡ Goals) ⊎ (k ≡ Total)
  with_goals None h k e = inl (sym (same_Some Goals k e))
  with_goals (Some j) h k e = h k e

  with_total : (o : Option LimitKind) → ((k : LimitKind) → o ≡ Some k → (k ≡ Goals) ⊎ (k ≡ Total))
      → (k : LimitKind) → first_limit o Total ≡ Some k → (k ≡ Goals) ⊎ (k ≡ Total)
  with_total None h k e = inr (sym (same_Some Total k e))
  with_total (Some j) h k e = h k e

  mentioned : (s : Found) (g : List Signed) → good g ≡ true → IsKept s → IsKept (mention most s g)
  mentioned s g good_g h = go (is_listed s.goals g) (nat_lt (length s.goals) most) refl refl where
    fresh : is_listed s.goals g ≡ false → (x : List Signed) → IsIn x s.goals → IsIn x (g ∷ []) → ⊥
    fresh e x i (inl q) = both (in_listed s.goals g (subst (λ z. IsIn z s.goals) q i)) e where
      both : is_listed s.goals g ≡ true → is_listed s.goals g ≡ false → ⊥
      both a b = cc
    fresh e x i (inr j) = absurd j

    go : (a b : Bool) → is_listed s.goals g ≡ a → nat_lt (length s.goals) most ≡ b
        → IsKept (cond a s
        (cond b (found (s.goals ++ g ∷ []) s.taken s.places s.over)
        (found s.goals s.taken s.places (first_limit s.over Goals))))
    go true b e f = h
    go false true e f = record {
      limits = h.limits;
      full = λ o. omega (arith, h.full o, length-append s.goals (g ∷ []));
      differ = distinct_append s.goals (g ∷ []) h.differ ((λ i. i), tt) (fresh e);
      are_good = every_from good (s.goals ++ g ∷ []) (λ x i. ⊎_elim (λ j. every_at good x s.goals h.are_good j)
          (λ j. ⊎_elim (λ q. subst (λ z. good z ≡ true) (sym q) good_g) (λ z. absurd z) j)
          (from_append x s.goals (g ∷ []) i));
    }
    go false false e f = record {
      limits = with_goals s.over h.limits;
      full = λ o. ltb-false (length s.goals) most f;
      differ = h.differ;
      are_good = h.are_good;
    }

  all_mentioned : (s : Found) (xs : List (List Signed)) → every good xs ≡ true → IsKept s
      → IsKept (mention_goals most s xs)
  all_mentioned s [] e h = h
  all_mentioned s (x ∷ xs) e h =
      let (a, b) = and_parts (good x) (every good xs) e in
      all_mentioned (mention most s x) xs b (mentioned s x a h)

  stepped : (s : Found) → IsKept s → IsKept (step most most_total expansion s)
  stepped s h = go (slice_get s.goals s.taken) where
    go : (o : Option (List Signed)) → IsKept (take_goal most most_total expansion s o)
    go None = h
    go (Some g) = by (nat_lt most_total (s.places + places (expansion g).alternatives)) where
      by : (b : Bool)
          → IsKept (cond b (found s.goals s.taken s.places (first_limit s.over Total))
          (let t = mention_goals most s (named (expansion g).alternatives) in
          found t.goals (suc t.taken) (t.places + places (expansion g).alternatives) t.over))
      by true = record {
        limits = with_total s.over h.limits;
        full = λ o. h.full (not_total s.over o);
        differ = h.differ;
        are_good = h.are_good;
      }
      by false =
          let k = all_mentioned s (named (expansion g).alternatives) (all_named g) h in
          record { limits = k.limits; full = k.full; differ = k.differ; are_good = k.are_good }

  kept_after : (n : ℕ) (s : Found) → IsKept s → IsKept (after most most_total expansion n s)
  kept_after zero s h = h
  kept_after (suc n) s h = stepped (after most most_total expansion n s) (kept_after n s h)

  -- the goals that are explored are different and good, and only the limits on goals or on places stop them
  pub explored_kept : (root : List Signed) → good root ≡ true → IsKept (explored most most_total expansion root)
  unfolding explored
  explored_kept root e = kept_after most (found (root ∷ []) 0 0 None) (record {
    limits = λ k o. cc;
    full = λ o. cc;
    differ = ((λ i. i), tt);
    are_good = and_from (good root) true e refl;
  })
