-- What answers say: the least round and the first alternative that the round before meets; and from the last round that
-- adds a goal on they stay.
use Rattle.std.proofs.Common.{◌≡◌, ℕ, zero, suc, ◌+◌, ◌-◌, ◌≤◌, ◌<◌, ◌⊎◌, inl, inr, List, length, Bool, true, false, ◌&&◌, not, cond, Option, Some, None, is_some, refl, ap, sym, ◌∙◌, subst, arith, zero-add, suc-add, true≢false}
use Rattle.std.proofs.lemmas.Bool.{cases_lt, false_from_ne_true}
use Rattle.documents.specs.Tests.{some}
use Rattle.goals.specs.Signed.{Signed}
use Rattle.list_laws.proofs.Tests.{some_find, none_at, in_range, from_range}
use Rattle.alternatives.specs.Expansion.{Expansion}
use Rattle.search.specs.Explored.{Found}
use Rattle.search.specs.Rounds.{is_met, first_place, told, alternatives_of, round, answer}
use Rattle.search.specs.Uses.{numbers, satisfied, is_added, last_within, last_round}
use Rattle.search_laws.proofs.Rise.{answer_round}
use Rattle.search_laws.proofs.Settled.{settled, past, rise_to}
use Rattle.std.proofs.lemmas.Option.{same_Some}

module _ (expansion : List Signed → Expansion) (f : Found) where
  abbrev Round : ℕ → ℕ → Bool
  Round r n = round expansion f r n

  abbrev Answer : ℕ → ℕ → Option (ℕ × ℕ)
  Answer r n = answer expansion f r n

  -- the first alternative of a goal that a round meets
  abbrev First : ℕ → ℕ → Option ℕ
  First r n = first_place (is_met (round expansion f r)) (alternatives_of expansion f n)

  first_same : (r n : ℕ)
      → first_place (is_met (λ m. is_some (answer expansion f r m))) (alternatives_of expansion f n) ≡ First r n
  first_same r n = ap (λ p. first_place (is_met p) (alternatives_of expansion f n)) (λ i m. answer_round expansion
      f r m i)

  -- a goal enters in round q + 1, by the first alternative that round q meets
  pub record Enters (n q i : ℕ) : Type 0 where
    pub has : Round (suc q) n ≡ true
    pub before : Round q n ≡ false
    pub first : First q n ≡ Some i

  pub record Least (r n k i : ℕ) : Type 0 where
    pub q : ℕ
    pub is : k ≡ suc q
    pub within : k ≤ r
    pub enters : Enters n q i

  -- what an answer says
  pub answer_least : (r n k i : ℕ) → Answer r n ≡ Some (k, i) → Least r n k i
  answer_least zero n k i e = cc
  answer_least (suc r) n k i e =
      go (Answer r n) (First r n) (answer_least r n k i) refl refl
      (sym (ap (told r (Answer r n)) (first_same r n)) ∙ e) where
        go : (a : Option (ℕ × ℕ)) (o : Option ℕ) → (Answer r n ≡ Some (k, i) → Least r n k i) → Answer r n ≡ a
            → First r n ≡ o → told r a o ≡ Some (k, i) → Least (suc r) n k i
        go (Some a) o less h p e =
            let l = less (h ∙ e) in record { q = l.q; is = l.is; within = omega (arith, l.within); enters = l.enters }
        go None None less h p e = cc
        go None (Some j) less h p e =
            let s : suc r ≡ k = ap (λ x. x.0) (same_Some _ _ e) in
            let t : j ≡ i = ap (λ x. x.1) (same_Some _ _ e) in
            let b : Round r n ≡ false = sym (answer_round expansion f r n) ∙ ap is_some h in
            let new : Answer (suc r) n ≡ Some (suc r, j) =
            ap (told r (Answer r n)) (first_same r n) ∙ ap (λ z. told r z (First r n)) h ∙ ap (told r None) p in
            let has : Round (suc r) n ≡ true = sym (answer_round expansion f (suc r) n) ∙ ap is_some new in
            record {
              q = r;
              is = sym s;
              within = omega (arith, s);
              enters = record { has = has; before = b; first = p ∙ ap Some t };
            }

  -- an answer is kept
  pub answer_kept : (k r n : ℕ) (a : ℕ × ℕ) → Answer r n ≡ Some a → Answer (k + r) n ≡ Some a
  answer_kept zero r n a e = ap (λ z. Answer z n) (zero-add r) ∙ e
  answer_kept (suc k) r n a e =
      ap (λ z. Answer z n) (suc-add k r) ∙ keep (Answer (k + r) n) (answer_kept k r n a e) where
        keep : (o : Option (ℕ × ℕ)) → o ≡ Some a
            → told (k + r) o (first_place (is_met (λ m. is_some (answer expansion f (k + r) m)))
            (alternatives_of expansion f n)) ≡ Some a
        keep None e = cc
        keep (Some b) e = e

  pub answer_on : (r m n : ℕ) (a : ℕ × ℕ) → r ≤ m → Answer r n ≡ Some a → Answer m n ≡ Some a
  answer_on r m n a l e = ap (λ z. Answer z n) plus ∙ answer_kept (m - r) r n a e where
    plus : m ≡ m - r + r
    plus = omega (arith, l)

  is_none : {A : Type 0} (o : Option A) → is_some o ≡ false → o ≡ None
  is_none None e = refl
  is_none (Some a) e = cc

  pub answer_none : (r n : ℕ) → Round r n ≡ false → Answer r n ≡ None
  answer_none r n e = is_none (Answer r n) (answer_round expansion f r n ∙ e)

  -- rounds do not lose goals
  pub before_too : (q r n : ℕ) → q ≤ r → Round r n ≡ false → Round q n ≡ false
  before_too q r n l e = false_from_ne_true (Round q n) (λ h. true≢false (sym (rise_to expansion f q r n l h) ∙ e))

  -- nothing is added: answers stay
  pub same_answer : (r m n : ℕ) → r ≤ m → (Round m n ≡ true → Round r n ≡ true) → Answer m n ≡ Answer r n
  same_answer r m n l h = go (Answer r n) refl where
    go : (o : Option (ℕ × ℕ)) → Answer r n ≡ o → Answer m n ≡ o
    go (Some a) e = answer_on r m n a l e
    go None e =
        let b : Round r n ≡ false = sym (answer_round expansion f r n) ∙ ap is_some e in
        answer_none m n (false_from_ne_true (Round m n) (λ x. true≢false (sym (h x) ∙ b)))

  -- past the goals no round has anything
  pub added_low : (r n : ℕ) → Round r n ≡ true → n < length f.goals
  added_low r n e = go (cases_lt n (length f.goals)) where
    go : (n < length f.goals) ⊎ (length f.goals ≤ n) → n < length f.goals
    go (inl l) = l
    go (inr l) = absurd (true≢false (sym e ∙ past expansion f r n l))

  pub none_added : (r n : ℕ) → some (is_added expansion f r) (numbers expansion f) ≡ false
      → Round (suc r) n ≡ true → Round r n ≡ true
  none_added r n e h = go (Round (suc r) n) (Round r n) h
      (none_at (is_added expansion f r) n (numbers expansion f) e
      (in_range (length f.goals) n (added_low (suc r) n h))) where
        go : (a b : Bool) → a ≡ true → (a && not b) ≡ false → b ≡ true
        go true true x y = refl
        go true false x y = cc
        go false b x y = cc

  pub last_least : (r : ℕ) → last_within expansion f r ≤ r
  last_least zero = omega arith
  last_least (suc r) = by (some (is_added expansion f r) (numbers expansion f)) (last_least r) where
    by : (b : Bool) → last_within expansion f r ≤ r → cond b (suc r) (last_within expansion f r) ≤ suc r
    by true l = omega arith
    by false l = omega (arith, l)

  -- from the last round on, as far as one looked
  last_kept : (r k n : ℕ) → last_within expansion f r ≤ k → k ≤ r
      → Answer k n ≡ Answer (last_within expansion f r) n
  last_kept zero k n l m = ap (λ z. Answer z n) (zero_is k m) where
    zero_is : (k : ℕ) → k ≤ 0 → k ≡ 0
    zero_is k m = omega (arith, m)
  last_kept (suc r) k n l m =
      go (some (is_added expansion f r) (numbers expansion f)) refl (λ j. last_kept r j n) l (cases_lt k (suc r)) where
        go : (b : Bool) → some (is_added expansion f r) (numbers expansion f) ≡ b
            → ((j : ℕ) → last_within expansion f r ≤ j → j ≤ r → Answer j n ≡ Answer (last_within expansion f r) n)
            → cond b (suc r) (last_within expansion f r) ≤ k → (k < suc r) ⊎ (suc r ≤ k)
            → Answer k n ≡ Answer (cond b (suc r) (last_within expansion f r)) n
        go true e more l o = ap (λ z. Answer z n) same where
          same : k ≡ suc r
          same = omega (arith, l, m)
        go false e more l (inl x) = more k l (omega (arith, x))
        go false e more l (inr x) =
            ap (λ z. Answer z n) same
            ∙ same_answer r (suc r) n (omega arith) (none_added r n e)
            ∙ more r (last_least r) (omega arith)
          where
            same : k ≡ suc r
            same = omega (arith, x, m)

  -- as many rounds as there are goals suffice
  pub satisfied_from : (r n : ℕ) → length f.goals ≤ r → Answer r n ≡ satisfied expansion f n
  satisfied_from r n l = same_answer (length f.goals) r n l (settled expansion f r n)

  -- no round after the last one that adds a goal changes an answer
  pub last_answer : (r n : ℕ) → last_round expansion f ≤ r → Answer r n ≡ Answer (last_round expansion f) n
  last_answer r n l = go (cases_lt r (length f.goals)) where
    go : (r < length f.goals) ⊎ (length f.goals ≤ r) → Answer r n ≡ Answer (last_round expansion f) n
    go (inl x) = last_kept (length f.goals) r n l (omega (arith, x))
    go (inr x) =
        satisfied_from r n x
        ∙ last_kept (length f.goals) (length f.goals) n (last_least (length f.goals)) (omega arith)

  -- the last round that is counted adds a goal, where it isn't 0
  pub last_adds : (r q : ℕ) → last_within expansion f r ≡ suc q
      → (n : ℕ) × (n < length f.goals) × (is_added expansion f q n ≡ true)
  last_adds zero q e = absurd (omega (arith, e))
  last_adds (suc r) q e = go (some (is_added expansion f r) (numbers expansion f)) refl (last_adds r q) e where
    go : (b : Bool) → some (is_added expansion f r) (numbers expansion f) ≡ b
        → (last_within expansion f r ≡ suc q → (n : ℕ) × (n < length f.goals) × (is_added expansion f q n ≡ true))
        → cond b (suc r) (last_within expansion f r) ≡ suc q
        → (n : ℕ) × (n < length f.goals) × (is_added expansion f q n ≡ true)
    go true h more e =
        let same : r ≡ q = omega (arith, e) in
        let (n, i, a) = some_find (is_added expansion f r) (numbers expansion f) h in
        (n, from_range (length f.goals) n i, subst (λ z. is_added expansion f z n ≡ true) same a)
    go false h more e = more e

  -- exactly the goals of some round have an answer
  pub satisfied_has : (r n : ℕ) → Round r n ≡ true → is_some (satisfied expansion f n) ≡ true
  satisfied_has r n e = answer_round expansion f (length f.goals) n ∙ settled expansion f r n e
