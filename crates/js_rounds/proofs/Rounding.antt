-- Round after round, until one adds no goal.
use Rattle.std.proofs.Common.{◌≡◌, ℕ, zero, suc, ◌+◌, ◌-◌, ◌≤◌, ◌<◌, ◌⊎◌, inl, inr, List, [], ◌∷◌, ◌++◌, filter, length, take, drop, get_or, Bool, true, false, not, ◌&&◌, ◌||◌, cond, nat_lt, Option, Some, None, option_map, is_some, refl, ap, ap₂, sym, ◌∙◌, arith, length-append}
use Rattle.std.proofs.lemmas.Bool.{and_parts, cases_lt, lt-ltb, false_from_ne_true}
use Rattle.std.proofs.lemmas.List.{append-nil}
use Rattle.std.proofs.lemmas.List.Sorted.{length_permutation}
use Rattle.documents.specs.Tests.{some}
use Rattle.goals.specs.Signed.{Signed}
use Rattle.alternatives.specs.Expansion.{Expansion}
use Rattle.search.specs.Explored.{Found}
use Rattle.list_laws.specs.In.{IsIn}
use Rattle.list_laws.proofs.Tests.{none_from}
use Rattle.search.specs.Rounds.{is_met, first_place, told, alternatives_of, round, answer}
use Rattle.search.specs.Uses.{numbers, satisfied, is_added, last_within, in_order}
use Rattle.search_laws.proofs.Answers.{Enters, Least, answer_least, added_low}
use Rattle.search_laws.proofs.Settled.{settled}
use Rattle.search_laws.proofs.Rise.{answer_round}
use Rattle.search_laws.proofs.Used.{order_has, has_order}
use Rattle.search_laws.proofs.Quiet.{answer_same, last_same, order_same}
use Rattle.js_rounds.specs.State.{IsRoomy, IsAt, AreRounds, IsLeast, times}
use Rattle.js_rounds.specs.Sorted.{IsSorted}
use Rattle.js_rounds.specs.Waking.{Waking, AreSame}
use Rattle.js_rounds.specs.declared.rounds.Rounds.{Rounds}
use Rattle.js_rounds.proofs.Answered.{answered_most, length_take, times-append, in_times, times_in, distinct_times, times-permutation}
use Rattle.js_rounds.proofs.Rising.{sorted_is}
use Rattle.list_laws.proofs.Options.{is_some-suc}

place_some : {A : Type 0} (p : A → Bool) (xs : List A) → is_some (first_place p xs) ≡ some p xs
place_some p [] = refl
place_some p (x ∷ xs) = go (p x) (is_some-suc (first_place p xs) ∙ place_some p xs) where
  go : (b : Bool) → is_some (option_map suc (first_place p xs)) ≡ some p xs
      → is_some (cond b (Some 0) (option_map suc (first_place p xs))) ≡ (b || some p xs)
  go true e = refl
  go false e = e

some_filter : {A : Type 0} (p : A → Bool) (xs : List A) → some p xs ≡ nat_lt 0 (length (filter p xs))
some_filter p [] = refl
some_filter p (x ∷ xs) = go (p x) (some_filter p xs) where
  go : (b : Bool) → some p xs ≡ nat_lt 0 (length (filter p xs))
      → (b || some p xs) ≡ nat_lt 0 (length (cond b (x ∷ filter p xs) (filter p xs)))
  go true e = sym (lt-ltb 0 (suc (length (filter p xs))) (omega arith))
  go false e = e

module _ (expansion : List Signed → Expansion) (f : Found) where
  -- the rounds up to k, and the last of them that added a goal
  pub record HasRun (k : ℕ) (r : Rounds) : Type 0 where
    pub at : IsAt expansion f k r
    pub last : r.last ≡ last_within expansion f k

  module _ (r from : ℕ) (first : ℕ → Option ℕ) (s t : Rounds) (roomy : IsRoomy (length f.goals) s)
      (waking : Waking expansion f r first s)
      (firsts : (g : ℕ) → first g ≡ first_place (is_met (round expansion f r)) (alternatives_of expansion f g))
      (low : from ≤ s.count) (order : take from s.order.items ≡ in_order expansion f r) (same : AreSame s t)
      (sorted : IsSorted from s.count s.order.items t.order.items)
    where
      known_is : (g : ℕ) → get_or s.known.items g None ≡ answer expansion f (suc r) g
      known_is g =
          waking.known g
          ∙ ap (told r (answer expansion f r g))
          (firsts g ∙ sym (ap (λ p. first_place (is_met p) (alternatives_of expansion f g))
          (λ i m. answer_round expansion f r m i)))

      has_answer : (g : ℕ) → is_some (get_or s.known.items g None) ≡ round expansion f (suc r) g
      has_answer g = ap is_some (known_is g) ∙ answer_round expansion f (suc r) g

      all_noted : (g : ℕ) → times g (in_order expansion f r) + times g waking.woken
          ≡ cond (round expansion f (suc r) g) 1 0
      all_noted g =
          sym (times-append g (in_order expansion f r) waking.woken) ∙ ap (times g) (sym waking.order)
          ∙ roomy.noted g ∙ ap (λ b. cond b 1 0) (has_answer g)

      few : s.count ≤ length s.order.items
      few = let l = answered_most s.known.items in omega (arith, l, roomy.known, roomy.order, roomy.count)

      -- those from the place on
      behind : drop from (take s.count s.order.items) ≡ waking.woken
      behind =
          ap (drop from) waking.order
          ∙ drop_front (in_order expansion f r) waking.woken from
          (sym (length_take from s.order.items (omega (arith, low, few))) ∙ ap length order)
        where
          drop_front : (xs ys : List ℕ) (n : ℕ) → n ≡ length xs → drop n (xs ++ ys) ≡ ys
          drop_front xs ys n e = ap (λ k. drop k (xs ++ ys)) e ∙ go xs where
            go : (xs : List ℕ) → drop (length xs) (xs ++ ys) ≡ ys
            go [] = refl
            go (x ∷ xs) = go xs

      part_times : (g : ℕ) → times g sorted.part ≡ times g waking.woken
      part_times g =
          times-permutation g (drop from (take s.count s.order.items)) sorted.part sorted.moved ∙ ap (times g) behind

      at_most : (b : Bool) → cond {A = ℕ} b 1 0 ≤ 1
      at_most true = omega arith
      at_most false = omega arith

      is_one : (b : Bool) → 0 < cond {A = ℕ} b 1 0 → b ≡ true
      is_one true l = refl
      is_one false l = absurd (omega (arith, l))

      from_part : (g : ℕ) → IsIn g sorted.part → (is_added expansion f r g ≡ true) × (g < length f.goals)
      from_part g i =
          let l = in_times g sorted.part i in
          let p = part_times g in
          let a = all_noted g in
          let now = is_one (round expansion f (suc r) g) (omega (arith, l, p, a)) in
          let one = ap (λ b. cond {A = ℕ} b 1 0) now in
          let before = false_from_ne_true (round expansion f r g)
          (λ t. let k = in_times g (in_order expansion f r) (order_has expansion f r g t) in
          omega (arith, k, l, p, a, one)) in
          (ap₂ (λ x y. x && not y) now before, added_low expansion f (suc r) g now)

      to_part : (g : ℕ) → is_added expansion f r g ≡ true → g < length f.goals → IsIn g sorted.part
      to_part g t k =
          let (now, before) = and_parts (round expansion f (suc r) g) (not (round expansion f r g)) t in
          let one = ap (λ b. cond {A = ℕ} b 1 0) now in
          let p = part_times g in
          let a = all_noted g in
          go (cases_lt 0 (times g (in_order expansion f r)))
        where
          differ : (b : Bool) → not b ≡ true → b ≡ true → ⊥
          differ true e h = cc
          differ false e h = cc

          go : (0 < times g (in_order expansion f r)) ⊎ (times g (in_order expansion f r) ≤ 0) → IsIn g sorted.part
          go (inl l) =
              let (now, before) = and_parts (round expansion f (suc r) g) (not (round expansion f r g)) t in
              absurd (differ (round expansion f r g) before
              (has_order expansion f r g (times_in g (in_order expansion f r) l)))
          go (inr l) =
              let (now, before) = and_parts (round expansion f (suc r) g) (not (round expansion f r g)) t in
              let one = ap (λ b. cond {A = ℕ} b 1 0) now in
              let p = part_times g in
              let a = all_noted g in
              times_in g sorted.part (omega (arith, l, p, a, one))

      part_is : sorted.part ≡ filter (is_added expansion f r) (numbers expansion f)
      part_is =
          sorted_is (length f.goals) (is_added expansion f r) sorted.part sorted.rises
          (distinct_times sorted.part (λ g.
          let p = part_times g in
          let a = all_noted g in
          let m = at_most (round expansion f (suc r) g) in
          omega (arith, p, a, m))) from_part to_part

      length_part : nat_lt 0 (length waking.woken) ≡ some (is_added expansion f r) (numbers expansion f)
      length_part =
          ap (nat_lt 0) (ap length (sym behind) ∙ sym (length_permutation (drop from (take s.count s.order.items))
          sorted.part sorted.moved) ∙ ap length part_is)
          ∙ sym (some_filter (is_added expansion f r) (numbers expansion f))

      -- what is ready is what the round meets, and the goals are in order: the next round was run
      pub ended : HasRun (suc r) t
      ended = record {
        at = record {
          known = λ g. ap (λ v. get_or v.items g None) same.known ∙ known_is g;
          order = ap (λ k. take k t.order.items) same.count ∙ sorted.whole ∙ ap₂ (λ a b. a ++ b) order part_is;
        };
        last = same.last ∙ waking.last
            ∙ ap (λ b. cond b (suc r) (last_within expansion f r)) length_part;
      }

  -- the next round begins
  pub started : (q : ℕ) (first : ℕ → Option ℕ) (t : Rounds) → HasRun (suc q) t
      → ((g : ℕ) → first g ≡ first_place (is_met (round expansion f q)) (alternatives_of expansion f g))
      → Waking expansion f (suc q) first t
  started q first t h firsts = record {
    known = λ g. h.at.known g ∙ sym (ap (told (suc q) (answer expansion f (suc q) g)) (firsts g) ∙ kept g);
    woken = [];
    order = h.at.order ∙ sym (append-nil (in_order expansion f (suc q)));
    last = h.last;
  } where
    kept : (g : ℕ) → told (suc q) (answer expansion f (suc q) g)
        (first_place (is_met (round expansion f q)) (alternatives_of expansion f g)) ≡ answer expansion f (suc q) g
    kept g =
        go (answer expansion f (suc q) g) (first_place (is_met (round expansion f q)) (alternatives_of expansion f g))
        (place_some (is_met (round expansion f q)) (alternatives_of expansion f g)
        ∙ sym (answer_round expansion f (suc q) g))
      where
        go : (a : Option (ℕ × ℕ)) (o : Option ℕ) → is_some o ≡ is_some a → told (suc q) a o ≡ a
        go (Some a) o e = refl
        go None None e = refl
        go None (Some i) e = cc

  -- all rounds
  none_new : some (is_added expansion f (length f.goals)) (numbers expansion f) ≡ false
  none_new = none_from (is_added expansion f (length f.goals)) (numbers expansion f) (λ n i.
      go (round expansion f (suc (length f.goals)) n) (round expansion f (length f.goals) n)
      (settled expansion f (suc (length f.goals)) n)) where
        go : (a b : Bool) → (a ≡ true → b ≡ true) → (a && not b) ≡ false
        go true true h = refl
        go true false h = cc (h refl)
        go false b h = refl

  -- from a round on that adds no goal all rounds are the same
  settled_from : (q k : ℕ) (t : Rounds) → q ≤ length f.goals → q ≤ k
      → some (is_added expansion f q) (numbers expansion f) ≡ false → HasRun k t → AreRounds expansion f t
  settled_from q k t l m quiet h = record {
    answers = λ g. h.at.known g ∙ answer_same expansion f q quiet k g m
        ∙ sym (answer_same expansion f q quiet (length f.goals) g l);
    order = h.at.order ∙ from (in_order expansion f) (order_same expansion f q quiet) k m
        ∙ sym (from (in_order expansion f) (order_same expansion f q quiet) (length f.goals) l);
    last = h.last ∙ from (last_within expansion f) (last_same expansion f q quiet) k m
        ∙ sym (from (last_within expansion f) (last_same expansion f q quiet) (length f.goals) l);
  } where
    from : {A : Type 0} (p : ℕ → A) → ((n : ℕ) → p (n + q) ≡ p q) → (n : ℕ) → q ≤ n → p n ≡ p q
    from p same n l = ap p (plus n l) ∙ same (n - q) where
      plus : (n : ℕ) → q ≤ n → n ≡ n - q + q
      plus n l = omega (arith, l)

  pub run_out : (k : ℕ) (t : Rounds) → length f.goals ≤ k → HasRun k t → AreRounds expansion f t
  run_out k t l h = settled_from (length f.goals) k t (omega arith) l none_new h

  pub run_down : (q : ℕ) (t : Rounds) → q < length f.goals → in_order expansion f (suc q) ≡ in_order expansion f q
      → HasRun (suc q) t → AreRounds expansion f t
  run_down q t l e h =
      settled_from q (suc q) t (omega (arith, l)) (omega arith)
      (some_filter (is_added expansion f q) (numbers expansion f) ∙ ap (nat_lt 0) none) h
    where
      none : length (filter (is_added expansion f q) (numbers expansion f)) ≡ 0
      none =
          let a = length-append (in_order expansion f q) (filter (is_added expansion f q) (numbers expansion f)) in
          let b = ap length e in
          omega (arith, a, b)

  -- what the answers say
  pub satisfied_least : (g : ℕ) → IsLeast expansion f g (satisfied expansion f g)
  satisfied_least g = go (satisfied expansion f g) refl where
    not_true : (b c : Bool) → (b ≡ true → c ≡ true) → c ≡ false → b ≡ false
    not_true true c h e = sym (h refl) ∙ e
    not_true false c h e = refl

    go : (o : Option (ℕ × ℕ)) → satisfied expansion f g ≡ o → IsLeast expansion f g o
    go None e = λ k. not_true (round expansion f k g) (round expansion f (length f.goals) g) (settled expansion f k g)
        (sym (answer_round expansion f (length f.goals) g) ∙ ap is_some e)
    go (Some a) e =
        let l : Least expansion f (length f.goals) g a.0 a.1 = answer_least expansion f (length f.goals) g a.0 a.1 e in
        let x : Enters expansion f g l.q a.1 = l.enters in
        (l.q, l.is, x.has, x.before, x.first)
