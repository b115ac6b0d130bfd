-- What holds after each answer, and that the answers are then those of an expansion of each goal.
use Rattle.std.proofs.Common.{◌≡◌, ℕ, zero, suc, ◌+◌, ◌≤◌, ◌<◌, ◌⊎◌, inl, inr, List, [], ◌∷◌, ◌++◌, length, Bool, true, false, cond, nat_lt, Option, Some, None, slice_get, refl, ap, sym, ◌∙◌, subst, arith, length-append}
use Rattle.std.proofs.lemmas.Bool.{and_parts, and_from, ltb-true, ltb-false}
use Rattle.std.proofs.lemmas.Option.{slice_get_past, slice_get_within, same_Some}
use Rattle.documents.specs.Tests.{every}
use Rattle.goals.specs.Signed.{Signed}
use Rattle.alternatives.specs.Alternative.{named, places}
use Rattle.alternatives.specs.Limit.{Total}
use Rattle.alternatives.specs.Expansion.{Expansion, first_limit}
use Rattle.search.specs.Explored.{Found, found, mention, mention_goals}
use Rattle.search.specs.Rounds.{alternatives_at, hole_at}
use Rattle.js_explore.specs.Exploration.{Exploration, Explores, GoesOn, exploration, answer_to, alternatives_in, hole_in, is_settled, with_answer}
use Rattle.js_explore.proofs.Settled.{keeps_all, settles_all, every_settled, numbered_kept}
use Rattle.list_laws.proofs.Numbers.{below_suc}
use Rattle.list_laws.proofs.Lists.{slice_get-append}
use Rattle.list_laws.proofs.Every.{every_joined}
use Rattle.search_laws.proofs.Whole.{mention_cases, taken_kept}

get_last : {A : Type 0} (xs : List A) (x : A) (i : ℕ) → i ≡ length xs → slice_get (xs ++ x ∷ []) i ≡ Some x
get_last [] x zero e = refl
get_last [] x (suc i) e = absurd (omega (arith, e))
get_last (y ∷ xs) x zero e = absurd (omega (arith, e))
get_last (y ∷ xs) x (suc i) e = get_last xs x i (omega (arith, e))

module _ (most : ℕ) where
  pub places_kept : (s : Found) (xs : List (List Signed)) → (mention_goals most s xs).places ≡ s.places
  places_kept s [] = refl
  places_kept s (x ∷ xs) =
      places_kept (mention most s x) xs ∙ mention_cases most (λ t. t.places ≡ s.places) s x refl refl refl

  every_kept : (p : List Signed → Bool) (s : Found) (xs : List (List Signed)) → every p s.goals ≡ true
      → every p xs ≡ true → every p (mention_goals most s xs).goals ≡ true
  every_kept p s [] e f = e
  every_kept p s (x ∷ xs) e f =
      let (a, b) = and_parts (p x) (every p xs) f in
      every_kept p (mention most s x) xs (mention_cases most (λ t. every p t.goals ≡ true) s x e
      (every_joined p s.goals (x ∷ []) e (and_from _ _ a refl)) e) b

  module _ (total : ℕ) (takes : List Signed → Bool) (expansion : List Signed → Expansion) where
    pub start : (root : List Signed) → takes root ≡ true
        → GoesOn most total takes expansion (exploration (found (root ∷ []) 0 0 None) [])
    start root e = record {
      takes_all = and_from _ _ e refl;
      within = omega arith;
      count = refl;
      taken = omega arith;
      settled = λ n g l f. absurd (omega (arith, l));
      answered = λ n g l f. absurd (omega (arith, l));
    }

    abbrev Names : List Signed → List (List Signed)
    Names g = named (expansion g).alternatives

    abbrev Then : Exploration → List Signed → Found
    Then e g = mention_goals most e.found (named (expansion g).alternatives)

    still : (e : Exploration) (g : List Signed) → GoesOn most total takes expansion e
        → slice_get e.found.goals e.found.taken ≡ Some g → (n : ℕ) (x : List Signed) → n ≤ e.found.taken
        → slice_get (Then e g).goals n ≡ Some x → slice_get e.found.goals n ≡ Some x
    still e g h at n x l f =
        sym ((keeps_all most e.found (Names g)).same n
        (omega (arith, l, slice_get_within e.found.goals e.found.taken g at))) ∙ f

    is_next : (e : Exploration) (g : List Signed) → GoesOn most total takes expansion e
        → slice_get e.found.goals e.found.taken ≡ Some g → (n : ℕ) (x : List Signed) → n ≡ e.found.taken
        → slice_get (Then e g).goals n ≡ Some x → g ≡ x
    is_next e g h at n x q f =
        same_Some _ _ (sym at ∙ sym (ap (slice_get e.found.goals) q) ∙ still e g h at n x (omega (arith, q)) f)

    settled_on : (e : Exploration) (g : List Signed) → GoesOn most total takes expansion e
        → slice_get e.found.goals e.found.taken ≡ Some g → (n : ℕ) (x : List Signed)
        → slice_get (Then e g).goals n ≡ Some x → (n < e.found.taken) ⊎ (n ≡ e.found.taken)
        → every (is_settled most (Then e g).goals) (named (expansion x).alternatives) ≡ true
    settled_on e g h at n x f (inl l) =
        every_settled most e.found.goals (Then e g).goals (Names x) (keeps_all most e.found (Names g))
        (h.settled n x l (still e g h at n x (omega (arith, l)) f))
    settled_on e g h at n x f (inr q) =
        subst (λ y. every (is_settled most (Then e g).goals) (named (expansion y).alternatives) ≡ true)
        (is_next e g h at n x q f) (settles_all most e.found (Names g))

    answered_on : (e : Exploration) (g : List Signed) → GoesOn most total takes expansion e
        → slice_get e.found.goals e.found.taken ≡ Some g → (n : ℕ) (x : List Signed)
        → slice_get (Then e g).goals n ≡ Some x → (n < e.found.taken) ⊎ (n ≡ e.found.taken)
        → slice_get (e.answers ++ answer_to (Then e g).goals (expansion g) ∷ []) n
        ≡ Some (answer_to (Then e g).goals (expansion x))
    answered_on e g h at n x f (inl l) =
        let old = still e g h at n x (omega (arith, l)) f in
        slice_get-append e.answers (answer_to (Then e g).goals (expansion g) ∷ []) n (omega (arith, l, h.count))
        ∙ h.answered n x l old
        ∙ ap (λ bs. Some (record { alternatives = bs; hole = (expansion x).hole }))
        (sym (numbered_kept most e.found.goals (Then e g).goals (expansion x).alternatives
        (keeps_all most e.found (Names g)) (h.settled n x l old)))
    answered_on e g h at n x f (inr q) =
        get_last e.answers (answer_to (Then e g).goals (expansion g)) n (omega (arith, q, h.count))
        ∙ ap (λ y. Some (answer_to (Then e g).goals (expansion y))) (is_next e g h at n x q f)

    grown : (e : Exploration) (g : List Signed) → GoesOn most total takes expansion e
        → slice_get e.found.goals e.found.taken ≡ Some g → every takes (Names g) ≡ true
        → e.found.places + places (expansion g).alternatives ≤ total
        → GoesOn most total takes expansion (exploration
        (found (Then e g).goals (suc (Then e g).taken) ((Then e g).places + places (expansion g).alternatives)
        (Then e g).over) (e.answers ++ answer_to (Then e g).goals (expansion g) ∷ []))
    grown e g h at all fits = record {
      takes_all = every_kept takes e.found (Names g) h.takes_all all;
      within = omega (arith, places_kept e.found (Names g), fits);
      count = length-append e.answers (answer_to (Then e g).goals (expansion g) ∷ [])
          ∙ omega (arith, h.count, taken_kept most e.found (Names g));
      taken = omega (
        arith,
        taken_kept most e.found (Names g),
        slice_get_within e.found.goals e.found.taken g at,
        (keeps_all most e.found (Names g)).longer,
      );
      settled = λ n x l f.
          settled_on e g h at n x f (below_suc n e.found.taken (omega (arith, l, taken_kept most e.found (Names g))));
      answered = λ n x l f.
          answered_on e g h at n x f (below_suc n e.found.taken (omega (arith, l, taken_kept most e.found (Names g))));
    }

    -- what holds of an exploration holds with the answer to the next goal, whose goals are then mentioned
    pub goes_on : (e now : Exploration) (g : List Signed) → GoesOn most total takes expansion e
        → slice_get e.found.goals e.found.taken ≡ Some g
        → every takes (named (expansion g).alternatives) ≡ true
        → now ≡ with_answer most total e (expansion g) → GoesOn most total takes expansion now
    goes_on e now g h at all same =
        subst (GoesOn most total takes expansion) (sym same)
        (go (nat_lt total (e.found.places + places (expansion g).alternatives)) refl) where
          go : (b : Bool) → nat_lt total (e.found.places + places (expansion g).alternatives) ≡ b
              → (let f = cond b (found e.found.goals e.found.taken e.found.places (first_limit e.found.over Total))
              (found (Then e g).goals (suc (Then e g).taken) ((Then e g).places + places (expansion g).alternatives)
              (Then e g).over) in
              GoesOn most total takes expansion
              (exploration f (cond b e.answers (e.answers ++ answer_to f.goals (expansion g) ∷ []))))
          go true k = record {
            takes_all = h.takes_all;
            within = h.within;
            count = h.count;
            taken = h.taken;
            settled = h.settled;
            answered = h.answered;
          }
          go false k = grown e g h at all (ltb-false total (e.found.places + places (expansion g).alternatives) k)

    -- the answers so far are those that the expansions of the explored goals give
    pub explores : (e : Exploration) → GoesOn most total takes expansion e → Explores expansion e
    explores e h = record {
      alternatives = λ n. go n (nat_lt n e.found.taken) refl;
      hole = λ n. hole n (nat_lt n e.found.taken) refl;
    } where
      past : (n : ℕ) → nat_lt n e.found.taken ≡ false → slice_get e.answers n ≡ None
      past n k = slice_get_past e.answers n (omega (arith, ltb-false n e.found.taken k, h.count))

      no_goal : (n : ℕ) → nat_lt n e.found.taken ≡ true → slice_get e.found.goals n ≡ None → ⊥
      no_goal n k f = none n e.found.goals (omega (arith, ltb-true n e.found.taken k, h.taken)) f where
        none : (i : ℕ) (xs : List (List Signed)) → i < length xs → slice_get xs i ≡ None → ⊥
        none i [] l f = omega (arith, l)
        none zero (x ∷ xs) l f = cc
        none (suc i) (x ∷ xs) l f = none i xs (omega (arith, l)) f

      go : (n : ℕ) (b : Bool) → nat_lt n e.found.taken ≡ b
          → alternatives_in (slice_get e.answers n)
          ≡ cond b (alternatives_at expansion e.found (slice_get e.found.goals n)) []
      go n true k = at (slice_get e.found.goals n) refl where
        at : (o : Option (List Signed)) → slice_get e.found.goals n ≡ o
            → alternatives_in (slice_get e.answers n) ≡ alternatives_at expansion e.found o
        at None f = absurd (no_goal n k f)
        at (Some g) f = ap alternatives_in (h.answered n g (ltb-true n e.found.taken k) f)
      go n false k = ap alternatives_in (past n k)

      hole : (n : ℕ) (b : Bool) → nat_lt n e.found.taken ≡ b
          → hole_in (slice_get e.answers n) ≡ cond b (hole_at expansion e.found (slice_get e.found.goals n)) None
      hole n true k = at (slice_get e.found.goals n) refl where
        at : (o : Option (List Signed)) → slice_get e.found.goals n ≡ o
            → hole_in (slice_get e.answers n) ≡ hole_at expansion e.found o
        at None f = absurd (no_goal n k f)
        at (Some g) f = ap hole_in (h.answered n g (ltb-true n e.found.taken k) f)
      hole n false k = ap hole_in (past n k)
