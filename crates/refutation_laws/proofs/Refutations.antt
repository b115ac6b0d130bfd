-- Where the search decides that there is no document, what refutes its root is an accepted certificate.
use Rattle.std.proofs.Common.{◌≡◌, ℕ, suc, ◌<◌, ◌≤◌, true, false, true≢false, cond, nat_lt, List, [], ◌∷◌, length, get_or, Option, Some, None, option_map, is_some, slice_get, refl, ap, sym, ◌∙◌, subst, arith}
use Rattle.std.specs.Option.{is_none}
use Rattle.std.proofs.lemmas.Bool.{and_parts, and_from, lt-ltb, le-leb, leb-true, false_from_ne_true}
use Rattle.std.proofs.lemmas.Option.{slice_get_within}
use Rattle.documents.specs.Tests.{every, some}
use Rattle.positions.specs.Position.{Position}
use Rattle.positions.specs.Holds.{IsTable}
use Rattle.goals.specs.Signed.{Signed, Plus, Minus, position_of}
use Rattle.goals.specs.Goal.{form}
use Rattle.goal_laws.proofs.Signs.{same_signed-itself}
use Rattle.goal_laws.proofs.Forms.{form-itself}
use Rattle.list_laws.proofs.Lists.{every_at, in_flat_map}
use Rattle.alternatives.specs.Alternative.{named_by, named, is_met}
use Rattle.alternatives.specs.Expansion.{Expansion}
use Rattle.alternatives.specs.Limit.{most_goals, most_total}
use Rattle.expansion_laws.proofs.Goals.{get_is}
use Rattle.search.specs.Explored.{Found, explored, number_in, same_goal, is_listed}
use Rattle.search.specs.Rounds as R
use Rattle.search.specs.Rounds.{by_number, round, alternatives_of, alternatives_at, numbered, hole_of, hole_at}
use Rattle.search.specs.Uses.{satisfied}
use Rattle.search_laws.proofs.Numbers.{number_at, same_goal_itself, numbered_met, met_agree}
use Rattle.search_laws.proofs.Names.{get_in}
use Rattle.search_laws.proofs.Whole.{Whole, whole, root_first}
use Rattle.search_laws.proofs.Answers.{satisfied_has, answer_none}
use Rattle.search_laws.proofs.Rise.{answer_round}
use Rattle.expander_laws.specs.Expander as X
use Rattle.expander_laws.specs.Expander.{is_formed}
use Rattle.expander_laws.proofs.Formed.{is_formed-true}
use Rattle.expander_laws.proofs.Inside.{goals_named}
use Rattle.decisions.specs.Decision.{NoDocument, root_of, decision}
use Rattle.decision_laws.proofs.Full.{IsKept, explored_kept}
use Rattle.decision_laws.proofs.Decisions.{Decision, RootSays, root_says, root_goal}
use Rattle.verdicts.specs.Verdict as V
use Rattle.verdicts.specs.Verdict.{same_list, is_goal, verdict, verdict_of_bytes, Accepted}
use Rattle.verdict_laws.proofs.Bytes.{verdict_of_text}
use Rattle.refutations.specs.Expansions.{finders_of, expansion_of}
use Rattle.certificate_lines.specs.Line.{Line}
use Rattle.certificate_lines.specs.Text.{lines_text, IsText}
use Rattle.refutations.specs.Refutation.{unless_satisfied, unmet_number, found_refutation, empty_certificate, root_refutation, refutation}
use Rattle.refutation_laws.proofs.CompleteLines.{can}
use Rattle.refutation_laws.proofs.Goals.{AreUnmet}
use Rattle.refutation_laws.proofs.Certificates.{listed_accepted, clash_accepted}
use Rattle.refutation_laws.proofs.Explored.{is_narrow, narrow_named, formed_short, explored_few}
use Rattle.refutation_laws.proofs.Grammar.{listed_text, clash_text}
use Rattle.list_laws.proofs.Tests.{none_at}

same_list_itself : (g : List Signed) → same_list g g ≡ true
same_list_itself [] = refl
same_list_itself (x ∷ g) = and_from _ (same_list g g) (same_signed-itself x) (same_list_itself g)

-- a goal that an expander takes is listed as it is
pub listed_goal : (T : List Position) (g : List Signed) → X.is_goal T g ≡ true → is_goal T g ≡ true
listed_goal T g e =
    let (formed, inside) = and_parts (is_formed T g) (every (λ x. nat_lt (position_of x) (length T)) g) e in
    and_from (every (λ x. nat_lt (position_of x) (length T)) g) _ inside
    (ap (λ o. V.same_goal g o) (form-itself T g (is_formed-true T g formed))
    ∙ same_list_itself g)

module _ (T : List Position) (ok : IsTable T) (most most_places a b : ℕ) (root : List Signed)
    (is_root : form T (Plus a ∷ Minus b ∷ []) ≡ Some root) (good : X.is_goal T root ≡ true) (positive : 0 < most) where
  abbrev E : List Signed → Expansion
  E = expansion_of T

  abbrev f : Found
  f = explored most most_places (expansion_of T) root

  abbrev number : List Signed → Option ℕ
  number g = unmet_number E f g

  number_parts : (g : List Signed) (k : ℕ) → number g ≡ Some k
      → (number_in f.goals g ≡ Some k) × (satisfied E f k ≡ None)
  number_parts g k e = go (number_in f.goals g) refl e where
    by : (n : ℕ) (o : Option (ℕ × ℕ)) → satisfied E f n ≡ o → cond (is_some o) None (Some n) ≡ Some k
        → (Some n ≡ Some k) × (satisfied E f k ≡ None)
    by n (Some x) p e = cc e
    by n None p e = (e, (let q : n ≡ k = cc e in subst (λ z. satisfied E f z ≡ None) q p))

    go : (o : Option ℕ) → number_in f.goals g ≡ o → unless_satisfied E f o ≡ Some k
        → (number_in f.goals g ≡ Some k) × (satisfied E f k ≡ None)
    go None p e = cc e
    go (Some n) p e = let (q, s) = by n (satisfied E f n) refl e in (p ∙ q, s)

  place_is : (g : List Signed) (k : ℕ) → number g ≡ Some k → slice_get f.goals k ≡ Some g
  place_is g k e = number_at f.goals g k (number_parts g k e).0

  right : (g : List Signed) (k : ℕ) → number g ≡ Some k → (k < length f.goals) × (get_or f.goals k [] ≡ g)
  right g k e =
      let p = place_is g k e in (slice_get_within f.goals k g p, get_is [] g f.goals k p)

  formed : (g : List Signed) (k : ℕ) → number g ≡ Some k → is_goal T g ≡ true
  formed g k e =
      let h : IsKept most most_places E (X.is_goal T) (goals_named T ok (finders_of T)) f =
      explored_kept most most_places E (X.is_goal T) (goals_named T ok (finders_of T)) root good in
      listed_goal T g (every_at (X.is_goal T) g f.goals h.are_good (get_in f.goals k g (place_is g k e)))

  module _ (over : f.over ≡ None) (holes : (n : ℕ) → hole_of E f n ≡ None) where
    taken : (k : ℕ) → k < length f.goals → nat_lt k f.taken ≡ true
    taken k l =
        let w : Whole most most_places E f = whole most most_places E root positive over in
        lt-ltb k f.taken (let q = w.all in omega (arith, q, l))

    -- a listed goal counts as met exactly where the last round has it
    counts_same : (h : List Signed) → is_listed f.goals h ≡ true
        → can (unmet_number E f) h ≡ by_number false (round E f (length f.goals)) f.goals h
    counts_same h l = go (number_in f.goals h) l where
      by : (o : Option (ℕ × ℕ)) (n : ℕ) → is_none (cond (is_some o) None (Some n)) ≡ is_some o
      by (Some x) n = refl
      by None n = refl

      go : (o : Option ℕ) → is_some o ≡ true
          → is_none (unless_satisfied E f o) ≡ R.test_or false (round E f (length f.goals)) o
      go None l = cc l
      go (Some n) l = by (satisfied E f n) n ∙ answer_round E f (length f.goals) n

    none_met : (g : List Signed) (k : ℕ) → slice_get f.goals k ≡ Some g → satisfied E f k ≡ None
        → some (is_met (by_number false (round E f (length f.goals)) f.goals)) (E g).alternatives ≡ false
    none_met g k at none =
        sym (numbered_met (round E f (length f.goals)) f.goals (E g).alternatives)
        ∙ sym (ap (λ o. some (R.is_met (round E f (length f.goals))) (alternatives_at E f o)) at)
        ∙ sym (ap (λ c. some (R.is_met (round E f (length f.goals)))
        (cond c (alternatives_at E f (slice_get f.goals k)) []))
        (taken k (slice_get_within f.goals k g at)))
        ∙ false_from_ne_true (round E f (suc (length f.goals)) k) (λ t.
        true≢false (sym (satisfied_has E f (suc (length f.goals)) k t) ∙ ap is_some none))

    unmet : (g : List Signed) (k : ℕ) → number g ≡ Some k
        → ((E g).hole ≡ None) × AreUnmet (unmet_number E f) (E g).alternatives
    unmet g k e =
        let at = place_is g k e in
        let w : Whole most most_places E f = whole most most_places E root positive over in (
          sym (ap (hole_at E f) at)
              ∙ sym (ap (λ c. cond c (hole_at E f (slice_get f.goals k)) None)
              (taken k (slice_get_within f.goals k g at)))
              ∙ holes k,
          λ x i. met_agree (can (unmet_number E f)) (by_number false (round E f (length f.goals)) f.goals) x
              (λ h j. counts_same h (every_at (is_listed f.goals) h (named (E g).alternatives) (w.closed k g at)
              (in_flat_map named_by h x (E g).alternatives i j)))
              ∙ none_at (is_met (by_number false (round E f (length f.goals)) f.goals)) x (E g).alternatives
              (none_met g k at (number_parts g k e).1) i,
        )

    first : satisfied E f 0 ≡ None → number root ≡ Some 0
    first none =
        ap (unless_satisfied E f) (go f.goals (root_first most most_places E root))
        ∙ ap (λ o. cond (is_some o) None (Some 0)) none where
          go : (gs : List (List Signed)) → slice_get gs 0 ≡ Some root → number_in gs root ≡ Some 0
          go [] e = cc e
          go (g ∷ gs) e =
              let q : g ≡ root = cc e in
              ap (λ c. cond c (Some 0) (option_map suc (number_in gs root)))
              (subst (λ z. same_goal root z ≡ true) (sym q) (same_goal_itself root))

    narrow : (g : List Signed) (k : ℕ) → number g ≡ Some k → length g ≤ 65536
    narrow g k e =
        let h : IsKept most most_places E is_narrow (narrow_named T) f =
        explored_kept most most_places E is_narrow (narrow_named T) root
        (le-leb (length root) 65536
        (let l = formed_short T (Plus a ∷ Minus b ∷ []) root is_root in omega (arith, l))) in
        leb-true (length g) 65536 (every_at is_narrow g f.goals h.are_good (get_in f.goals k g (place_is g k e)))

    -- the text is in the grammar
    pub found_text : most ≤ 65536 → length T ≤ 4294967296 → satisfied E f 0 ≡ None
        → IsText (lines_text (found_refutation E f T)) (found_refutation E f T)
    found_text low few none =
        listed_text T ok few f.goals (unmet_number E f) right formed unmet narrow
        (let l = explored_few most most_places E root positive in omega (arith, l, low)) root (first none)

    pub found_accepted : satisfied E f 0 ≡ None → verdict T a b (found_refutation E f T) ≡ Accepted
    found_accepted none =
        listed_accepted T ok f.goals (unmet_number E f) right formed unmet root (first none) a b is_root

-- the certificate of two positions of a table, where the search decides that there is no document
module _ (T : List Position) (ok : IsTable T) (most most_places a b : ℕ) (positive : 0 < most) (a_in : a < length T)
    (b_in : b < length T)
    (decided : (Decision (finders_of T) T most most_places a b).verdict ≡ NoDocument) where
  -- what holds of the root
  root_is : (P : List Line → Type 0) → (form T (Plus a ∷ Minus b ∷ []) ≡ None → P empty_certificate)
      → ((root : List Signed) (is_root : form T (Plus a ∷ Minus b ∷ []) ≡ Some root) (good : X.is_goal T root ≡ true)
      → (explored most most_places (expansion_of T) root).over ≡ None
      → ((n : ℕ) → hole_of (expansion_of T) (explored most most_places (expansion_of T) root) n ≡ None)
      → satisfied (expansion_of T) (explored most most_places (expansion_of T) root) 0 ≡ None
      → P (found_refutation (expansion_of T) (explored most most_places (expansion_of T) root) T))
      → P (root_refutation T most most_places (form T (Plus a ∷ Minus b ∷ [])))
  root_is P clash found =
      go (form T (Plus a ∷ Minus b ∷ [])) refl
      (subst (λ v. RootSays (finders_of T) T most most_places a b (root_of T a b) v) decided
      (root_says (finders_of T) T most most_places a b (root_of T a b))) where
        go : (o : Option (List Signed)) → form T (Plus a ∷ Minus b ∷ []) ≡ o
            → RootSays (finders_of T) T most most_places a b o NoDocument
            → P (root_refutation T most most_places o)
        go None p s = clash p
        go (Some root) p (unmet, over, holes) =
            let E = expansion_of T in
            let f = explored most most_places (expansion_of T) root in
            found root p (root_goal (finders_of T) T most most_places a b ok a_in b_in root p) over holes
            (answer_none E f (length f.goals) 0 (unmet (length f.goals)))

  pub root_accepted : verdict T a b (root_refutation T most most_places (form T (Plus a ∷ Minus b ∷ []))) ≡ Accepted
  root_accepted =
      root_is (λ ls. verdict T a b ls ≡ Accepted) (clash_accepted T a b)
      (λ root p good over holes none.
      found_accepted T ok most most_places a b root p good positive over holes none)

  pub root_text : most ≤ 65536 → length T ≤ 4294967296
      → IsText (lines_text (root_refutation T most most_places (form T (Plus a ∷ Minus b ∷ []))))
      (root_refutation T most most_places (form T (Plus a ∷ Minus b ∷ [])))
  root_text low few =
      root_is (λ ls. IsText (lines_text ls) ls) (λ p. clash_text)
      (λ root p good over holes none.
      found_text T ok most most_places a b root p good positive over holes low few none)

module _ (T : List Position) (ok : IsTable T) (a b : ℕ) (a_in : a < length T) (b_in : b < length T)
    (decided : (decision (finders_of T) T a b).verdict ≡ NoDocument) where
  -- its lines are accepted
  pub refutation_accepted : verdict T a b (refutation T a b) ≡ Accepted
  unfolding refutation
  refutation_accepted = root_accepted T ok most_goals most_total a b (omega arith) a_in b_in decided

  -- they are in the grammar, where the table has no more positions than numbers are written
  pub refutation_text : length T ≤ 4294967296 → IsText (lines_text (refutation T a b)) (refutation T a b)
  unfolding refutation
  refutation_text few = root_text T ok most_goals most_total a b (omega arith) a_in b_in decided (omega arith) few

  -- so the text that is written of the two positions is accepted
  pub written_accepted : length T ≤ 4294967296 → verdict_of_bytes T a b (lines_text (refutation T a b)) ≡ Accepted
  written_accepted few =
      verdict_of_text T a b (lines_text (refutation T a b)) (refutation T a b) (refutation_text few)
      ∙ refutation_accepted
