-- The certificate of numbered goals is accepted.
use Rattle.std.proofs.Common.{◌≡◌, ℕ, zero, suc, ◌<◌, ◌≤◌, ◌⊎◌, inl, inr, Bool, true, false, ◌||◌, cond, List, [], ◌∷◌, ◌++◌, map, length, get_or, nat_eq, nat_lt, Option, Some, None, Result, Ok, Err, refl, ap, ap₂, sym, ◌∙◌, subst, append-nil, append_assoc, arith}
use Rattle.std.proofs.lemmas.Bool.{and_from, lt-ltb, eq-eqb, eqb-true}
use Rattle.std.proofs.lemmas.List.{length-map, get_or-map}
use Rattle.std.specs.List.{list_any}
use Rattle.std.specs.Cmp.{nat_eq_equiv}
use Rattle.documents.specs.Kind.{all_kinds}
use Rattle.documents.specs.Tests.{some}
use Rattle.positions.specs.Position.{Position}
use Rattle.positions.specs.Holds.{IsTable}
use Rattle.goals.specs.Signed.{Signed, Plus, Minus, has}
use Rattle.goals.specs.Goal.{form, contains}
use Rattle.goal_laws.proofs.Signs.{has-every}
use Rattle.word_laws.proofs.Mentions as M
use Rattle.word_laws.proofs.Places.{place_below, place_same}
use Rattle.list_laws.specs.In.{IsIn}
use Rattle.certificate_lines.specs.Line as L
use Rattle.certificate_lines.specs.Line.{Line}
use Rattle.verdicts.specs.Rules.{other_entry, no_goal, root_not_listed}
use Rattle.verdicts.specs.RowLines.{and_then, if_so}
use Rattle.verdicts.specs.Duties.{Duty, AtKind, after, run}
use Rattle.verdicts.specs.Verdict.{Stage, Showing, Verdict, Accepted, cites, is_goal, root_is_listed, entry_duties, listing, go_on, judged, at_end, verdict}
use Rattle.verdict_laws.proofs.Runs.{run_beside, run_on}
use Rattle.refutations.specs.GoalLines.{goal_lines}
use Rattle.refutations.specs.Expansions.{expansion_of}
use Rattle.refutations.specs.Listing.{cited, renamed, place_of, listed, entries, certificate_of, certificate}
use Rattle.refutations.specs.Refutation.{empty_certificate}
use Rattle.refutation_laws.proofs.Goals.{AreUnmet, goal_does}
use Rattle.refutation_laws.proofs.Renamed.{run_again}
use Rattle.refutation_laws.proofs.Cited.{IsNumber, cited_numbers}
use Rattle.refutation_laws.proofs.Listed as N

-- the stages

module _ (T : List Position) (a b : ℕ) (finish : Stage → ℕ → Verdict) where
  -- goals that are formed are listed
  goals_listed : (gs before : List (List Signed)) (j k : ℕ) (ms : List Line) (s : Stage)
      → ((g : List Signed) → IsIn g gs → is_goal T g ≡ true) → listing T a b zero (before ++ gs) ≡ Ok s
      → (m : ℕ)
      × (go_on T a b (λ u. judged T a b finish u k (map (λ g. L.Goal g) gs ++ ms)) j
      (listing T a b (length gs) before)
      ≡ judged T a b finish s m ms)
  goals_listed [] before j k ms s h e = (
    k,
    ap (λ r. go_on T a b (λ u. judged T a b finish u k ms) j r)
        (ap (listing T a b zero) (sym (append-nil before)) ∙ e),
  )
  goals_listed (g ∷ gs) before j k ms s h e =
      let (m, q) = goals_listed gs (before ++ g ∷ []) k (suc k) ms s (λ x i. h x (inr i))
      (ap (listing T a b zero) (append_assoc before (g ∷ []) gs) ∙ e) in (
        m,
        ap (λ c. go_on T a b (λ u. judged T a b finish u (suc k) (map (λ g. L.Goal g) gs ++ ms)) k
            (cond c (listing T a b (length gs) (before ++ g ∷ [])) (Err no_goal))) (h g (inl refl)) ∙ q,
      )

  -- lines that do the duties that are left
  all_shown : (gs : List (List Signed)) (ds : List Duty) (ls : List Line) (k : ℕ) (ms : List Line)
      → run T (cites gs) ds ls ≡ Ok []
      → (m : ℕ)
      × (judged T a b finish (Showing gs ds) k (ls ++ ms) ≡ judged T a b finish (Showing gs []) m ms)
  all_shown gs ds [] k ms e =
      let q : ds ≡ [] = cc in (k, ap (λ z. judged T a b finish (Showing gs z) k ms) q)
  all_shown gs [] (l ∷ ls) k ms e = cc e
  all_shown gs (d ∷ ds) (l ∷ ls) k ms e =
      go (after T (cites gs) d l) e (λ es f. all_shown gs (es ++ ds) ls (suc k) ms f) where
        go : (r : Result (List Duty) ℕ) → and_then (λ es. run T (cites gs) (es ++ ds) ls) r ≡ Ok []
            → ((es : List Duty) → run T (cites gs) (es ++ ds) ls ≡ Ok []
            → (m : ℕ) × (judged T a b finish (Showing gs (es ++ ds)) (suc k) (ls ++ ms)
            ≡ judged T a b finish (Showing gs []) m ms))
            → (m : ℕ)
            × (go_on T a b (λ u. judged T a b finish u (suc k) (ls ++ ms)) k
            (and_then (λ es. Ok (Showing gs (es ++ ds))) r)
            ≡ judged T a b finish (Showing gs []) m ms)
        go (Err x) f more = cc f
        go (Ok es) f more = more es f

-- of numbers

abbrev is_number : Option ℕ → ℕ → Bool
is_number None k = false
is_number (Some m) k = nat_eq m k

module _ (T : List Position) (ok : IsTable T) (goals : List (List Signed)) (number : List Signed → Option ℕ)
    -- the number of a goal is its place, the goal is formed, has no hole, and none of its alternatives is met
    (right : (g : List Signed) (k : ℕ) → number g ≡ Some k → (k < length goals) × (get_or goals k [] ≡ g))
    (formed : (g : List Signed) (k : ℕ) → number g ≡ Some k → is_goal T g ≡ true)
    (unmet : (g : List Signed) (k : ℕ) → number g ≡ Some k → ((expansion_of T g).hole ≡ None)
    × AreUnmet number (expansion_of T g).alternatives) where
  abbrev lines : List Signed → List Line
  lines = goal_lines number T

  abbrev at : ℕ → List Signed
  at k = get_or goals k []

  abbrev may_cite : ℕ → List Signed → Bool
  may_cite k g = is_number (number g) k

  numbered : (g : List Signed) (k : ℕ) → number g ≡ Some k → may_cite k g ≡ true
  numbered g k e = ap (λ o. is_number o k) e ∙ eq-eqb k k refl

  has_number : (g : List Signed) (k : ℕ) → may_cite k g ≡ true → number g ≡ Some k
  has_number g k e = go (number g) e where
    go : (o : Option ℕ) → is_number o k ≡ true → o ≡ Some k
    go None e = cc e
    go (Some m) e = ap Some (eqb-true m k e)

  lines_do : (g : List Signed) (k : ℕ) → number g ≡ Some k
      → run T may_cite (map (λ t. AtKind t g) all_kinds) (lines g) ≡ Ok []
  lines_do g k e =
      let (hole, h) = unmet g k e in
      ap₂ (run T may_cite) (sym (append-nil (map (λ t. AtKind t g) all_kinds))) (sym (append-nil (lines g)))
      ∙ goal_does T ok may_cite number numbered g hole h [] []

  module _ (ks : List ℕ) (dead : (k : ℕ) → IsIn k ks → number (at k) ≡ Some k)
      (closed : (k j : ℕ) → IsIn k ks → IsIn j (cited (lines (at k))) → IsIn j ks) where
    abbrev gs : List (List Signed)
    gs = map at ks

    place_has : (k : ℕ) → IsIn k ks → list_any (nat_eq k) ks ≡ true
    place_has k i = M.has_in nat_eq nat_eq_equiv k k ks i (eq-eqb k k refl)

    carry : (k : ℕ) (g : List Signed) → IsIn k ks → may_cite k g ≡ true → cites gs (place_of ks k) g ≡ true
    carry k g i e =
        let l = place_below nat_eq nat_eq_equiv k ks (place_has k i) in
        let s = eqb-true k (get_or ks (place_of ks k) 0) (place_same nat_eq nat_eq_equiv k 0 ks (place_has k i)) in
        let n = length-map ks at in
        let q : get_or gs (place_of ks k) [] ≡ g =
        get_or-map at ks (place_of ks k) 0 [] l ∙ ap at (sym s) ∙ (right g k (has_number g k e)).1 in
        and_from (nat_lt (place_of ks k) (length gs)) (contains g (get_or gs (place_of ks k) []))
        (lt-ltb (place_of ks k) (length gs) (omega (arith, l, n)))
        (ap (contains g) q ∙ has-every (λ x. has x g) g (λ x j. j))

    one_entry : (k : ℕ) → IsIn k ks
        → run T (cites gs) (map (λ t. AtKind t (at k)) all_kinds) (map (renamed (place_of ks)) (lines (at k))) ≡ Ok []
    one_entry k i =
        run_again T may_cite (cites gs) (place_of ks) ks carry (map (λ t. AtKind t (at k)) all_kinds) (lines (at k)) []
        (λ j x. closed k j i x) (lines_do (at k) k (dead k i))

    entries_do : (i : ℕ) (js : List ℕ) → ((k : ℕ) → IsIn k js → IsIn k ks)
        → run T (cites gs) (entry_duties i (map at js)) (entries goals lines (place_of ks) i js) ≡ Ok []
    entries_do i [] h = refl
    entries_do i (k ∷ js) h =
        let X = map (renamed (place_of ks)) (lines (at k)) in
        let ds = entry_duties (suc i) (map at js) in
        let more = entries goals lines (place_of ks) (suc i) js in
        ap (λ c. and_then (λ es. run T (cites gs) (es ++ ds) (X ++ more))
        (if_so other_entry c (map (λ t. AtKind t (at k)) all_kinds))) (eq-eqb i i refl)
        ∙ run_on T (cites gs) (map (λ t. AtKind t (at k)) all_kinds ++ ds) ds X more
        (run_beside T (cites gs) (map (λ t. AtKind t (at k)) all_kinds) [] ds X (one_entry k (h k (inl refl))))
        ∙ entries_do (suc i) js (λ j x. h j (inr x))

    goal_formed : (g : List Signed) → IsIn g gs → is_goal T g ≡ true
    goal_formed g i = go ks (λ k x. x) i where
      go : (js : List ℕ) → ((k : ℕ) → IsIn k js → IsIn k ks) → IsIn g (map at js) → is_goal T g ≡ true
      go [] h i = absurd i
      go (k ∷ js) h (inl q) = subst (λ z. is_goal T z ≡ true) (sym q) (formed (at k) k (dead k (h k (inl refl))))
      go (k ∷ js) h (inr i) = go js (λ j x. h j (inr x)) i

    abbrev as_goal : ℕ → Line
    as_goal k = L.Goal (at k)

    goal_lines_same : (js : List ℕ) → map as_goal js ≡ map (λ g. L.Goal g) (map at js)
    goal_lines_same [] = refl
    goal_lines_same (k ∷ js) = ap (λ z. L.Goal (at k) ∷ z) (goal_lines_same js)

    pub is_accepted : (a b : ℕ) → root_is_listed (form T (Plus a ∷ Minus b ∷ [])) gs ≡ true
        → verdict T a b (certificate_of goals lines ks) ≡ Accepted
    is_accepted a b r =
        let end = entries goals lines (place_of ks) 0 ks ++ L.End ∷ [] in
        let (m, e) = goals_listed T a b at_end gs [] 2 3 end (Showing gs (entry_duties 0 gs)) goal_formed
        (ap (λ c. if_so root_not_listed c (Showing gs (entry_duties 0 gs))) r) in
        let (n, f) = all_shown T a b at_end gs (entry_duties 0 gs) (entries goals lines (place_of ks) 0 ks) m
        (L.End ∷ []) (entries_do 0 ks (λ k x. x)) in
        ap₂ (λ i x. go_on T a b (λ u. judged T a b at_end u 3 (x ++ end)) 2 (listing T a b i []))
        (sym (length-map ks at)) (goal_lines_same ks)
        ∙ e ∙ f

  -- the numbers that are listed
  pub record IsListing (ks : List ℕ) : Type 0 where
    pub first : (Y : List ℕ) × (ks ≡ 0 ∷ Y)
    pub dead : (k : ℕ) → IsIn k ks → number (at k) ≡ Some k
    pub closed : (k j : ℕ) → IsIn k ks → IsIn j (cited (lines (at k))) → IsIn j ks
    pub few : length ks ≤ length goals

  -- the root is the first goal, and has its number
  module _ (root : List Signed) (first : number root ≡ Some 0) where
    abbrev extend : ℕ → List ℕ
    extend k = cited (lines (at k))

    small : (k j : ℕ) → k < length goals → IsIn j (extend k) → j < length goals
    small k j l i = let (g, e) = cited_numbers number T (at k) j i in (right g j e).0

    pub listing_is : IsListing (listed goals lines)
    unfolding listed
    listing_is =
        let positive = (right root 0 first).0 in
        record {
          first = N.first_listed extend (length goals) positive small;
          dead = λ k i. dead k (N.listed_from extend (length goals) positive small k i);
          closed = N.listed_closed extend (length goals) positive small;
          few = N.few_listed extend (length goals) positive small;
        }
      where
        known : (k : ℕ) → IsNumber number k → number (at k) ≡ Some k
        known k (g, e) = ap number (right g k e).1 ∙ e

        dead : (k : ℕ) → (k ≡ 0) ⊎ ((m : ℕ) × IsIn k (extend m)) → number (at k) ≡ Some k
        dead k (inl q) = known k (root, first ∙ ap Some (sym q))
        dead k (inr (m, i)) = known k (cited_numbers number T (at m) k i)

    pub listed_accepted : (a b : ℕ) → form T (Plus a ∷ Minus b ∷ []) ≡ Some root
        → verdict T a b (certificate goals lines) ≡ Accepted
    listed_accepted a b is_root =
        let h = listing_is in
        let (Y, e) = h.first in
        is_accepted (listed goals lines) h.dead h.closed a b
        (ap₂ (λ o ks. root_is_listed o (map at ks)) is_root e
        ∙ ap (λ c. c || some_rest Y) (ap (contains root) (right root 0 first).1
        ∙ has-every (λ x. has x root) root (λ x j. j)))
      where
        some_rest : List ℕ → Bool
        some_rest Y = some (contains root) (map at Y)

-- a root that clashes needs no goals
pub clash_accepted : (T : List Position) (a b : ℕ) → form T (Plus a ∷ Minus b ∷ []) ≡ None
    → verdict T a b empty_certificate ≡ Accepted
clash_accepted T a b e =
    ap (λ o. go_on T a b (λ u. judged T a b at_end u 3 (L.End ∷ [])) 2
    (if_so root_not_listed (root_is_listed o []) (Showing [] []))) e
