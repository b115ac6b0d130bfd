-- Entries are reached in the order of their distances.
use Rattle.std.proofs.Common.{◌≡◌, ℕ, zero, suc, ◌+◌, ◌<◌, ◌≤◌, ◌≢◌, List, [], ◌∷◌, ◌++◌, length, set, replicate, inl, inr, true, cond, Option, Some, None, is_none, count_by, refl, sym, ap, ◌∙◌, subst, arith}
use Rattle.std.proofs.lemmas.Bool.{cases_eq, cases_lt}
use Rattle.std.proofs.lemmas.List.{length-set, get_or-set_same, get_or-set_other, get_or-replicate, get_or_past, length-replicate}
use Rattle.std.proofs.lemmas.List.Sums.{sum_by-set}
use Rattle.std.proofs.lemmas.List.Folds.{sum_by-replicate}
use Rattle.schemas.specs.Guarded.{targets, is_among, leads}
use Rattle.schema_laws.proofs.Ways.{leads-here, leads-same, leads-edge, leads-join, leads-last}
use Rattle.js_guard.specs.declared.distances.Reached.{Reached}
use Rattle.js_guard.specs.declared.distances.Frontier.{Frontier}
use Rattle.js_guard.specs.Distances.{get_distance, AreDistances, item, IsReaching, IsReachingWith, ReachesAt}
use Rattle.js_guard.proofs.Pushes.{push-length, push-old, push-new, push-cases}

abbrev pub no_item : Reached
no_item = record { entry = 0; distance = 0 }

abbrev pub reached : ℕ → ℕ → Reached
reached x d = record { entry = x; distance = d }

-- how many entries have no distance

abbrev unknown : List (Option ℕ) → ℕ
unknown D = count_by is_none D

abbrev one : Option ℕ → ℕ
one o = cond (is_none o) 1 0

unknown-set : (D : List (Option ℕ)) (x d : ℕ) → x < length D → get_distance D x ≡ None
    → unknown (set D x (Some d)) + 1 ≡ unknown D
unknown-set D x d h none =
    let swap : unknown (set D x (Some d)) + one (get_distance D x) ≡ unknown D + one (Some d) =
    sum_by-set one D x (Some d) None h in
    let was : one (get_distance D x) ≡ one None = ap one none in
    omega arith

-- one more is reached from the entry at place h

module _ (g : List (List ℕ)) (D : List (Option ℕ)) (Q : List Reached) (h y : ℕ) (s : IsReaching g D Q h)
    (here : h < length Q) (inside : y < length g) (edge : is_among y (targets g (item Q h).entry) ≡ true)
    (new : get_distance D y ≡ None) where
  abbrev d : ℕ
  d = (item Q h).distance

  abbrev D' : List (Option ℕ)
  D' = set D y (Some (d + 1))

  abbrev last : Reached
  last = reached y (d + 1)

  abbrev Q' : List Reached
  Q' = Q ++ last ∷ []

  now : get_distance D' y ≡ Some (d + 1)
  now = get_or-set_same D y (Some (d + 1)) None (let k = s.known in omega arith)

  other : (x : ℕ) → x ≢ y → get_distance D' x ≡ get_distance D x
  other x ne = get_or-set_other D y x (Some (d + 1)) None ne

  known-other : (x e : ℕ) → get_distance D x ≡ Some e → x ≢ y
  known-other x e h same =
      let clash : Some e ≡ None = sym h ∙ ap (get_distance D) same ∙ new in cc

  still : (x e : ℕ) → get_distance D x ≡ Some e → get_distance D' x ≡ Some e
  still x e h = other x (known-other x e h) ∙ h

  item-old : (i : ℕ) → i < length Q → item Q' i ≡ item Q i
  item-old i l = push-old Q last no_item i l

  item-new : (i : ℕ) → i ≡ length Q → item Q' i ≡ last
  item-new i e = ap (item Q') e ∙ push-new Q last no_item

  longer : length Q' ≡ suc (length Q)
  longer = push-length Q last no_item

  more-queued : (x e : ℕ) → get_distance D' x ≡ Some e
      → (i : ℕ) × (i < length Q') × ((item Q' i).entry ≡ x) × ((item Q' i).distance ≡ e)
  more-queued x e k =
      elim (cases_eq x y) [
        | inl f ↦
            let value : Some (d + 1) ≡ Some e = sym now ∙ ap (get_distance D') (sym f) ∙ k in
            let same : d + 1 ≡ e = cc in (
              length Q,
              omega (arith, longer),
              ap (λ q. q.entry) (item-new (length Q) refl) ∙ sym f,
              ap (λ q. q.distance) (item-new (length Q) refl) ∙ same,
            )
        | inr ne ↦
            let old = s.queued x e (sym (other x ne) ∙ k) in
            let l = old.1 in (
              old.0,
              omega (arith, longer),
              ap (λ q. q.entry) (item-old old.0 l) ∙ old.2,
              ap (λ q. q.distance) (item-old old.0 l) ∙ old.3,
            )
      ]

  more-reached : (i : ℕ) → i < length Q' → get_distance D' (item Q' i).entry ≡ Some (item Q' i).distance
  more-reached i l =
      elim (push-cases Q last no_item i l) [
        | inl m ↦
            let old = s.reached i m in
            ap (λ q. get_distance D' q.entry) (item-old i m) ∙ still (item Q i).entry (item Q i).distance old
            ∙ ap (λ q. Some q.distance) (sym (item-old i m))
        | inr e ↦
            ap (λ q. get_distance D' q.entry) (item-new i e) ∙ now ∙ ap (λ q. Some q.distance) (sym (item-new i e))
      ]

  more-way : (i : ℕ) → i < length Q' → leads g (item Q' i).distance (item Q' 0).entry (item Q' i).entry ≡ true
  more-way i l =
      let first = item-old 0 s.begun in
      subst (λ f. leads g (item Q' i).distance f.entry (item Q' i).entry ≡ true) (sym first)
      (elim (push-cases Q last no_item i l)
      as (λ _. leads g (item Q' i).distance (item Q 0).entry (item Q' i).entry ≡ true) [
        | inl m ↦
            subst (λ q. leads g q.distance (item Q 0).entry q.entry ≡ true) (sym (item-old i m)) (s.way i m)
        | inr e ↦
            let edge_way = leads-edge g 0 (item Q h).entry y y edge (leads-here g y) in
            subst (λ q. leads g q.distance (item Q 0).entry q.entry ≡ true) (sym (item-new i e))
            (leads-join g d 1 (d + 1) (item Q 0).entry (item Q h).entry y refl (s.way h here) edge_way)
      ])

  more-rising : (i j : ℕ) → i < j → j < length Q' → (item Q' i).distance ≤ (item Q' j).distance
  more-rising i j less l =
      elim (push-cases Q last no_item j l) [
        | inl m ↦
            let k : i < length Q = omega arith in
            omega (arith, s.rising i j less m, ap (λ q. q.distance) (item-old i k), ap (λ q. q.distance) (item-old j m))
        | inr e ↦
            let k : i < length Q = omega arith in
            omega (arith, s.near i k here, ap (λ q. q.distance) (item-old i k), ap (λ q. q.distance) (item-new j e))
      ]

  more-near : (i : ℕ) → i < length Q' → h < length Q' → (item Q' i).distance ≤ suc (item Q' h).distance
  more-near i l m =
      elim (push-cases Q last no_item i l) [
        | inl k ↦
            omega (arith, s.near i k here, ap (λ q. q.distance) (item-old i k), ap (λ q. q.distance) (item-old h here))
        | inr e ↦ omega (arith, ap (λ q. q.distance) (item-new i e), ap (λ q. q.distance) (item-old h here))
      ]

  more-small : (i : ℕ) → i < length Q' → (item Q' i).distance ≤ i
  more-small i l =
      elim (push-cases Q last no_item i l) [
        | inl k ↦ omega (arith, s.small i k, ap (λ q. q.distance) (item-old i k))
        | inr e ↦ omega (arith, s.small h here, ap (λ q. q.distance) (item-new i e))
      ]

  more-followed : (i z : ℕ) → i < h → i < length Q' → is_among z (targets g (item Q' i).entry) ≡ true
      → (e : ℕ) × (get_distance D' z ≡ Some e) × (e ≤ suc (item Q' i).distance)
  more-followed i z before l k =
      let m : i < length Q = omega arith in
      let same = item-old i m in
      let old = s.followed i z before m (subst (λ q. is_among z (targets g q.entry) ≡ true) same k) in
      let low = old.2 in
      (old.0, still z old.0 old.1, omega (arith, ap (λ q. q.distance) same))

  pub reached-more : IsReaching g D' Q' h
  reached-more = record {
    known = length-set D y (Some (d + 1)) ∙ s.known;
    begun = omega (arith, longer);
    queued = more-queued;
    reached = more-reached;
    way = more-way;
    rising = more-rising;
    near = more-near;
    small = more-small;
    followed = more-followed;
    counted = (let old = s.counted in
        let k : y < length D = (let n = s.known in omega arith) in
        omega (arith, unknown-set D y (d + 1) k new, longer));
  }

-- what a step leaves
pub record StepsOn (g : List (List ℕ)) (s s' : Frontier) (h y d : ℕ) : Type 0 where
  pub search : IsReachingWith g s' h
  pub longer : length s.queue.items ≤ length s'.queue.items
  pub kept : (i : ℕ) → i < length s.queue.items → item s'.queue.items i ≡ item s.queue.items i
  pub keeps : (x e : ℕ) → get_distance s.distances.items x ≡ Some e → get_distance s'.distances.items x ≡ Some e
  pub has : (e : ℕ) × (get_distance s'.distances.items y ≡ Some e) × (e ≤ d)

reaching-same : (g : List (List ℕ)) (E F : List (Option ℕ)) (R T : List Reached) (h : ℕ) → F ≡ E → T ≡ R
    → IsReaching g E R h → IsReaching g F T h
reaching-same g E F R T h e f s =
    subst (λ D. IsReaching g D T h) (sym e) (subst (λ Q. IsReaching g E Q h) (sym f) s)

module _ (g : List (List ℕ)) (s s' : Frontier) (h y : ℕ) (search : IsReachingWith g s h)
    (here : h < length s.queue.items) (inside : y < length g)
    (edge : is_among y (targets g (item s.queue.items h).entry) ≡ true) where
  abbrev D : List (Option ℕ)
  D = s.distances.items

  abbrev Q : List Reached
  Q = s.queue.items

  abbrev e : ℕ
  e = (item Q h).distance + 1

  steps-at : (o : Option ℕ) → get_distance D y ≡ o → ReachesAt o s s' y e → StepsOn g s s' h y e
  steps-at (Some f) k same =
      let found = search.queued y f k in
      let near = search.near found.0 found.1 here in
      subst (λ t. StepsOn g s t h y e) (sym same) (record {
        search = search;
        longer = omega arith;
        kept = λ i l. refl;
        keeps = λ x a b. b;
        has = (f, k, (let at = found.3 in omega arith));
      })
  steps-at None k (distances, queue) = record {
    search =
        reaching-same g (set D y (Some e)) s'.distances.items (Q ++ reached y e ∷ []) s'.queue.items h distances queue
        (reached-more g D Q h y search here inside edge k);
    longer = omega (arith, ap length queue, push-length Q (reached y e) no_item);
    kept = λ i l. ap (λ q. item q i) queue ∙ push-old Q (reached y e) no_item i l;
    keeps = λ x a b.
        ap (λ m. get_distance m x) distances ∙ still g D Q h y search here inside edge k x a b;
    has = (e, ap (λ m. get_distance m y) distances ∙ now g D Q h y search here inside edge k, omega arith);
  }

  pub steps : ReachesAt (get_distance D y) s s' y e → StepsOn g s s' h y e
  steps r = steps-at (get_distance D y) refl r

-- all edges of the entry at place h are followed
pub follow-all : (g : List (List ℕ)) (D : List (Option ℕ)) (Q : List Reached) (h : ℕ) → h < length Q
    → IsReaching g D Q h
    → ((y : ℕ) → is_among y (targets g (item Q h).entry) ≡ true
    → (d : ℕ) × (get_distance D y ≡ Some d) × (d ≤ suc (item Q h).distance))
    → IsReaching g D Q (h + 1)
follow-all g D Q h here s all = record {
  known = s.known;
  begun = s.begun;
  queued = s.queued;
  reached = s.reached;
  way = s.way;
  rising = s.rising;
  near = λ i l m. (let near = s.near i l here in let rise = s.rising h (h + 1) (omega arith) m in omega arith);
  small = s.small;
  followed = λ i y before l k.
      elim (cases_lt i h) [
        | inl less ↦ s.followed i y less l k
        | inr more ↦
            let same : i ≡ h = omega arith in
            subst (λ j. (d : ℕ) × (get_distance D y ≡ Some d) × (d ≤ suc (item Q j).distance)) (sym same)
            (all y (subst (λ j. is_among y (targets g (item Q j).entry) ≡ true) same k))
      ];
  counted = s.counted;
}

-- in the end

module _ (g : List (List ℕ)) (D : List (Option ℕ)) (Q : List Reached) (h : ℕ) (s : IsReaching g D Q h)
    (end : length Q ≤ h) where
  abbrev f : ℕ
  f = (item Q 0).entry

  end-way : (x d : ℕ) → get_distance D x ≡ Some d → leads g d f x ≡ true
  end-way x d k =
      let found = s.queued x d k in
      subst (λ e. leads g e f x ≡ true) found.3
      (subst (λ z. leads g (item Q found.0).distance f z ≡ true) found.2 (s.way found.0 found.1))

  end-fewest : (n x : ℕ) → leads g n f x ≡ true → (d : ℕ) × (get_distance D x ≡ Some d) × (d ≤ n)
  end-fewest zero x k =
      let same = leads-same g f x k in (
        (item Q 0).distance,
        subst (λ z. get_distance D z ≡ Some (item Q 0).distance) same (s.reached 0 s.begun),
        s.small 0 s.begun,
      )
  end-fewest (suc n) x k =
      let last = leads-last g n f x k in
      let before = end-fewest n last.0 last.1 in
      let found = s.queued last.0 before.0 before.1 in
      let l = found.1 in
      let next = s.followed found.0 x (omega arith) l
      (subst (λ z. is_among x (targets g z) ≡ true) (sym found.2) last.2) in
      let a = before.2 in
      let b = found.3 in
      let c = next.2 in
      (next.0, next.1, omega arith)

  pub all-reached : AreDistances g f D
  all-reached = record { known = s.known; way = end-way; fewest = λ x n k. end-fewest n x k }

-- in the beginning

abbrev pub nowhere : ℕ → List (Option ℕ)
nowhere n = replicate n None

nowhere-at : (n x : ℕ) → get_distance (nowhere n) x ≡ None
nowhere-at n x =
    elim (cases_lt x n) [
      | inl l ↦ get_or-replicate {A = Option ℕ} n x None None l
      | inr l ↦ get_or_past (nowhere n) x None (omega (arith, length-replicate {A = Option ℕ} n None))
    ]

unknown-all : (n : ℕ) → unknown (nowhere n) ≡ n
unknown-all n = omega (arith, sum_by-replicate {X = Option ℕ} one n None)

module _ (g : List (List ℕ)) (x : ℕ) (inside : x < length g) where
  abbrev A : List (Option ℕ)
  A = nowhere (length g)

  size : length A ≡ length g
  size = length-replicate {A = Option ℕ} (length g) None

  alone : (y d : ℕ) → get_distance (set A x (Some 0)) y ≡ Some d → (x ≡ y) × (0 ≡ d)
  alone y d h =
      elim (cases_eq y x) [
        | inl e ↦
            let here = get_or-set_same A x (Some 0) None (omega (arith, size)) in
            let value : Some 0 ≡ Some d = sym here ∙ ap (get_distance (set A x (Some 0))) (sym e) ∙ h in
            let same : 0 ≡ d = cc in
            (sym e, same)
        | inr ne ↦
            let other = get_or-set_other A x y (Some 0) None ne in
            absurd (let clash : None ≡ Some d = sym (nowhere-at (length g) y) ∙ sym other ∙ h in cc)
      ]

  abbrev start : List Reached
  start = reached x 0 ∷ []

  at-start : (i : ℕ) → i < length start → item start i ≡ reached x 0
  at-start zero h = refl
  at-start (suc i) h = absurd (omega arith)

  pub reached-first : IsReaching g (set A x (Some 0)) start 0
  reached-first = record {
    known = length-set A x (Some 0) ∙ size;
    begun = omega arith;
    queued = λ y d h. (let only = alone y d h in (0, omega arith, only.0, only.1));
    reached = λ i l.
        subst (λ q. get_distance (set A x (Some 0)) q.entry ≡ Some q.distance) (sym (at-start i l))
        (get_or-set_same A x (Some 0) None (omega (arith, size)));
    way = λ i l. subst (λ q. leads g q.distance x q.entry ≡ true) (sym (at-start i l)) (leads-here g x);
    rising = λ i j less l. absurd (omega arith);
    near = λ i l m. omega (arith, ap (λ q. q.distance) (at-start i l));
    small = λ i l. omega (arith, ap (λ q. q.distance) (at-start i l));
    followed = λ i y before l k. absurd (omega arith);
    counted = omega (arith, unknown-set A x 0 (omega (arith, size)) (nowhere-at (length g) x), unknown-all (length g));
  }

  pub reaching-first : (s s' : Frontier) → s.distances.items ≡ A → s.queue.items ≡ []
      → ReachesAt (get_distance s.distances.items x) s s' x 0
      → IsReachingWith g s' 0 × ((item s'.queue.items 0).entry ≡ x)
  reaching-first s s' e f r =
      go (subst (λ o. ReachesAt o s s' x 0) (ap (λ m. get_distance m x) e ∙ nowhere-at (length g) x) r)
    where
      go : ReachesAt None s s' x 0 → IsReachingWith g s' 0 × ((item s'.queue.items 0).entry ≡ x)
      go (distances, queue) =
          let queued = queue ∙ ap (λ q. q ++ reached x 0 ∷ []) f in (
            reaching-same g (set A x (Some 0)) s'.distances.items start s'.queue.items 0
                (distances ∙ ap (λ m. set m x (Some 0)) e) queued reached-first,
            ap (λ q. (item q 0).entry) queued,
          )
