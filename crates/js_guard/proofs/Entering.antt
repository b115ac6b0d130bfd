-- A search goes on when a new entry is entered to which all open ones lead.
use Rattle.std.proofs.Common.{◌≡◌, ℕ, ◌+◌, ◌<◌, ◌≤◌, ◌≢◌, List, [], ◌∷◌, ◌++◌, length, set, inl, inr, true, Option, None, sym, ap, ◌∙◌, subst, arith}
use Rattle.std.proofs.lemmas.List.{length-set, get_or-set_same, get_or-set_other}
use Rattle.std.proofs.lemmas.Bool.{cases_lt, cases_eq}
use Rattle.schemas.specs.Guarded.{targets, is_among, leads}
use Rattle.schema_laws.proofs.Ways.{leads-here}
use Rattle.js_guard.specs.declared.search.Mark.{Mark}
use Rattle.js_guard.specs.declared.search.Mark.TheVariants.{New, Open, Done}
use Rattle.js_guard.specs.declared.search.Turn.{Turn}
use Rattle.js_guard.specs.Searching.{mark, count_new, at, turn_at, Reaches, Together, IsPassed, IsAhead, IsTaken, IsSearch}
use Rattle.js_guard.proofs.Counts.{count_new-fewer}
use Rattle.js_guard.proofs.Turns.{no_turn}
use Rattle.js_guard.proofs.Pushes.{push-length, push-old, push-new, push-cases}

module _ (g : List (List ℕ)) (M : List Mark) (S B : List ℕ) (P : List Turn) (done : ℕ) (least : Option ℕ)
    (x : ℕ) (s : IsSearch g M S B P done least) (inside : x < length g) (new : mark M x ≡ New)
    (to_x : (i : ℕ) → i < length S → Reaches g (at S i) x) where
  abbrev M' : List Mark
  M' = set M x (Open (length S))

  abbrev S' : List ℕ
  S' = S ++ x ∷ []

  abbrev B' : List ℕ
  B' = B ++ length S ∷ []

  abbrev turn : Turn
  turn = record { place = length S; next = 0 }

  abbrev P' : List Turn
  P' = P ++ turn ∷ []

  mark-here : mark M' x ≡ Open (length S)
  mark-here = get_or-set_same M x (Open (length S)) New (let e = s.marked in omega arith)

  mark-other : (y : ℕ) → y ≢ x → mark M' y ≡ mark M y
  mark-other y ne = get_or-set_other M x y (Open (length S)) New ne

  not_x : (y : ℕ) (m : Mark) → mark M y ≡ m → m ≢ New → y ≢ x
  not_x y m e ne same = ne (sym e ∙ ap (mark M) same ∙ new)

  entered-open_marked : (i : ℕ) → i < length S' → mark M' (at S' i) ≡ Open i
  entered-open_marked i h =
      elim (push-cases S x 0 i h) [
        | inl l ↦
            ap (mark M') (push-old S x 0 i l)
            ∙ mark-other (at S i) (not_x (at S i) (Open i) (s.open_marked i l) (λ e. cc)) ∙ s.open_marked i l
        | inr e ↦ ap (λ k. mark M' (at S' k)) e ∙ ap (mark M') (push-new S x 0) ∙ mark-here ∙ ap Open (sym e)
      ]

  entered-marked_open : (y i : ℕ) → mark M' y ≡ Open i → (i < length S') × (at S' i ≡ y)
  entered-marked_open y i h =
      elim (cases_eq y x) [
        | inl e ↦
            let same : Open (length S) ≡ Open i = sym mark-here ∙ ap (mark M') (sym e) ∙ h in
            let place : length S ≡ i = cc in
            (omega (arith, push-length S x 0), ap (at S') (sym place) ∙ push-new S x 0 ∙ sym e)
        | inr ne ↦
            let old = s.marked_open y i (sym (mark-other y ne) ∙ h) in
            let l = old.0 in
            (omega (arith, push-length S x 0), push-old S x 0 i l ∙ old.1)
      ]

  entered-first_group : 0 < length S' → (0 < length B') × (at B' 0 ≡ 0)
  entered-first_group h =
      let longer : 0 < length B' = omega (arith, push-length B (length S) 0) in
      elim (cases_lt 0 (length S)) [
        | inl l ↦
            let old = s.first_group l in
            (longer, push-old B (length S) 0 0 old.0 ∙ old.1)
        | inr none ↦
            elim (cases_lt 0 (length B)) [
              | inl l ↦ absurd (let w = s.groups_within 0 l in omega arith)
              | inr l ↦
                  let empty : length B ≡ 0 = omega arith in
                  let zero_open : length S ≡ 0 = omega arith in
                  (longer, ap (at B') (sym empty) ∙ push-new B (length S) 0 ∙ zero_open)
            ]
      ]

  entered-groups_within : (k : ℕ) → k < length B' → at B' k < length S'
  entered-groups_within k h =
      elim (push-cases B (length S) 0 k h) [
        | inl l ↦
            let old = s.groups_within k l in
            omega (arith, push-old B (length S) 0 k l, push-length S x 0)
        | inr e ↦ omega (arith, ap (at B') e, push-new B (length S) 0, push-length S x 0)
      ]

  entered-groups_rise : (k l : ℕ) → k < l → l < length B' → at B' k < at B' l
  entered-groups_rise k l less h =
      elim (push-cases B (length S) 0 l h) [
        | inl m ↦
            let old = s.groups_rise k l less m in
            let below : k < length B = omega arith in
            omega (arith, push-old B (length S) 0 k below, push-old B (length S) 0 l m)
        | inr e ↦
            let below : k < length B = omega arith in
            let old = s.groups_within k below in
            omega (arith, push-old B (length S) 0 k below, ap (at B') e, push-new B (length S) 0)
      ]

  together-old : (j i : ℕ) → Together B' j i → Together B j i
  together-old j i t k h =
      let longer : k < length B' = omega (arith, push-length B (length S) 0) in
      let now = t k longer in
      λ less. (let old = push-old B (length S) 0 k h in omega (arith, now (omega arith)))

  together-new : (j i : ℕ) → i < length S → Together B j i → Together B' j i
  together-new j i inside t k h less =
      elim (push-cases B (length S) 0 k h) [
        | inl l ↦
            let same = push-old B (length S) 0 k l in
            let old = t k l (omega arith) in
            omega arith
        | inr e ↦ omega (arith, ap (at B') e, push-new B (length S) 0)
      ]

  entered-reach : (i j : ℕ) → i < length S' → j < length S' → Together B' j i → Reaches g (at S' i) (at S' j)
  entered-reach i j h k t =
      elim (push-cases S x 0 i h) [
        | inl a ↦ elim (push-cases S x 0 j k) [
          | inl b ↦
              let old = s.reach i j a b (together-old j i t) in (
                old.0,
                subst (λ y. leads g old.0 y (at S' j) ≡ true) (sym (push-old S x 0 i a))
                    (subst (λ y. leads g old.0 (at S i) y ≡ true) (sym (push-old S x 0 j b)) old.1),
              )
          | inr e ↦
              let way = to_x i a in (
                way.0,
                subst (λ y. leads g way.0 y (at S' j) ≡ true) (sym (push-old S x 0 i a))
                    (subst (λ y. leads g way.0 (at S i) y ≡ true) (sym (ap (at S') e ∙ push-new S x 0)) way.1),
              )
        ]
        | inr e ↦ elim (push-cases S x 0 j k) [
          | inl b ↦
              let last : length B < length B' = omega (arith, push-length B (length S) 0) in
              let apart = t (length B) last (omega (arith, push-new B (length S) 0)) in
              absurd (omega (arith, push-new B (length S) 0))
          | inr f ↦
              (0, subst (λ y. leads g 0 (at S' i) y ≡ true) (ap (at S') (e ∙ sym f)) (leads-here g (at S' i)))
        ]
      ]

  ahead-old : (i e : ℕ) → IsAhead P i e → IsAhead P' i e
  ahead-old i e (k, l, p, n) =
      let same = push-old P turn no_turn k l in (
        k,
        omega (arith, push-length P turn no_turn),
        ap (λ t. t.place) same ∙ p,
        subst (λ t. t.next ≤ e) (sym same) n,
      )

  passed-old : (i w : ℕ) → i < length S → IsPassed B least i w (mark M w) → IsPassed B' least i w (mark M' w)
  passed-old i w inside h =
      elim (cases_eq w x) [
        | inl e ↦ absurd (subst (λ m. IsPassed B least i w m) (ap (mark M) e ∙ new) h)
        | inr ne ↦
            subst (λ m. IsPassed B' least i w m) (sym (mark-other w ne)) (go (mark M w) h)
      ]
    where
      go : (m : Mark) → IsPassed B least i w m → IsPassed B' least i w m
      go New h = h
      go (Open j) h = (together-new j i inside h.0, h.1)
      go (Done r) h = h

  entered-taken : (i e : ℕ) → i < length S' → e < length (targets g (at S' i))
      → IsTaken g M' B' P' least i (at S' i) e
  entered-taken i e h k =
      elim (push-cases S x 0 i h) [
        | inl l ↦
            let same = push-old S x 0 i l in
            subst (λ y. IsTaken g M' B' P' least i y e) (sym same)
            (elim (s.taken i e l (subst (λ y. e < length (targets g y)) same k))
            as (λ _. IsTaken g M' B' P' least i (at S i) e) [
              | inl a ↦ inl (ahead-old i e a)
              | inr p ↦ inr (passed-old i (at (targets g (at S i)) e) l p)
            ])
        | inr f ↦
            let same = push-new P turn no_turn in
            inl (
              length P,
              omega (arith, push-length P turn no_turn),
              ap (λ t. t.place) same ∙ sym f,
              subst (λ t. t.next ≤ e) (sym same) (omega arith),
            )
      ]

  entered-path_rises : (k l : ℕ) → k < l → l < length P' → (turn_at P' k).place < (turn_at P' l).place
  entered-path_rises k l less h =
      let below : k < length P = omega (arith, push-length P turn no_turn) in
      let first = ap (λ t. t.place) (push-old P turn no_turn k below) in
      elim (push-cases P turn no_turn l h) [
        | inl m ↦ omega (arith, s.path_rises k l less m, first, ap (λ t. t.place) (push-old P turn no_turn l m))
        | inr e ↦
            omega (
              arith,
              s.path_within k below,
              first,
              ap (λ i. (turn_at P' i).place) e,
              ap (λ t. t.place) (push-new P turn no_turn),
            )
      ]

  entered-path_within : (k : ℕ) → k < length P' → (turn_at P' k).place < length S'
  entered-path_within k h =
      elim (push-cases P turn no_turn k h) [
        | inl l ↦
            omega (arith, s.path_within k l, ap (λ t. t.place) (push-old P turn no_turn k l), push-length S x 0)
        | inr e ↦
            omega (
              arith,
              ap (λ i. (turn_at P' i).place) e,
              ap (λ t. t.place) (push-new P turn no_turn),
              push-length S x 0,
            )
      ]

  entered-path_groups : (k : ℕ) → k < length B' → (l : ℕ) × (l < length P') × ((turn_at P' l).place ≡ at B' k)
  entered-path_groups k h =
      elim (push-cases B (length S) 0 k h) [
        | inl m ↦
            let old = s.path_groups k m in
            let l = old.1 in (
              old.0,
              omega (arith, push-length P turn no_turn),
              ap (λ t. t.place) (push-old P turn no_turn old.0 l) ∙ old.2 ∙ sym (push-old B (length S) 0 k m),
            )
        | inr e ↦ (
          length P,
          omega (arith, push-length P turn no_turn),
          ap (λ t. t.place) (push-new P turn no_turn) ∙ sym (ap (at B') e ∙ push-new B (length S) 0),
        )
      ]

  was_done : (y r : ℕ) → mark M' y ≡ Done r → mark M y ≡ Done r
  was_done y r h =
      elim (cases_eq y x) [
        | inl e ↦ absurd (let clash : Open (length S) ≡ Done r = sym mark-here ∙ ap (mark M') (sym e) ∙ h in cc)
        | inr ne ↦ sym (mark-other y ne) ∙ h
      ]

  still_done : (y r : ℕ) → mark M y ≡ Done r → mark M' y ≡ Done r
  still_done y r h = mark-other y (not_x y (Done r) h (λ e. cc)) ∙ h

  entered-done_closed : (y z r : ℕ) → mark M' y ≡ Done r → is_among z (targets g y) ≡ true
      → (q : ℕ) × (mark M' z ≡ Done q) × (least ≡ None → q < r)
  entered-done_closed y z r h k =
      let old = s.done_closed y z r (was_done y r h) k in (old.0, still_done z old.0 old.1, old.2)

  -- one new entry less
  pub entered-fewer : count_new M' + 1 ≡ count_new M
  entered-fewer = count_new-fewer M x (length S) (let e = s.marked in omega arith) new

  entered-counted : count_new M' + length S' + done ≡ length g
  entered-counted = let old = s.counted in omega (arith, entered-fewer, push-length S x 0)

  pub entered : IsSearch g M' S' B' P' done least
  entered = record {
    marked = length-set M x (Open (length S)) ∙ s.marked;
    open_marked = entered-open_marked;
    marked_open = entered-marked_open;
    first_group = entered-first_group;
    groups_within = entered-groups_within;
    groups_rise = entered-groups_rise;
    reach = entered-reach;
    taken = entered-taken;
    path_rises = entered-path_rises;
    path_within = entered-path_within;
    path_groups = entered-path_groups;
    done_closed = entered-done_closed;
    done_least = λ y r h. s.done_least y r (was_done y r h);
    least_on = s.least_on;
    ranks_below = λ y r h. s.ranks_below y r (was_done y r h);
    counted = entered-counted;
  }

  -- what is new was new before
  pub entered-keeps : (y : ℕ) → mark M' y ≡ New → mark M y ≡ New
  entered-keeps y h =
      elim (cases_eq y x) [
        | inl e ↦ ap (mark M) e ∙ new
        | inr ne ↦ sym (mark-other y ne) ∙ h
      ]
