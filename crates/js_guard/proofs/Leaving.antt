-- A search goes on when all edges of an entry are passed, and its group is done where it begins there.
use Rattle.std.proofs.Common.{◌≡◌, ℕ, zero, suc, ◌+◌, ◌-◌, ◌<◌, ◌≤◌, ◌≢◌, List, [], ◌∷◌, ◌++◌, length, take, inl, inr, true, false, Option, Some, None, refl, sym, ap, ◌∙◌, subst, arith, true≢false}
use Rattle.std.proofs.lemmas.Bool.{cases_lt, cases_eq, cases_Bool}
use Rattle.std.proofs.lemmas.List.{length-take-le, get_or-take}
use Rattle.schemas.specs.Guarded.{targets, is_among, leads, IsOnCycle}
use Rattle.schema_laws.proofs.Ways.{place_among, off_cycle, leads-join, leads-same}
use Rattle.js_guard.specs.declared.search.Mark.{Mark}
use Rattle.js_guard.specs.declared.search.Mark.TheVariants.{New, Open, Done}
use Rattle.js_guard.specs.declared.search.Turn.{Turn}
use Rattle.js_guard.specs.Searching.{mark, is_new, count_new, at, Reaches, Together, IsAtMost, IsPassed, IsTaken, IsSearch}
use Rattle.js_guard.specs.Steps.{IsClosed, EndsIn}
use Rattle.js_guard.proofs.Turns.{turn-within, path-before, groups-before, reach-after, ahead-cases, path_rises-before, path_groups-before}

-- a way between two different entries has an edge, so a way there and back is a cycle
there_and_back : (g : List (List ℕ)) (x y : ℕ) → x ≢ y → Reaches g x y → Reaches g y x → IsOnCycle g x
there_and_back g x y other (zero, h) back = absurd (other (leads-same g x y h))
there_and_back g x y other (suc m, h) (n, k) = (m + n, leads-join g (suc m) n (suc (m + n)) x y x (omega arith) h k)

module _ (g : List (List ℕ)) (M : List Mark) (S B : List ℕ) (P : List Turn) (done : ℕ) (least : Option ℕ)
    (t : Turn) (s : IsSearch g M S B (P ++ t ∷ []) done least)
    (over : length (targets g (at S t.place)) ≤ t.next) where
  -- every edge of an open entry is passed, but for those of the path
  now_taken : (i e : ℕ) → i < length S → e < length (targets g (at S i))
      → IsTaken g M B P least i (at S i) e
  now_taken i e h k =
      elim (s.taken i e h k)
      as (λ _. IsTaken g M B P least i (at S i) e) [
        | inr q ↦ inr q
        | inl a ↦ elim (ahead-cases g M S B P done least t s i e a)
            as (λ _. IsTaken g M B P least i (at S i) e) [
              | inl b ↦ inl b
              | inr b ↦
                  let short : length (targets g (at S i)) ≤ t.next =
                  subst (λ j. length (targets g (at S j)) ≤ t.next) (sym b.0) over in
                  let late = b.1 in
                  absurd (omega arith)
            ]
      ]

  -- no group begins at the entry
  pub left : (EndsIn B t.place → ⊥) → IsSearch g M S B P done least
  left inner = record {
    marked = s.marked;
    open_marked = s.open_marked;
    marked_open = s.marked_open;
    first_group = s.first_group;
    groups_within = s.groups_within;
    groups_rise = s.groups_rise;
    reach = s.reach;
    taken = now_taken;
    path_rises = path_rises-before g M S B P done least t s;
    path_within = λ k h.
        (let before = path-before g M S B P done least t s k h in
        let inside = turn-within g M S B P done least t s in
        omega arith);
    path_groups = λ k h. path_groups-before g M S B P done least t s k h (not_here k h);
    done_closed = s.done_closed;
    done_least = s.done_least;
    least_on = s.least_on;
    ranks_below = s.ranks_below;
    counted = s.counted;
  }
    where
      not_here : (k : ℕ) → k < length B → at B k ≡ t.place → ⊥
      not_here k h e =
          elim (cases_lt (k + 1) (length B)) [
            | inl more ↦
                let rise = s.groups_rise k (k + 1) (omega arith) more in
                let low = groups-before g M S B P done least t s (k + 1) more in
                omega arith
            | inr last ↦ inner (k, omega arith, e)
          ]

  module _ (M' : List Mark) (S' B' : List ℕ) (done' : ℕ) (least' : Option ℕ) (end : EndsIn B t.place)
      (groups : B' ≡ take (length B - 1) B) (opened : S' ≡ take t.place S)
      (c : IsClosed M S done least M' done' least' t.place (length S)) where
    abbrev p : ℕ
    p = t.place

    inside : p < length S
    inside = turn-within g M S B P done least t s

    abbrev k : ℕ
    k = end.0

    size-groups : length B' ≡ k
    size-groups =
        let e = end.1 in
        ap length groups ∙ length-take-le (length B - 1) B (omega arith) ∙ omega arith

    group-old : (i : ℕ) → i < length B' → at B' i ≡ at B i
    group-old i h =
        let e = end.1 in
        let below : i < length B - 1 = omega (arith, size-groups) in
        ap (λ l. at l i) groups ∙ get_or-take (length B - 1) B i 0 below

    group-before : (i : ℕ) → i < length B' → at B i < p
    group-before i h =
        let e = end.1 in
        let f = end.2 in
        omega (arith, s.groups_rise i k (omega (arith, size-groups)) (omega arith))

    size-open : length S' ≡ p
    size-open = ap length opened ∙ length-take-le p S (omega (arith, inside))

    open-old : (i : ℕ) → i < p → at S' i ≡ at S i
    open-old i h = ap (λ l. at l i) opened ∙ get_or-take p S i 0 h

    -- an entry that isn't closed has its mark still
    was_open : (x i : ℕ) → mark M' x ≡ Open i → mark M x ≡ Open i
    was_open x i h =
        elim (c.others x) [
          | inl e ↦ sym e ∙ h
          | inr (j, low, high, e) ↦
              let closed = c.closed j low high in
              absurd (let clash : Done closed.0 ≡ Open i = sym closed.1 ∙ ap (mark M') e ∙ h in cc)
        ]

    still_open : (i : ℕ) → i < p → mark M' (at S i) ≡ Open i
    still_open i h =
        elim (c.others (at S i)) [
          | inl e ↦ e ∙ s.open_marked i (omega (arith, inside))
          | inr (j, low, high, e) ↦
              let same : Open j ≡ Open i =
              sym (s.open_marked j high) ∙ ap (mark M) e ∙ s.open_marked i (omega (arith, inside)) in
              let place : j ≡ i = cc in
              absurd (omega arith)
        ]

    closed-marked_open : (x i : ℕ) → mark M' x ≡ Open i → (i < length S') × (at S' i ≡ x)
    closed-marked_open x i h =
        let old = s.marked_open x i (was_open x i h) in
        elim (cases_lt i p) [
          | inl low ↦ (omega (arith, size-open), open-old i low ∙ old.1)
          | inr high ↦
              let closed = c.closed i high old.0 in
              absurd (let clash : Done closed.0 ≡ Open i = sym closed.1 ∙ ap (mark M') old.1 ∙ h in cc)
        ]

    closed-first_group : 0 < length S' → (0 < length B') × (at B' 0 ≡ 0)
    closed-first_group h =
        let old = s.first_group (omega (arith, inside)) in
        let e = end.1 in
        let f = end.2 in
        elim (cases_eq k 0) [
          | inl zero_k ↦
              let only : at B 0 ≡ p = ap (at B) (sym zero_k) ∙ f in
              absurd (let first = old.1 in omega (arith, size-open))
          | inr more ↦
              let some : 0 < length B' = omega (arith, size-groups) in
              (some, group-old 0 some ∙ old.1)
        ]

    together-more : (j i : ℕ) → i < p → Together B' j i → Together B j i
    together-more j i low near l h less =
        let e = end.1 in
        let f = end.2 in
        elim (cases_lt l k) [
          | inl before ↦
              let m : l < length B' = omega (arith, size-groups) in
              let same = group-old l m in
              (let late = near l m (omega arith) in omega arith)
          | inr last ↦
              let same : l ≡ k = omega arith in
              (let here = ap (at B) same in omega arith)
        ]

    together-fewer : (j i : ℕ) → Together B j i → Together B' j i
    together-fewer j i near l h less =
        let e = end.1 in
        let same = group-old l h in
        (let late = near l (omega (arith, size-groups)) (omega arith) in omega arith)

    closed-reach : (i j : ℕ) → i < length S' → j < length S' → Together B' j i → Reaches g (at S' i) (at S' j)
    closed-reach i j h l near =
        let low : i < p = omega (arith, size-open) in
        let low_j : j < p = omega (arith, size-open) in
        let old = s.reach i j (omega (arith, inside)) (omega (arith, inside)) (together-more j i low near) in (
          old.0,
          subst (λ y. leads g old.0 y (at S' j) ≡ true) (sym (open-old i low))
              (subst (λ y. leads g old.0 (at S i) y ≡ true) (sym (open-old j low_j)) old.1),
        )

    keep_passed : (i y : ℕ) → IsPassed B least i y (mark M y) → IsPassed B' least' i y (mark M' y)
    keep_passed i y h =
        elim (c.others y) [
          | inl e ↦ subst (λ m. IsPassed B' least' i y m) (sym e) (go (mark M y) h)
          | inr (j, low, high, e) ↦
              let closed = c.closed j low high in
              subst (λ m. IsPassed B' least' i y m) (sym (ap (mark M') (sym e) ∙ closed.1)) tt
        ]
      where
        go : (m : Mark) → IsPassed B least i y m → IsPassed B' least' i y m
        go New q = q
        go (Open j) q = (together-fewer j i q.0, c.least_kept y q.1)
        go (Done r) q = q

    closed-taken : (i e : ℕ) → i < length S' → e < length (targets g (at S' i))
        → IsTaken g M' B' P least' i (at S' i) e
    closed-taken i e h l =
        let low : i < p = omega (arith, size-open) in
        let same = open-old i low in
        subst
        (λ y. IsTaken g M' B' P least' i y e) (sym same)
        (elim (now_taken i e (omega (arith, inside)) (subst (λ y. e < length (targets g y)) same l))
        as (λ _. IsTaken g M' B' P least' i (at S i) e) [
          | inl a ↦ inl a
          | inr q ↦ inr (keep_passed i (at (targets g (at S i)) e) q)
        ])

    -- where an edge of a closed entry leads
    edge-passed : (i y : ℕ) → p ≤ i → i < length S → is_among y (targets g (at S i)) ≡ true
        → IsPassed B least i y (mark M y)
    edge-passed i y low high h =
        let found = place_among y (targets g (at S i)) h in
        let e = found.0 in
        elim (now_taken i e high found.1) [
          | inl (l, m, place, n) ↦
              absurd (let before = path-before g M S B P done least t s l m in omega arith)
          | inr q ↦ subst (λ z. IsPassed B least i z (mark M z)) found.2 q
        ]

    not_none : (x : ℕ) → IsAtMost least' x → least' ≡ None → ⊥
    not_none x h none = subst (λ o. IsAtMost o x) none h

    was_none : least' ≡ None → least ≡ None
    was_none none = go least refl
      where
        go : (o : Option ℕ) → least ≡ o → least ≡ None
        go None e = e
        go (Some l) e =
            absurd (not_none l (c.least_kept l (subst (λ o. IsAtMost o l) (sym e) (omega arith))) none)

    -- the entry to which an edge of a closed one leads is done too
    target_done : (i y r : ℕ) → done ≤ r → (m : Mark) → mark M y ≡ m → p ≤ i → i < length S → IsPassed B least i y m
        → (q : ℕ) × (mark M' y ≡ Done q) × (least' ≡ None → q < r)
    target_done i y r late New e low high h = absurd h
    target_done i y r late (Open j) e low high h =
        let place = s.marked_open y j e in
        let f = end.1 in
        let last = end.2 in
        let after : p ≤ j =
        elim (cases_lt j p) [
          | inl before ↦ absurd (let apart = h.0 k (omega arith) (omega arith) in omega arith)
          | inr l ↦ l
        ] in
        let closed = c.closed j after place.0 in
        (closed.0, ap (mark M') (sym place.1) ∙ closed.1, λ none. absurd (not_none y (c.least_kept y h.1) none))
    target_done i y r late (Done q) e low high h =
        elim (c.others y) [
          | inl same ↦ (q, same ∙ e, λ none. (let before = s.ranks_below y q e in omega arith))
          | inr (j, below, above, f) ↦
              absurd (let clash : Open j ≡ Done q = sym (s.open_marked j above) ∙ ap (mark M) f ∙ e in cc)
        ]

    closed-done_closed : (x y r : ℕ) → mark M' x ≡ Done r → is_among y (targets g x) ≡ true
        → (q : ℕ) × (mark M' y ≡ Done q) × (least' ≡ None → q < r)
    closed-done_closed x y r h l =
        elim (c.others x) [
          | inl same ↦
              let old = s.done_closed x y r (sym same ∙ h) l in
              elim (c.others y) [
                | inl e ↦ (old.0, e ∙ old.1, λ none. old.2 (was_none none))
                | inr (j, low, high, f) ↦
                    absurd (let clash : Open j ≡ Done old.0 = sym (s.open_marked j high) ∙ ap (mark M) f ∙ old.1 in cc)
              ]
          | inr (i, low, high, e) ↦
              let closed = c.closed i low high in
              let same : Done closed.0 ≡ Done r = sym closed.1 ∙ ap (mark M') e ∙ h in
              let rank : closed.0 ≡ r = cc in
              let late : done ≤ r = (let old = closed.2 in omega arith) in
              target_done i y r late (mark M y) refl low high
              (edge-passed i y low high (subst (λ z. is_among y (targets g z) ≡ true) (sym e) l))
        ]

    -- a single entry that no edge leads back to isn't on a cycle
    single : (y : ℕ) (m : Mark) → mark M y ≡ m → p + 1 ≡ length S → (at S p ≡ y → ⊥) → IsPassed B least p y m
        → (q : ℕ) × (mark M y ≡ Done q)
    single y New e one other h = absurd h
    single y (Open j) e one other h =
        let place = s.marked_open y j e in
        let f = end.1 in
        let last = end.2 in
        let l = place.0 in
        elim (cases_lt j p) [
          | inl before ↦ absurd (let apart = h.0 k (omega arith) (omega arith) in omega arith)
          | inr after ↦
              let same : j ≡ p = omega arith in
              absurd (other (ap (at S) (sym same) ∙ place.1))
        ]
    single y (Done q) e one other h = (q, e)

    off : p + 1 ≡ length S → is_among (at S p) (targets g (at S p)) ≡ false → IsOnCycle g (at S p) → ⊥
    off one no_edge =
        off_cycle g (λ y. (q : ℕ) × (mark M y ≡ Done q))
        (λ x y h l. (let old = s.done_closed x y h.0 h.1 l in (old.0, old.1)))
        (at S p)
        (λ y l. single y (mark M y) refl one (λ e. other y l e) (edge-passed p y (omega arith) inside l))
        (λ h. (let clash : Open p ≡ Done h.0 = sym (s.open_marked p inside) ∙ h.1 in cc))
      where
        other : (y : ℕ) → is_among y (targets g (at S p)) ≡ true → at S p ≡ y → ⊥
        other y l e =
            true≢false (sym (subst (λ z. is_among z (targets g (at S p)) ≡ true) (sym e) l) ∙ no_edge)

    -- an edge back to the entry itself is noted
    own_edge : (m : Mark) → mark M (at S p) ≡ m → IsPassed B least p (at S p) m → IsAtMost least (at S p)
    own_edge New e h = absurd h
    own_edge (Open j) e h = h.1
    own_edge (Done q) e h =
        absurd (let clash : Open p ≡ Done q = sym (s.open_marked p inside) ∙ e in cc)

    closed-done_least : (x r : ℕ) → mark M' x ≡ Done r → IsOnCycle g x → IsAtMost least' x
    closed-done_least x r h cyclic =
        elim (c.others x) [
          | inl same ↦ c.least_kept x (s.done_least x r (sym same ∙ h) cyclic)
          | inr (i, low, high, e) ↦ elim (cases_lt (p + 1) (length S)) [
            | inl several ↦ subst (IsAtMost least') e (c.noted_all i low high several)
            | inr few ↦
                let one : p + 1 ≡ length S = omega arith in
                let here : i ≡ p = omega arith in
                let top : at S p ≡ x = ap (at S) (sym here) ∙ e in
                subst (IsAtMost least') top (elim (cases_Bool (is_among (at S p) (targets g (at S p)))) [
                  | inl edge ↦
                      c.least_kept (at S p)
                      (own_edge (mark M (at S p)) refl (edge-passed p (at S p) (omega arith) inside edge))
                  | inr no_edge ↦ absurd (off one no_edge (subst (IsOnCycle g) (sym top) cyclic))
                ])
          ]
        ]

    apart : (i j : ℕ) → i < length S → j < length S → i ≢ j → at S i ≢ at S j
    apart i j h l other e =
        let same : Open i ≡ Open j = sym (s.open_marked i h) ∙ ap (mark M) e ∙ s.open_marked j l in
        let place : i ≡ j = cc in
        other place

    -- another place of a group that has several
    with_other : (i j : ℕ) → p ≤ i → i < length S → p ≤ j → j < length S → i ≢ j → IsOnCycle g (at S i)
    with_other i j low high low_j high_j other =
        there_and_back g (at S i) (at S j) (apart i j high high_j other)
        (reach-after g M S B P done least t s i j high high_j low_j)
        (reach-after g M S B P done least t s j i high_j high low)

    closed-least_on : (l : ℕ) → least' ≡ Some l → IsOnCycle g l
    closed-least_on l h =
        elim (c.noted_only l h) [
          | inl e ↦ s.least_on l e
          | inr (several, i, low, high, e) ↦
              subst (IsOnCycle g) e (elim (cases_eq i p) [
                | inl here ↦ with_other i (p + 1) low high (omega arith) several (λ f. omega (arith, f))
                | inr other ↦ with_other i p low high (omega arith) inside other
              ])
        ]

    closed-ranks_below : (x r : ℕ) → mark M' x ≡ Done r → r < done'
    closed-ranks_below x r h =
        elim (c.others x) [
          | inl same ↦ (let old = s.ranks_below x r (sym same ∙ h) in omega (arith, c.more_done))
          | inr (i, low, high, e) ↦
              let closed = c.closed i low high in
              let same : Done closed.0 ≡ Done r = sym closed.1 ∙ ap (mark M') e ∙ h in
              let rank : closed.0 ≡ r = cc in
              (let below = closed.3 in omega arith)
        ]

    closed-counted : count_new M' + length S' + done' ≡ length g
    closed-counted =
        let same = c.counted (λ i low high. ap is_new (s.open_marked i high)) in
        let old = s.counted in
        omega (arith, size-open, c.more_done, inside)

    pub closed : IsSearch g M' S' B' P done' least'
    closed = record {
      marked = c.marked ∙ s.marked;
      open_marked = λ i h.
          (let low : i < p = omega (arith, size-open) in ap (mark M') (open-old i low) ∙ still_open i low);
      marked_open = closed-marked_open;
      first_group = closed-first_group;
      groups_within = λ i h. omega (arith, group-old i h, group-before i h, size-open);
      groups_rise = λ i j less h.
          (let below : i < length B' = omega arith in
          let e = end.1 in
          omega (arith, group-old i below, group-old j h, s.groups_rise i j less (omega (arith, size-groups))));
      reach = closed-reach;
      taken = closed-taken;
      path_rises = path_rises-before g M S B P done least t s;
      path_within = λ i h. omega (arith, path-before g M S B P done least t s i h, size-open);
      path_groups = λ i h.
          (let e = end.1 in
          let on_path = path_groups-before g M S B P done least t s i (omega (arith, size-groups))
          (λ f. omega (arith, group-before i h, f)) in
          (on_path.0, on_path.1, on_path.2 ∙ sym (group-old i h)));
      done_closed = closed-done_closed;
      done_least = closed-done_least;
      least_on = closed-least_on;
      ranks_below = closed-ranks_below;
      counted = closed-counted;
    }
