-- A search goes on when an edge is passed, and when groups are joined along an edge that leads back.
use Rattle.std.proofs.Common.{◌≡◌, ℕ, ◌+◌, ◌-◌, ◌<◌, ◌≤◌, ◌⊎◌, List, [], ◌∷◌, ◌++◌, length, min, inl, inr, true, Option, Some, None, sym, ap, ◌∙◌, subst, arith}
use Rattle.std.proofs.lemmas.Bool.{cases_lt, cases_eq}
use Rattle.schemas.specs.Guarded.{targets, is_among, IsOnCycle}
use Rattle.schema_laws.proofs.Ways.{is_among-at}
use Rattle.js_guard.specs.declared.search.Mark.{Mark}
use Rattle.js_guard.specs.declared.search.Mark.TheVariants.{New, Open, Done}
use Rattle.js_guard.specs.declared.search.Turn.{Turn}
use Rattle.js_guard.specs.Searching.{mark, at, turn_at, noted, Reaches, Together, IsAtMost, IsPassed, IsAhead, IsTaken, IsJoined, IsSearch}
use Rattle.js_guard.proofs.Pushes.{push-length, push-old, push-new, push-cases}
use Rattle.js_guard.proofs.Turns.{no_turn, Reaches-join, Reaches-edge, on_cycle-target, reach-turn, ahead-cases}

pub noted-keeps : (least : Option ℕ) (x y : ℕ) → IsAtMost least y → IsAtMost (noted least x) y
noted-keeps None x y h = absurd h
noted-keeps (Some l) x y h = omega arith

pub noted-here : (least : Option ℕ) (x : ℕ) → IsAtMost (noted least x) x
noted-here None x = omega arith
noted-here (Some l) x = omega arith

pub noted-is : (least : Option ℕ) (x l : ℕ) → noted least x ≡ Some l → (least ≡ Some l) ⊎ (l ≡ x)
noted-is None x l h = inr (let e : x ≡ l = cc in sym e)
noted-is (Some m) x l h =
    let e : min m x ≡ l = cc in
    elim (cases_lt m x) [
      | inl less ↦ inl (ap Some (omega arith))
      | inr more ↦ inr (omega arith)
    ]

pub noted-some : (least : Option ℕ) (x : ℕ) → noted least x ≡ None → ⊥
noted-some None x h = cc
noted-some (Some l) x h = cc

abbrev pub turn : ℕ → ℕ → Turn
turn p n = record { place = p; next = n }

-- an edge of the entry whose turn it is is passed
module _ (g : List (List ℕ)) (M : List Mark) (S B : List ℕ) (P : List Turn) (done : ℕ) (least : Option ℕ)
    (p n : ℕ) (s : IsSearch g M S B (P ++ turn p n ∷ []) done least)
    (over : IsPassed B least p (at (targets g (at S p)) n) (mark M (at (targets g (at S p)) n))) where
  abbrev Q : List Turn
  Q = P ++ turn p n ∷ []

  abbrev Q' : List Turn
  Q' = P ++ turn p (n + 1) ∷ []

  same_length : length Q' ≡ length Q
  same_length = omega (arith, push-length P (turn p n) no_turn, push-length P (turn p (n + 1)) no_turn)

  same_place : (k : ℕ) → k < length Q' → (turn_at Q' k).place ≡ (turn_at Q k).place
  same_place k h =
      elim (push-cases P (turn p (n + 1)) no_turn k h) [
        | inl l ↦
            ap (λ u. u.place) (push-old P (turn p (n + 1)) no_turn k l)
            ∙ sym (ap (λ u. u.place) (push-old P (turn p n) no_turn k l))
        | inr e ↦
            ap (λ i. (turn_at Q' i).place) e ∙ ap (λ u. u.place) (push-new P (turn p (n + 1)) no_turn)
            ∙ sym (ap (λ i. (turn_at Q i).place) e ∙ ap (λ u. u.place) (push-new P (turn p n) no_turn))
      ]

  ahead : (i e : ℕ) → IsAhead P i e → IsAhead Q' i e
  ahead i e (k, l, q, m) =
      let same = push-old P (turn p (n + 1)) no_turn k l in (
        k,
        omega (arith, push-length P (turn p (n + 1)) no_turn),
        ap (λ u. u.place) same ∙ q,
        subst (λ u. u.next ≤ e) (sym same) m,
      )

  ahead-here : (i e : ℕ) → i ≡ p → n + 1 ≤ e → IsAhead Q' i e
  ahead-here i e f h =
      let same = push-new P (turn p (n + 1)) no_turn in (
        length P,
        omega (arith, push-length P (turn p (n + 1)) no_turn),
        ap (λ u. u.place) same ∙ sym f,
        subst (λ u. u.next ≤ e) (sym same) h,
      )

  abbrev Passes : ℕ → ℕ → Type 0
  Passes i e = IsPassed B least i (at (targets g (at S i)) e) (mark M (at (targets g (at S i)) e))

  past : (i e : ℕ) → i < length S → e < length (targets g (at S i)) → IsTaken g M B Q' least i (at S i) e
  past i e h k =
      elim (s.taken i e h k) as (λ _. IsTaken g M B Q' least i (at S i) e) [
        | inr q ↦ inr q
        | inl a ↦ elim (ahead-cases g M S B P done least (turn p n) s i e a)
            as (λ _. IsTaken g M B Q' least i (at S i) e) [
              | inl b ↦ inl (ahead i e b)
              | inr b ↦ elim (cases_eq e n) as (λ _. IsTaken g M B Q' least i (at S i) e) [
                | inl f ↦ inr (subst (λ j. Passes j e) (sym b.0) (subst (λ j. Passes p j) (sym f) over))
                | inr ne ↦ inl (ahead-here i e b.0 (let after = b.1 in omega arith))
              ]
            ]
      ]

  -- a search in which one more edge of an open entry is passed is a search
  pub stepped : IsSearch g M S B Q' done least
  stepped = record {
    marked = s.marked;
    open_marked = s.open_marked;
    marked_open = s.marked_open;
    first_group = s.first_group;
    groups_within = s.groups_within;
    groups_rise = s.groups_rise;
    reach = s.reach;
    taken = past;
    path_rises = λ k l less h.
        (let below : k < length Q' = omega arith in
        omega (arith, s.path_rises k l less (omega (arith, same_length)), same_place k below, same_place l h));
    path_within = λ k h. omega (arith, s.path_within k (omega (arith, same_length)), same_place k h);
    path_groups = λ k h.
        (let on_path = s.path_groups k h in
        let l : on_path.0 < length Q' = (let below = on_path.1 in omega (arith, same_length)) in
        (on_path.0, l, same_place on_path.0 l ∙ on_path.2));
    done_closed = s.done_closed;
    done_least = s.done_least;
    least_on = s.least_on;
    ranks_below = s.ranks_below;
    counted = s.counted;
  }

-- the edge leads to an open entry, and the groups from its own on are joined
module _ (g : List (List ℕ)) (M : List Mark) (S B B' : List ℕ) (P : List Turn) (done : ℕ) (least : Option ℕ)
    (p n j : ℕ) (s : IsSearch g M S B (P ++ turn p n ∷ []) done least) (edge : n < length (targets g (at S p)))
    (leads_to : mark M (at (targets g (at S p)) n) ≡ Open j) (joins : IsJoined B B' j) where
  abbrev w : ℕ
  w = at (targets g (at S p)) n

  abbrev least' : Option ℕ
  least' = noted least w

  target : is_among w (targets g (at S p)) ≡ true
  target = is_among-at (targets g (at S p)) n edge

  place : (j < length S) × (at S j ≡ w)
  place = s.marked_open w j leads_to

  low_group : (k : ℕ) → k < length B' → at B k ≤ j
  low_group k h =
      let f = joins.fewer in
      elim (cases_lt (k + 1) (length B')) [
        | inl more ↦
            let top = joins.last (length B' - 1) (omega arith) in
            let rise = s.groups_rise k (length B' - 1) (omega arith) (omega arith) in
            omega arith
        | inr end ↦ joins.last k (omega arith)
      ]

  fewer : (i q : ℕ) → Together B q i → Together B' q i
  fewer i q t k h less =
      let f = joins.fewer in
      let old = t k (omega arith) in
      let same = joins.kept k h in
      omega (arith, old (omega arith))

  -- from w back
  from_w : (i q : ℕ) → j < i → q < length S → Together B' q i → Reaches g w (at S q)
  from_w i q after h t =
      subst (λ y. Reaches g y (at S q)) place.1 (s.reach j q place.0 h near)
    where
      near : Together B q j
      near k l less =
          elim (cases_lt k (length B')) [
            | inl a ↦
                let kept = joins.kept k a in
                let low = low_group k a in
                absurd (let late = t k a (omega arith) in omega arith)
            | inr a ↦ joins.past k a l
          ]

  joined-reach : (i q : ℕ) → i < length S → q < length S → Together B' q i → Reaches g (at S i) (at S q)
  joined-reach i q h k t =
      elim (cases_lt j i) [
        | inl after ↦
            Reaches-join g (at S i) w (at S q)
            (Reaches-join g (at S i) (at S p) w (reach-turn g M S B P done least (turn p n) s i h)
            (Reaches-edge g (at S p) w target))
            (from_w i q after k t)
        | inr before ↦ s.reach i q h k (near before)
      ]
    where
      near : i ≤ j → Together B q i
      near before m l less =
          elim (cases_lt m (length B')) [
            | inl a ↦ (let kept = joins.kept m a in let late = t m a (omega arith) in omega arith)
            | inr a ↦ (let late = joins.past m a l in omega arith)
          ]

  joined-passed : (i y : ℕ) (m : Mark) → IsPassed B least i y m → IsPassed B' least' i y m
  joined-passed i y New h = h
  joined-passed i y (Open q) h = (fewer i q h.0, noted-keeps least w y h.1)
  joined-passed i y (Done r) h = h

  joined-past : (i e : ℕ) → i < length S → e < length (targets g (at S i))
      → IsTaken g M B' (P ++ turn p n ∷ []) least' i (at S i) e
  joined-past i e h k =
      elim (s.taken i e h k)
      as (λ _. IsTaken g M B' (P ++ turn p n ∷ []) least' i (at S i) e) [
        | inl a ↦ inl a
        | inr q ↦ inr (joined-passed i (at (targets g (at S i)) e) (mark M (at (targets g (at S i)) e)) q)
      ]

  joined-first : 0 < length S → (0 < length B') × (at B' 0 ≡ 0)
  joined-first h =
      let old = s.first_group h in
      elim (cases_lt 0 (length B')) [
        | inl a ↦ (a, joins.kept 0 a ∙ old.1)
        | inr none ↦ absurd (let late = joins.past 0 none old.0 in let e = old.1 in omega arith)
      ]

  joined-least_on : (l : ℕ) → least' ≡ Some l → IsOnCycle g l
  joined-least_on l h =
      elim (noted-is least w l h) [
        | inl e ↦ s.least_on l e
        | inr e ↦
            subst (IsOnCycle g) (sym e)
            (on_cycle-target g (at S p) w target
            (subst (λ y. Reaches g y (at S p)) place.1 (reach-turn g M S B P done least (turn p n) s j place.0)))
      ]

  -- a search whose groups are joined along an edge back, with its target noted, is a search
  pub joined : IsSearch g M S B' (P ++ turn p n ∷ []) done least'
  joined = record {
    marked = s.marked;
    open_marked = s.open_marked;
    marked_open = s.marked_open;
    first_group = joined-first;
    groups_within = λ k h.
        (let f = joins.fewer in omega (arith, s.groups_within k (omega arith), joins.kept k h));
    groups_rise = λ k l less h.
        (let f = joins.fewer in
        let below : k < length B' = omega arith in
        omega (arith, s.groups_rise k l less (omega arith), joins.kept k below, joins.kept l h));
    reach = joined-reach;
    taken = joined-past;
    path_rises = s.path_rises;
    path_within = s.path_within;
    path_groups = λ k h.
        (let f = joins.fewer in
        let on_path = s.path_groups k (omega arith) in
        (on_path.0, on_path.1, on_path.2 ∙ sym (joins.kept k h)));
    done_closed = λ x y r h k.
        (let old = s.done_closed x y r h k in (old.0, old.1, λ none. absurd (noted-some least w none)));
    done_least = λ x r h c. noted-keeps least w x (s.done_least x r h c);
    least_on = joined-least_on;
    ranks_below = s.ranks_below;
    counted = s.counted;
  }

  pub joined-edge : IsPassed B' least' p w (mark M w)
  joined-edge =
      subst (λ m. IsPassed B' least' p w m) (sym leads_to) (back, noted-here least w)
    where
      back : Together B' j p
      back k h less =
          absurd (let low = low_group k h in let kept = joins.kept k h in omega arith)
