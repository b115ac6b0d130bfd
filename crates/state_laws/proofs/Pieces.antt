-- Matches without an end assertion, and pieces of a repeated tree.
use Rattle.std.proofs.lemmas.Bool.{cases_eq}
use Rattle.std.proofs.Common.{◌≡◌, ℕ, zero, suc, ◌<◌, ◌≤◌, ◌⊎◌, inl, inr, IsTrue, List, ◌++◌, length, slice_index, flat_map, None, refl, sym, subst, arith}
use Rattle.patterns.specs.CharSet.{has}
use Rattle.patterns.specs.Tree.{Tree, Trees, empty, one_of, at_start, at_end, in_turn, either, repeated, no_trees, tree}
use Rattle.patterns.specs.Match.{Repeats, Matches, MatchesInTurn, MatchesOne}
use Rattle.patterns.specs.Decision.{ends}
use Rattle.list_laws.proofs.Lists.{in_left, in_right, from_append, in_flat_map, from_flat_map}
use Rattle.list_laws.specs.In.{IsIn}
use Rattle.pattern_laws.proofs.Decides.{sound, complete}
use Rattle.word_states.specs.PatternState.{without_end, all_without_end}
use Rattle.state_laws.specs.Flow.{is_among}
use Rattle.state_laws.proofs.Places.{Fits, Same, same_among, below, in_below, from_below}

-- a step that goes nowhere back
abbrev Rises : (ℕ → ℕ → Type 0) → Type 0
Rises R = (i j : ℕ) → R i j → i ≤ j

repeats_rise : (R : ℕ → ℕ → Type 0) → Rises R → (k i j : ℕ) → Repeats R k i j → i ≤ j
repeats_rise R f zero i j e = omega (arith, e)
repeats_rise R f (suc k) i j (h, r, t) = omega (arith, f i h r, repeats_rise R f k h j t)

mutual
  pub rises : (r : Tree) (w : List ℕ) → Rises (Matches r w)
  rises empty w i j e = omega (arith, e)
  rises (one_of s) w i j (e, b, c) = omega (arith, e)
  rises at_start w i j (a, b) = omega (arith, a)
  rises at_end w i j (a, b) = omega (arith, a, b)
  rises (in_turn rs) w i j m = rises_in_turn rs w i j m
  rises (either rs) w i j m = rises_of_one rs w i j m
  rises (repeated r n m) w i j (k, a, b, t) = repeats_rise (Matches r w) (rises r w) k i j t

  rises_in_turn : (rs : Trees) (w : List ℕ) → Rises (MatchesInTurn rs w)
  rises_in_turn no_trees w i j e = omega (arith, e)
  rises_in_turn (tree r rs) w i j (h, m, t) = omega (arith, rises r w i h m, rises_in_turn rs w h j t)

  rises_of_one : (rs : Trees) (w : List ℕ) → Rises (MatchesOne rs w)
  rises_of_one no_trees w i j m = absurd m
  rises_of_one (tree r rs) w i j (inl m) = rises r w i j m
  rises_of_one (tree r rs) w i j (inr m) = rises_of_one rs w i j m

-- steps that agree up to a place below n repeat alike up to there
pub repeats_same : (R Q : ℕ → ℕ → Type 0) (n : ℕ) → Rises R → ((i j : ℕ) → j < n → R i j → Q i j) → (k i j : ℕ) → j < n
    → Repeats R k i j → Repeats Q k i j
repeats_same R Q n f g zero i j l e = e
repeats_same R Q n f g (suc k) i j l (h, r, t) =
    (h, g i h (omega (arith, repeats_rise R f k h j t)) r, repeats_same R Q n f g k h j l t)

-- Two words that agree below n, where the first ends no earlier, and the second not long before: the matches of the
-- first that end below n are those of the second that use no end assertion.
module _ (v w : List ℕ) (n : ℕ) (ends_late : n ≤ length v) (is_long : n ≤ suc (length w))
    (agree : (i : ℕ) → suc i < n → slice_index v i ≡ slice_index w i) where
  mutual
    pub opened : (r : Tree) (i j : ℕ) → j < n → Matches r v i j → Matches (without_end r) w i j
    opened empty i j l e = e
    opened (one_of s) i j l (e, b, c) =
        (e, omega (arith, e, is_long), subst (λ x. IsTrue (has s x)) (agree i (omega (arith, e))) c)
    opened at_start i j l m = m
    opened at_end i j l (a, b) = absurd (omega (arith, b, ends_late))
    opened (in_turn rs) i j l m = opened_in_turn rs i j l m
    opened (either rs) i j l m = opened_of_one rs i j l m
    opened (repeated r low high) i j l (k, a, b, t) =
        (k, a, b, repeats_same (Matches r v) (Matches (without_end r) w) n (rises r v) (opened r) k i j l t)

    opened_in_turn : (rs : Trees) (i j : ℕ) → j < n → MatchesInTurn rs v i j
        → MatchesInTurn (all_without_end rs) w i j
    opened_in_turn no_trees i j l e = e
    opened_in_turn (tree r rs) i j l (h, m, t) =
        (h, opened r i h (omega (arith, rises_in_turn rs v h j t)) m, opened_in_turn rs h j l t)

    opened_of_one : (rs : Trees) (i j : ℕ) → j < n → MatchesOne rs v i j → MatchesOne (all_without_end rs) w i j
    opened_of_one no_trees i j l m = absurd m
    opened_of_one (tree r rs) i j l (inl m) = inl (opened r i j l m)
    opened_of_one (tree r rs) i j l (inr m) = inr (opened_of_one rs i j l m)

  mutual
    pub closed : (r : Tree) (i j : ℕ) → j < n → Matches (without_end r) w i j → Matches r v i j
    closed empty i j l e = e
    closed (one_of s) i j l (e, b, c) =
        (e, omega (arith, e, ends_late), subst (λ x. IsTrue (has s x)) (sym (agree i (omega (arith, e)))) c)
    closed at_start i j l m = m
    closed at_end i j l m = absurd m
    closed (in_turn rs) i j l m = closed_in_turn rs i j l m
    closed (either rs) i j l m = closed_of_one rs i j l m
    closed (repeated r low high) i j l (k, a, b, t) = (
      k,
      a,
      b,
      repeats_same (Matches (without_end r) w) (Matches r v) n (rises (without_end r) w) (closed r) k i j l t,
    )

    closed_in_turn : (rs : Trees) (i j : ℕ) → j < n → MatchesInTurn (all_without_end rs) w i j
        → MatchesInTurn rs v i j
    closed_in_turn no_trees i j l e = e
    closed_in_turn (tree r rs) i j l (h, m, t) =
        (h, closed r i h (omega (arith, rises_in_turn (all_without_end rs) w h j t)) m, closed_in_turn rs h j l t)

    closed_of_one : (rs : Trees) (i j : ℕ) → j < n → MatchesOne (all_without_end rs) w i j → MatchesOne rs v i j
    closed_of_one no_trees i j l m = absurd m
    closed_of_one (tree r rs) i j l (inl m) = inl (closed r i j l m)
    closed_of_one (tree r rs) i j l (inr m) = inr (closed_of_one rs i j l m)

  -- so the places below n at which they can end are the same
  pub opens : (r : Tree) (xs ys : List ℕ) → Fits n xs ys
      → Fits n (flat_map (ends r v) xs) (flat_map (ends (without_end r) w) ys)
  opens r xs ys f j l h =
      let (i, a, k) = from_flat_map (ends r v) j xs h in
      let m = sound r v i j k in
      let u : i ≤ j = rises r v i j m in
      in_flat_map (ends (without_end r) w) j i ys (f i (omega (arith, u, l)) a)
      (complete (without_end r) w i j (omega (arith, u, l, is_long)) (opened r i j l m))

  pub closes : (r : Tree) (xs ys : List ℕ) → Fits n xs ys
      → Fits n (flat_map (ends (without_end r) w) xs) (flat_map (ends r v) ys)
  closes r xs ys f j l h =
      let (i, a, k) = from_flat_map (ends (without_end r) w) j xs h in
      let m = sound (without_end r) w i j k in
      let u : i ≤ j = rises (without_end r) w i j m in
      in_flat_map (ends r v) j i ys (f i (omega (arith, u, l)) a)
      (complete r v i j (omega (arith, u, l, ends_late)) (closed r i j l m))

  -- from the same places below n matches end at the same places below n, also without end assertions
  pub same_ends : (r : Tree) (xs ys : List ℕ) → Same n xs ys
      → Same n (flat_map (ends r v) xs) (flat_map (ends (without_end r) w) ys)
  same_ends r xs ys s = (opens r xs ys s.0, closes r ys xs s.1)

-- ---- pieces of a repeated tree that end where the word ends
one_more : (R : ℕ → ℕ → Type 0) (k i h j : ℕ) → Repeats R k i h → R h j → Repeats R (suc k) i j
one_more R zero i h j e r = (j, subst (λ z. R z j) (sym e) r, refl)
one_more R (suc k) i h j (m, g, t) r = (m, g, one_more R k m h j t r)

one_less : (R : ℕ → ℕ → Type 0) (k i j : ℕ) → Repeats R (suc k) i j → (h : ℕ) × Repeats R k i h × R h j
one_less R zero i j (h, r, e) = (i, refl, subst (λ z. R i z) e r)
one_less R (suc k) i j (m, g, t) = let (h, u, r) = one_less R k m j t in (h, (m, g, u), r)

-- there is nothing to read, or a last piece that reads something
last_piece : (R : ℕ → ℕ → Type 0) → Rises R → (k i j : ℕ) → Repeats R k i j
    → (i ≡ j) ⊎ ((h : ℕ) × (m : ℕ) × Repeats R m i h × (h < j) × R h j)
last_piece R f zero i j e = inl e
last_piece R f (suc k) i j (h, r, t) =
    elim (last_piece R f k h j t) [
      | inr (g, m, u, l, s) ↦ inr (g, suc m, (h, r, u), l, s)
      | inl e ↦
          elim (cases_eq i j) [
            | inl q ↦ inl q
            | inr ne ↦ inr (i, 0, refl, omega (arith, f i h r, e, ne), subst (λ z. R i z) e r)
          ]
    ]

module _ (r : Tree) (w : List ℕ) where
  -- where any number of pieces can end
  abbrev pub pieces : List ℕ → List ℕ
  pieces = flat_map (ends (repeated r 0 None) w)

  abbrev pub piece : List ℕ → List ℕ
  piece = flat_map (ends r w)

  in_pieces : (k b j : ℕ) (xs : List ℕ) → IsIn b xs → j ≤ length w → Repeats (Matches r w) k b j → IsIn j (pieces xs)
  in_pieces k b j xs i l t =
      in_flat_map (ends (repeated r 0 None) w) j b xs i
      (complete (repeated r 0 None) w b j (omega (arith, l, repeats_rise (Matches r w) (rises r w) k b j t))
      (k, omega arith, tt, t))

  from_pieces : (j : ℕ) (xs : List ℕ) → IsIn j (pieces xs)
      → (b : ℕ) × IsIn b xs × ((k : ℕ) × Repeats (Matches r w) k b j)
  from_pieces j xs h =
      let (b, i, k) = from_flat_map (ends (repeated r 0 None) w) j xs h in
      let (m, x, y, t) = sound (repeated r 0 None) w b j k in (b, i, (m, t))

  in_piece : (b j : ℕ) (xs : List ℕ) → IsIn b xs → j ≤ length w → Matches r w b j → IsIn j (piece xs)
  in_piece b j xs i l m =
      in_flat_map (ends r w) j b xs i (complete r w b j (omega (arith, l, rises r w b j m)) m)

  -- pieces end where they begin, or where a last one that begins earlier ends
  pub pieces_end : (n : ℕ) (xs : List ℕ) → n ≡ length w
      → is_among (pieces xs) n ≡ is_among (xs ++ piece (below n (pieces xs))) n
  pieces_end n xs z = same_among n (pieces xs) (xs ++ piece (below n (pieces xs))) to from where
    to : IsIn n (pieces xs) → IsIn n (xs ++ piece (below n (pieces xs)))
    to a =
        let (b, i, (k, t)) = from_pieces n xs a in
        elim (last_piece (Matches r w) (rises r w) k b n t) [
          | inl e ↦ in_left n xs (piece (below n (pieces xs))) (subst (λ y. IsIn y xs) e i)
          | inr (h, m, u, l, s) ↦
              in_right n xs (piece (below n (pieces xs)))
              (in_piece h n (below n (pieces xs))
              (in_below n h (pieces xs) l (in_pieces m b h xs i (omega (arith, l, z)) u)) (omega (arith, z)) s)
        ]

    from : IsIn n (xs ++ piece (below n (pieces xs))) → IsIn n (pieces xs)
    from a =
        elim (from_append n xs (piece (below n (pieces xs))) a) [
          | inl i ↦ in_pieces 0 n n xs i (omega (arith, z)) refl
          | inr p ↦
              let (h, u, q) = from_flat_map (ends r w) n (below n (pieces xs)) p in
              let (b, i, (k, t)) = from_pieces h xs (from_below n h (pieces xs) u).1 in
              in_pieces (suc k) b n xs i (omega (arith, z))
              (one_more (Matches r w) k b h n t (sound r w h n q))
        ]

  -- a piece after any number of them ends where any number of them after one can end
  pub piece_pieces : (n : ℕ) (xs : List ℕ) → n ≡ length w
      → is_among (piece (pieces xs)) n ≡ is_among (pieces (piece xs)) n
  piece_pieces n xs z = same_among n (piece (pieces xs)) (pieces (piece xs)) to from where
    to : IsIn n (piece (pieces xs)) → IsIn n (pieces (piece xs))
    to a =
        let (h, u, q) = from_flat_map (ends r w) n (pieces xs) a in
        let (b, i, (k, t)) = from_pieces h xs u in
        let (m, g, s) = one_more (Matches r w) k b h n t (sound r w h n q) in
        in_pieces k m n (piece xs)
        (in_piece b m xs i (omega (arith, z, repeats_rise (Matches r w) (rises r w) k m n s)) g) (omega (arith, z)) s

    from : IsIn n (pieces (piece xs)) → IsIn n (piece (pieces xs))
    from a =
        let (m, u, (k, t)) = from_pieces n (piece xs) a in
        let (b, i, q) = from_flat_map (ends r w) m xs u in
        let (h, s, g) = one_less (Matches r w) k b n (m, sound r w b m q, t) in
        in_piece h n (pieces xs)
        (in_pieces k b h xs i (omega (arith, z, rises r w h n g)) s) (omega (arith, z)) g
