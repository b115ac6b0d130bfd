-- The ends of matches that are computed are those of the definition, by induction over the tree (`sound`, `complete`);
-- so is the test whether a word has a match. Repeats without a limit need no more copies than the word has characters,
-- since an empty copy can be left out (`shorten`).
use Rattle.std.proofs.lemmas.Bool.{cases_eq, cases_lt, and_parts, and_from, or_cases, or_left, or_right, ltb-true, ltb-false, lt-ltb, le-ltb, eqb-true, eq-eqb}
use Rattle.std.proofs.Common.{zero-add, suc-add, ◌≡◌, ℕ, zero, suc, ◌+◌, ◌-◌, ◌<◌, ◌≤◌, inl, inr, ⊎_elim, Bool, true, false, ◌&&◌, cond, not, nat_lt, nat_eq, List, [], ◌∷◌, length, slice_index, flat_map, Option, Some, None, IfSome, IsTrue, ◌↔◌, refl, sym, subst, arith}
use Rattle.list_laws.specs.In.{IsIn}
use Rattle.list_laws.proofs.Lists.{in_left, in_right, from_append, in_flat_map, from_flat_map}
use Rattle.patterns.specs.CharSet.{has}
use Rattle.patterns.specs.Tree.{Tree, Trees, empty, one_of, at_start, at_end, in_turn, either, repeated, no_trees, tree}
use Rattle.patterns.specs.Match.{Repeats, Matches, MatchesInTurn, MatchesOne, IsFoundIn}
use Rattle.patterns.specs.Decision.{ends_after, ends_within, ends_repeated, ends, ends_in_turn, ends_of_one, is_empty, finds_up_to, finds}

module _ (f : ℕ → List ℕ) (R : ℕ → ℕ → Type 0) where
  after_sound : ((i j : ℕ) → IsIn j (f i) → R i j) → (k i j : ℕ) → IsIn j (ends_after f k i) → Repeats R k i j
  after_sound s zero i j (inl e) = sym e
  after_sound s zero i j (inr h) = absurd h
  after_sound s (suc k) i j h =
      let (x, a, b) = from_flat_map (ends_after f k) j (f i) h in (x, s i x a, after_sound s k x j b)

  within_sound : ((i j : ℕ) → IsIn j (f i) → R i j) → (k i j : ℕ) → IsIn j (ends_within f k i)
      → (n : ℕ) × (n ≤ k) × Repeats R n i j
  within_sound s zero i j (inl e) = (0, omega arith, sym e)
  within_sound s zero i j (inr h) = absurd h
  within_sound s (suc k) i j (inl e) = (0, omega arith, sym e)
  within_sound s (suc k) i j (inr h) =
      let (x, a, b) = from_flat_map (ends_within f k) j (f i) h in
      let (n, l, t) = within_sound s k x j b in (suc n, omega arith, (x, s i x a, t))

  times_join : (n k i h j : ℕ) → Repeats R n i h → Repeats R k h j → Repeats R (n + k) i j
  times_join zero k i h j a b = rw zero-add (subst (λ z. Repeats R k z j) (sym a) b)
  times_join (suc n) k i h j (x, r, a) b = rw suc-add (x, r, times_join n k x h j a b)

  times_split : (n k i j : ℕ) → Repeats R (n + k) i j → (h : ℕ) × Repeats R n i h × Repeats R k h j
  times_split zero k i j t = (i, refl, rw zero-add at t)
  times_split (suc n) k i j t =
      let t' = rw suc-add at t in
      let (h, a, b) = times_split n k t'.0 j t'.2 in (h, (t'.0, t'.1, a), b)

  module _ (len : ℕ) (forward : (i j : ℕ) → R i j → i ≤ len → (i ≤ j) × (j ≤ len)) where
    times_forward : (k i j : ℕ) → Repeats R k i j → i ≤ len → (i ≤ j) × (j ≤ len)
    times_forward zero i j e l = (omega (arith, e), omega (arith, e))
    times_forward (suc k) i j (h, r, t) l =
        let a = forward i h r l in let b = times_forward k h j t a.1 in (omega (arith, a, b), b.1)

    -- where the pieces are more than the characters, an empty one can be left out
    shorten : (k i j : ℕ) → i ≤ len → j < i + suc k → Repeats R (suc k) i j → Repeats R k i j
    shorten zero i j l a (h, r, t) = let f = forward i h r l in let e : i ≡ j = omega (arith, t, f) in e
    shorten (suc k) i j l a (h, r, t) =
        let f = forward i h r l in
        elim (cases_eq i h) [
          | inl e ↦ subst (λ z. Repeats R (suc k) z j) (sym e) t
          | inr ne ↦ (h, r, shorten k h j f.1 (omega (arith, f, ne)) t)
        ]

    within_len : (k i j : ℕ) → i ≤ len → Repeats R k i j → (n : ℕ) × (n ≤ len) × (n ≤ k) × Repeats R n i j
    within_len zero i j l t = (0, omega arith, omega arith, t)
    within_len (suc k) i j l t =
        elim (cases_lt len (suc k)) [
          | inl a ↦ let (n, b, c, u) =
              within_len k i j l (shorten k i j l (omega (arith, times_forward (suc k) i j t l)) t) in
              (n, b, omega arith, u)
          | inr b ↦ (suc k, b, omega arith, t)
        ]

  after_complete : (len : ℕ) → ((i j : ℕ) → R i j → i ≤ len → (i ≤ j) × (j ≤ len))
      → ((i j : ℕ) → i ≤ len → R i j → IsIn j (f i)) → (k i j : ℕ) → i ≤ len → Repeats R k i j
      → IsIn j (ends_after f k i)
  after_complete len w c zero i j l e = inl (sym e)
  after_complete len w c (suc k) i j l (h, r, t) =
      in_flat_map (ends_after f k) j h (f i) (c i h l r) (after_complete len w c k h j (w i h r l).1 t)

  within_complete : (len : ℕ) → ((i j : ℕ) → R i j → i ≤ len → (i ≤ j) × (j ≤ len))
      → ((i j : ℕ) → i ≤ len → R i j → IsIn j (f i)) → (k n i j : ℕ) → n ≤ k → i ≤ len → Repeats R n i j
      → IsIn j (ends_within f k i)
  within_complete len w c zero zero i j a l e = inl (sym e)
  within_complete len w c zero (suc n) i j a l t = absurd (omega arith)
  within_complete len w c (suc k) zero i j a l e = inl (sym e)
  within_complete len w c (suc k) (suc n) i j a l (h, r, t) =
      inr (in_flat_map (ends_within f k) j h (f i) (c i h l r)
      (within_complete len w c k n h j (omega arith) (w i h r l).1 t))

-- a match goes forward within the word
abbrev pub Forward : List ℕ → (ℕ → ℕ → Type 0) → Type 0
Forward w R = (i j : ℕ) → R i j → i ≤ length w → (i ≤ j) × (j ≤ length w)

mutual
  pub forward : (r : Tree) (w : List ℕ) → Forward w (Matches r w)
  forward empty w i j e l = (omega (arith, e), omega (arith, e))
  forward (one_of s) w i j (e, b, c) l = (omega (arith, e), omega (arith, e, b))
  forward at_start w i j (a, b) l = (omega (arith, a, b), omega (arith, a, b))
  forward at_end w i j (a, b) l = (omega (arith, a, b), omega (arith, a, b))
  forward (in_turn rs) w i j m l = forward_in_turn rs w i j m l
  forward (either rs) w i j m l = forward_some rs w i j m l
  forward (repeated r n m) w i j (k, a, b, t) l =
      times_forward (λ i. i ∷ []) (Matches r w) (length w) (forward r w) k i j t l

  pub forward_in_turn : (rs : Trees) (w : List ℕ) → Forward w (MatchesInTurn rs w)
  forward_in_turn no_trees w i j e l = (omega (arith, e), omega (arith, e))
  forward_in_turn (tree r rs) w i j (h, m, t) l =
      let a = forward r w i h m l in let b = forward_in_turn rs w h j t a.1 in (omega (arith, a, b), b.1)

  pub forward_some : (rs : Trees) (w : List ℕ) → Forward w (MatchesOne rs w)
  forward_some no_trees w i j m l = absurd m
  forward_some (tree r rs) w i j (inl m) l = forward r w i j m l
  forward_some (tree r rs) w i j (inr m) l = forward_some rs w i j m l

in_cond : (b : Bool) (x y : ℕ) → IsIn y (cond b (x ∷ []) []) → (b ≡ true) × (y ≡ x)
in_cond true x y (inl e) = (refl, e)
in_cond true x y (inr h) = absurd h
in_cond false x y h = absurd h

to_cond : (b : Bool) (x y : ℕ) → b ≡ true → y ≡ x → IsIn y (cond b (x ∷ []) [])
to_cond true x y e f = inl f
to_cond false x y e f = cc

leaf_set : (s : List (ℕ × ℕ)) (w : List ℕ) (i j : ℕ) → IsIn j (ends (one_of s) w i) → Matches (one_of s) w i j
leaf_set s w i j h =
    let (t, e) = in_cond (nat_lt i (length w) && has s (slice_index w i)) (suc i) j h in
    let (a, b) = and_parts (nat_lt i (length w)) (has s (slice_index w i)) t in
    (e, ltb-true i (length w) a, b)

to_set : (s : List (ℕ × ℕ)) (w : List ℕ) (i j : ℕ) → Matches (one_of s) w i j → IsIn j (ends (one_of s) w i)
to_set s w i j (e, a, b) =
    to_cond (nat_lt i (length w) && has s (slice_index w i)) (suc i) j
    (and_from _ _ (lt-ltb i (length w) a) b) e

leaf_at : (n i j : ℕ) → IsIn j (cond (nat_eq i n) (n ∷ []) []) → (i ≡ n) × (j ≡ n)
leaf_at n i j h = let (t, e) = in_cond (nat_eq i n) n j h in (eqb-true i n t, e)

to_leaf_at : (n i j : ℕ) → (i ≡ n) × (j ≡ n) → IsIn j (cond (nat_eq i n) (n ∷ []) [])
to_leaf_at n i j (a, b) = to_cond (nat_eq i n) n j (eq-eqb i n a) b

module _ (f : ℕ → List ℕ) (R : ℕ → ℕ → Type 0) where
  sound_repeat : ((i j : ℕ) → IsIn j (f i) → R i j) → (n : ℕ) (m : Option ℕ) (len i j : ℕ)
      → IsIn j (ends_repeated f n m len i) → (k : ℕ) × (n ≤ k) × IfSome m (λ m. k ≤ m) × Repeats R k i j
  sound_repeat s n None len i j h =
      let (x, a, b) = from_flat_map (ends_within f len) j (ends_after f n i) h in
      let (k, l, t) = within_sound f R s len x j b in
      (n + k, omega arith, tt, times_join f R n k i x j (after_sound f R s n i x a) t)
  sound_repeat s n (Some m) len i j h = bounded (nat_lt m n) refl h where
    bounded : (b : Bool) → nat_lt m n ≡ b
        → IsIn j (cond b [] (flat_map (ends_within f (m - n)) (ends_after f n i)))
        → (k : ℕ) × (n ≤ k) × (k ≤ m) × Repeats R k i j
    bounded true e h = absurd h
    bounded false e h =
        let (x, a, b) = from_flat_map (ends_within f (m - n)) j (ends_after f n i) h in
        let (k, l, t) = within_sound f R s (m - n) x j b in
        let g : n ≤ m = ltb-false m n e in
        (n + k, omega arith, omega arith, times_join f R n k i x j (after_sound f R s n i x a) t)

  complete_repeat : (len : ℕ) → ((i j : ℕ) → R i j → i ≤ len → (i ≤ j) × (j ≤ len))
      → ((i j : ℕ) → i ≤ len → R i j → IsIn j (f i)) → (n : ℕ) (m : Option ℕ) (i j : ℕ) → i ≤ len
      → (k : ℕ) × (n ≤ k) × IfSome m (λ m. k ≤ m) × Repeats R k i j → IsIn j (ends_repeated f n m len i)
  complete_repeat len w c n None i j l (k, a, b, t) =
      let e : n + (k - n) ≡ k = omega arith in
      let (h, u, v) = times_split f R n (k - n) i j (subst (λ z. Repeats R z i j) (sym e) t) in
      let lh = (times_forward f R len w n i h u l).1 in
      let (q, d, g, y) = within_len f R len w (k - n) h j lh v in
      in_flat_map (ends_within f len) j h (ends_after f n i) (after_complete f R len w c n i h l u)
      (within_complete f R len w c len q h j d lh y)
  complete_repeat len w c n (Some m) i j l (k, a, b, t) =
      let e : n + (k - n) ≡ k = omega arith in
      let (h, u, v) = times_split f R n (k - n) i j (subst (λ z. Repeats R z i j) (sym e) t) in
      let lh = (times_forward f R len w n i h u l).1 in
      let no : nat_lt m n ≡ false = le-ltb m n (omega (arith, a, b)) in
      subst (λ z. IsIn j (cond z [] (flat_map (ends_within f (m - n)) (ends_after f n i)))) (sym no)
      (in_flat_map (ends_within f (m - n)) j h (ends_after f n i) (after_complete f R len w c n i h l u)
      (within_complete f R len w c (m - n) (k - n) h j (omega (arith, a, b)) lh v))

mutual
  pub sound : (r : Tree) (w : List ℕ) (i j : ℕ) → IsIn j (ends r w i) → Matches r w i j
  sound empty w i j (inl e) = sym e
  sound empty w i j (inr h) = absurd h
  sound (one_of s) w i j h = leaf_set s w i j h
  sound at_start w i j h = leaf_at 0 i j h
  sound at_end w i j h = leaf_at (length w) i j h
  sound (in_turn rs) w i j h = sound_in_turn rs w i j h
  sound (either rs) w i j h = sound_some rs w i j h
  sound (repeated r n m) w i j h = sound_repeat (ends r w) (Matches r w) (sound r w) n m (length w) i j h

  sound_in_turn : (rs : Trees) (w : List ℕ) (i j : ℕ) → IsIn j (ends_in_turn rs w i) → MatchesInTurn rs w i j
  sound_in_turn no_trees w i j (inl e) = sym e
  sound_in_turn no_trees w i j (inr h) = absurd h
  sound_in_turn (tree r rs) w i j h =
      let (x, a, b) = from_flat_map (ends_in_turn rs w) j (ends r w i) h in
      (x, sound r w i x a, sound_in_turn rs w x j b)

  sound_some : (rs : Trees) (w : List ℕ) (i j : ℕ) → IsIn j (ends_of_one rs w i) → MatchesOne rs w i j
  sound_some no_trees w i j h = absurd h
  sound_some (tree r rs) w i j h =
      ⊎_elim (λ a. inl (sound r w i j a)) (λ b. inr (sound_some rs w i j b))
      (from_append j (ends r w i) (ends_of_one rs w i) h)

mutual
  pub complete : (r : Tree) (w : List ℕ) (i j : ℕ) → i ≤ length w → Matches r w i j → IsIn j (ends r w i)
  complete empty w i j l e = inl (sym e)
  complete (one_of s) w i j l m = to_set s w i j m
  complete at_start w i j l m = to_leaf_at 0 i j m
  complete at_end w i j l m = to_leaf_at (length w) i j m
  complete (in_turn rs) w i j l m = complete_in_turn rs w i j l m
  complete (either rs) w i j l m = complete_some rs w i j l m
  complete (repeated r n m) w i j l h =
      complete_repeat (ends r w) (Matches r w) (length w) (forward r w) (complete r w) n m i j l h

  complete_in_turn : (rs : Trees) (w : List ℕ) (i j : ℕ) → i ≤ length w → MatchesInTurn rs w i j
      → IsIn j (ends_in_turn rs w i)
  complete_in_turn no_trees w i j l e = inl (sym e)
  complete_in_turn (tree r rs) w i j l (h, a, b) =
      in_flat_map (ends_in_turn rs w) j h (ends r w i) (complete r w i h l a)
      (complete_in_turn rs w h j (forward r w i h a l).1 b)

  complete_some : (rs : Trees) (w : List ℕ) (i j : ℕ) → i ≤ length w → MatchesOne rs w i j
      → IsIn j (ends_of_one rs w i)
  complete_some no_trees w i j l m = absurd m
  complete_some (tree r rs) w i j l (inl m) = in_left j (ends r w i) (ends_of_one rs w i) (complete r w i j l m)
  complete_some (tree r rs) w i j l (inr m) =
      in_right j (ends r w i) (ends_of_one rs w i) (complete_some rs w i j l m)

first_end : (js : List ℕ) → not (is_empty js) ≡ true → (j : ℕ) × IsIn j js
first_end [] h = cc
first_end (j ∷ js) h = (j, inl refl)

not_empty : (j : ℕ) (js : List ℕ) → IsIn j js → not (is_empty js) ≡ true
not_empty j [] h = absurd h
not_empty j (x ∷ xs) h = refl

found_at : (t : Tree) (w : List ℕ) (i : ℕ) → i ≤ length w → not (is_empty (ends t w i)) ≡ true → IsFoundIn w t
found_at t w i l h =
    let (j, e) = first_end (ends t w i) h in
    let m : Matches t w i j = sound t w i j e in (i, j, l, (forward t w i j m l).1, m)

finds-at : (t : Tree) (w : List ℕ) (i j : ℕ) → i ≤ length w → Matches t w i j
    → not (is_empty (ends t w i)) ≡ true
finds-at t w i j l m = not_empty j (ends t w i) (complete t w i j l m)

found_up_to : (t : Tree) (w : List ℕ) (n : ℕ) → n ≤ length w → finds_up_to t w n ≡ true → IsFoundIn w t
found_up_to t w zero l h = found_at t w 0 l h
found_up_to t w (suc n) l h =
    elim (or_cases (finds_up_to t w n) (not (is_empty (ends t w (suc n)))) h) [
      | inl e ↦ found_up_to t w n (omega arith) e
      | inr e ↦ found_at t w (suc n) l e
    ]

finds-up_to : (t : Tree) (w : List ℕ) (i j n : ℕ) → i ≤ n → n ≤ length w → Matches t w i j
    → finds_up_to t w n ≡ true
finds-up_to t w i j zero a l m = finds-at t w 0 j l (subst (λ k. Matches t w k j) (omega arith) m)
finds-up_to t w i j (suc n) a l m =
    elim (cases_eq i (suc n)) [
      | inl e ↦ or_right (finds_up_to t w n) _ (finds-at t w (suc n) j l (subst (λ k. Matches t w k j) e m))
      | inr ne ↦ or_left (finds_up_to t w n) _ (finds-up_to t w i j n (omega (arith, ne)) (omega arith) m)
    ]

-- the test that computes says whether the tree matches somewhere
pub finds-decides : (t : Tree) (w : List ℕ) → IsTrue (finds t w) ↔ IsFoundIn w t
finds-decides t w = (
  λ h. found_up_to t w (length w) (omega arith) h,
  λ (i, j, a, b, m). finds-up_to t w i j (length w) a
      (omega arith) m,
)
