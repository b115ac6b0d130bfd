-- The order of words, by length and then by the ranks of their letters. Words listed by length are in it, the first n
-- of them are the first words of the cell, and no word of the cell is before a greedy one.
use Rattle.std.proofs.Common.{◌≡◌, ℕ, zero, suc, ◌≤◌, ◌<◌, ◌⊎◌, inl, inr, ⊎_elim, List, [], ◌∷◌, ◌++◌, map, take, Bool, true, false, cond, length, refl, ap, sym, subst, arith}
use Rattle.std.specs.List.{flat_map}
use Rattle.cell_laws.specs.Leading.{walk, Leads}
use Rattle.cell_laws.proofs.Lists.{lead_all}
use Rattle.cell_laws.specs.FirstWords.{Lex, Before, IsOrdered, AreFirst, of_length, shorter, IsRelaxed, IsGreedy}
use Rattle.list_laws.specs.In.{IsIn}
use Rattle.list_laws.proofs.Lists.{in_left, in_right, from_append, in_map, from_map, from_take}

ordered_append : {A : Type 0} (R : A → A → Type 0) (xs ys : List A) → IsOrdered R xs → IsOrdered R ys
    → ((x y : A) → IsIn x xs → IsIn y ys → R x y) → IsOrdered R (xs ++ ys)
ordered_append R [] ys a b h = b
ordered_append R (x ∷ xs) ys a b h = (
  (λ y i. ⊎_elim (λ l. a.0 y l) (λ r. h x y (inl refl) r) (from_append y xs ys i)),
  ordered_append R xs ys a.1 b
      (λ u v i j. h u v (inr i) j),
)

ordered_more : {A : Type 0} (R Q : A → A → Type 0) (xs : List A) → ((x y : A) → IsIn x xs → IsIn y xs → R x y → Q x y)
    → IsOrdered R xs → IsOrdered Q xs
ordered_more R Q [] f h = tt
ordered_more R Q (x ∷ xs) f h =
    ((λ y i. f x y (inl refl) (inr i) (h.0 y i)), ordered_more R Q xs (λ u v i j. f u v (inr i) (inr j)) h.1)

ordered_take : {A : Type 0} (R : A → A → Type 0) (n : ℕ) (xs : List A) → IsOrdered R xs → IsOrdered R (take n xs)
ordered_take R zero xs h = tt
ordered_take R (suc n) [] h = tt
ordered_take R (suc n) (x ∷ xs) h = ((λ y i. h.0 y (from_take n y xs i)), ordered_take R n xs h.1)

-- of what is ordered, a member before one of the first n is one of them
take_down : {A : Type 0} (R : A → A → Type 0) (irr : (x y : A) → R x y → R y x → ⊥) (n : ℕ) (xs : List A) (v w : A)
    → IsOrdered R xs → IsIn w (take n xs) → IsIn v xs → R v w → IsIn v (take n xs)
take_down R irr zero xs v w h i j b = absurd i
take_down R irr (suc n) [] v w h i j b = absurd i
take_down R irr (suc n) (x ∷ xs) v w h (inl e) (inl f) b = inl f
take_down R irr (suc n) (x ∷ xs) v w h (inl e) (inr j) b = absurd (irr v w b (subst (λ z. R z v) (sym e) (h.0 v j)))
take_down R irr (suc n) (x ∷ xs) v w h (inr i) (inl f) b = inl f
take_down R irr (suc n) (x ∷ xs) v w h (inr i) (inr j) b = inr (take_down R irr n xs v w h.1 i j b)

module _ (rank : ℕ → ℕ) where
  lex_asym : (v w : List ℕ) → Lex rank v w → Lex rank w v → ⊥
  lex_asym [] w a b = a
  lex_asym (c ∷ v) [] a b = a
  lex_asym (c ∷ v) (d ∷ w) (inl a) (inl b) = absurd (omega (arith, a, b))
  lex_asym (c ∷ v) (d ∷ w) (inl a) (inr b) = absurd (let q : rank d ≡ rank c = ap rank b.0 in omega (arith, a, q))
  lex_asym (c ∷ v) (d ∷ w) (inr a) (inl b) = absurd (let q : rank c ≡ rank d = ap rank a.0 in omega (arith, b, q))
  lex_asym (c ∷ v) (d ∷ w) (inr a) (inr b) = lex_asym v w a.1 b.1

  pub asym : (v w : List ℕ) → Before rank v w → Before rank w v → ⊥
  asym v w (inl a) (inl b) = absurd (omega (arith, a, b))
  asym v w (inl a) (inr b) = absurd (omega (arith, a, b.0))
  asym v w (inr a) (inl b) = absurd (omega (arith, a.0, b))
  asym v w (inr a) (inr b) = lex_asym v w a.1 b.1

  module _ (letters : List ℕ) (to : ℕ → ℕ → ℕ) (in_cell : ℕ → Bool) where
    Of : (m r : ℕ) (w : List ℕ) → Leads letters to in_cell r w → length w ≡ m
        → IsIn w (of_length letters to in_cell m r)
    Of zero r [] h e = rw h.1 (inl refl)
    Of zero r (c ∷ w) h e = absurd (omega (arith, e))
    Of (suc m) r [] h e = absurd (omega (arith, e))
    Of (suc m) r (c ∷ w) h e = go letters h.0.0 (in_map (λ w. c ∷ w) w _
        (Of m (to r c) w (h.0.1, h.1) (omega (arith, e)))) where
          go : (cs : List ℕ) → IsIn c cs → IsIn (c ∷ w) (map (λ w. c ∷ w) (of_length letters to in_cell m (to r c)))
              → IsIn (c ∷ w) (flat_map (λ c. map (λ w. c ∷ w) (of_length letters to in_cell m (to r c))) cs)
          go [] i k = absurd i
          go (b ∷ cs) (inl q) k =
              in_left (c ∷ w) _ _
              (subst (λ z. IsIn (c ∷ w) (map (λ w. z ∷ w) (of_length letters to in_cell m (to r z)))) q k)
          go (b ∷ cs) (inr i) k = in_right (c ∷ w) _ _ (go cs i k)

    From : (m r : ℕ) (w : List ℕ) → IsIn w (of_length letters to in_cell m r)
        → Leads letters to in_cell r w × (length w ≡ m)
    From zero r w i = go (in_cell r) refl i where
      go : (b : Bool) → in_cell r ≡ b → IsIn w (cond b ([] ∷ []) [])
          → Leads letters to in_cell r w × (length w ≡ zero)
      go true e (inl q) = (subst (λ z. Leads letters to in_cell r z) (sym q) (tt, e), ap length q)
      go true e (inr i) = absurd i
      go false e i = absurd i
    From (suc m) r w i = go letters (λ c j. j) i (From m) where
      go : (cs : List ℕ) → ((c : ℕ) → IsIn c cs → IsIn c letters)
          → IsIn w (flat_map (λ c. map (λ w. c ∷ w) (of_length letters to in_cell m (to r c))) cs)
          → ((r : ℕ) (w : List ℕ) → IsIn w (of_length letters to in_cell m r)
          → Leads letters to in_cell r w × (length w ≡ m)) → Leads letters to in_cell r w × (length w ≡ suc m)
      go [] s i more = absurd i
      go (c ∷ cs) s i more =
          ⊎_elim
          (λ l. let (v, k, q) = from_map (λ w. c ∷ w) w _ l in
          let (g, e) = more (to r c) v k in
          let n : length w ≡ suc (length v) = ap length q in
          (subst (λ z. Leads letters to in_cell r z) (sym q) ((s c (inl refl), g.0), g.1), omega (arith, n, e)))
          (λ j. go cs (λ b i. s b (inr i)) j more)
          (from_append w _ _ i)

    module _ (ordered : IsOrdered (λ c d. rank c < rank d) letters) where
      ordered_of : (m r : ℕ) → IsOrdered (Lex rank) (of_length letters to in_cell m r)
      ordered_of zero r = go (in_cell r) where
        go : (b : Bool) → IsOrdered (Lex rank) (cond b ([] ∷ []) [])
        go true = ((λ y i. absurd i), tt)
        go false = tt
      ordered_of (suc m) r = go letters ordered (ordered_of m) where
        Part : ℕ → List (List ℕ)
        Part c = map (λ w. c ∷ w) (of_length letters to in_cell m (to r c))

        mapped : (c : ℕ) (ws : List (List ℕ)) → IsOrdered (Lex rank) ws → IsOrdered (Lex rank) (map (λ w. c ∷ w) ws)
        mapped c [] h = tt
        mapped c (w ∷ ws) h = (
          (λ y i. let (v, k, q) =
              from_map (λ w. c ∷ w) y ws i in subst (λ z. Lex rank (c ∷ w) z) (sym q) (inr (refl, h.0 v k))),
          mapped c ws h.1,
        )

        begins : (y : List ℕ) (cs : List ℕ)
            → IsIn y (flat_map (λ c. map (λ w. c ∷ w) (of_length letters to in_cell m (to r c))) cs)
            → (c : ℕ) × (v : List ℕ) × (y ≡ c ∷ v) × IsIn c cs
        begins y [] i = absurd i
        begins y (c ∷ cs) i =
            ⊎_elim (λ l. let (v, k, q) = from_map (λ w. c ∷ w) y _ l in (c, v, q, inl refl))
            (λ j. let (b, v, q, k) = begins y cs j in (b, v, q, inr k)) (from_append y _ _ i)

        go : (cs : List ℕ) → IsOrdered (λ c d. rank c < rank d) cs
            → ((r : ℕ) → IsOrdered (Lex rank) (of_length letters to in_cell m r))
            → IsOrdered (Lex rank) (flat_map (λ c. map (λ w. c ∷ w) (of_length letters to in_cell m (to r c))) cs)
        go [] o more = tt
        go (c ∷ cs) o more =
            ordered_append (Lex rank) _ _ (mapped c _ (more (to r c))) (go cs o.1 more)
            (λ x y i j.
            let (v, _, p) = from_map (λ w. c ∷ w) x _ i in
            let (b, u, q, k) = begins y cs j in
            subst (λ z. Lex rank z y) (sym p) (subst (λ z. Lex rank (c ∷ v) z) (sym q) (inl (o.0 b k))))

      from_shorter : (m r : ℕ) (w : List ℕ) → IsIn w (shorter letters to in_cell m r)
          → Leads letters to in_cell r w × (length w < m)
      from_shorter zero r w i = absurd i
      from_shorter (suc m) r w i =
          ⊎_elim (λ l. let (h, n) = from_shorter m r w l in (h, omega (arith, n)))
          (λ j. let (h, n) = From m r w j in (h, omega (arith, n)))
          (from_append w (shorter letters to in_cell m r) _ i)

      in_shorter : (m r : ℕ) (w : List ℕ) → Leads letters to in_cell r w → length w < m
          → IsIn w (shorter letters to in_cell m r)
      in_shorter zero r w h l = absurd (omega (arith, l))
      in_shorter (suc m) r w h l = go (last l) (in_shorter m r w h) where
        last : length w < suc m → (length w ≡ m) ⊎ (length w < m)
        last l = grind (arith, l)

        go : (length w ≡ m) ⊎ (length w < m) → (length w < m → IsIn w (shorter letters to in_cell m r))
            → IsIn w (shorter letters to in_cell m r ++ of_length letters to in_cell m r)
        go (inl e) more = in_right w (shorter letters to in_cell m r) _ (Of m r w h e)
        go (inr k) more = in_left w (shorter letters to in_cell m r) _ (more k)

      ordered_shorter : (m r : ℕ) → IsOrdered (Before rank) (shorter letters to in_cell m r)
      ordered_shorter zero r = tt
      ordered_shorter (suc m) r =
          ordered_append (Before rank) (shorter letters to in_cell m r) (of_length letters to in_cell m r)
          (ordered_shorter m r)
          (ordered_more (Lex rank) (Before rank) (of_length letters to in_cell m r)
          (λ x y i j l. inr (let a = (From m r x i).1 in let b = (From m r y j).1 in omega (arith, a, b), l))
          (ordered_of m r))
          (λ x y i j. inl (let a = (from_shorter m r x i).1 in let b = (From m r y j).1 in omega (arith, a, b)))

      -- the first n of the words shorter than m are the first words
      pub first_of_shorter : (n m r : ℕ)
          → AreFirst rank letters to in_cell r (take n (shorter letters to in_cell m r))
      first_of_shorter n m r = (
        ordered_take (Before rank) n _ (ordered_shorter m r),
        lead_all letters to in_cell r _ (λ w i. (from_shorter m r w (from_take n w _ i)).0),
        λ v w i h b. take_down (Before rank) asym n _ v w (ordered_shorter m r) i
            (in_shorter m r v h (let k = (from_shorter m r w (from_take n w _ i)).1 in short v w k b)) b,
      )
        where
          short : (v w : List ℕ) → length w < m → Before rank v w → length v < m
          short v w k (inl l) = omega (arith, k, l)
          short v w k (inr l) = omega (arith, k, l.0)

    module _ (rows : ℕ) (far : ℕ → ℕ) (closed : (r c : ℕ) → r < rows → IsIn c letters → to r c < rows)
        (relaxed : IsRelaxed rows letters to in_cell far) where
      -- no word of a row's cell is shorter than the row's distance
      pub no_shorter : (r : ℕ) (w : List ℕ) → r < rows → Leads letters to in_cell r w → far r ≤ length w
      no_shorter r [] l h = let e : far r ≡ 0 = (relaxed r l).0 h.1 in omega (arith, e)
      no_shorter r (c ∷ w) l h =
          let a : far r ≤ suc (far (to r c)) = (relaxed r l).1 c h.0.0 in
          omega (arith, a, no_shorter (to r c) w (closed r c l h.0.0) (h.0.1, h.1))

      -- no word of the cell is before a greedy one
      pub greedy_first : (r : ℕ) (w v : List ℕ) → r < rows → far r ≡ length w
          → IsGreedy rank letters to in_cell far r w → Leads letters to in_cell r v → Before rank v w → ⊥
      greedy_first r w v l e g h (inl s) = absurd (omega (arith, e, s, no_shorter r v l h))
      greedy_first r w v l e g h (inr s) = go r w v l e g h s.0 s.1 where
        go : (r : ℕ) (w v : List ℕ) → r < rows → far r ≡ length w → IsGreedy rank letters to in_cell far r w
            → Leads letters to in_cell r v → length v ≡ length w → Lex rank v w → ⊥
        go r w [] l e g h n x = x
        go r [] (b ∷ v) l e g h n x = x
        go r (c ∷ w) (b ∷ v) l e g h n (inl x) =
            let a : far r ≤ far (to r b) = g.2 b h.0.0 x in
            absurd (omega (arith, a, e, n, no_shorter (to r b) v (closed r b l h.0.0) (h.0.1, h.1)))
        go r (c ∷ w) (b ∷ v) l e g h n (inr x) =
            let f : far r ≡ suc (far (to r c)) = g.1 in
            go (to r c) w v (closed r c l g.0) (omega (arith, e, f)) g.3
            (h.0.1, subst (λ z. in_cell (walk to (to r z) v) ≡ true) x.0 h.1) (omega (arith, n)) x.1
