-- The k-th word of a list by counts alone: the words that begin with earlier letters are passed, letter by letter. And
-- the order of words is total, so there is one list of first words of each length.
use Rattle.std.proofs.Common.{◌≡◌, ℕ, zero, suc, ◌+◌, ◌-◌, ◌≤◌, ◌<◌, ◌⊎◌, inl, inr, ⊎_elim, List, [], ◌∷◌, ◌++◌, map, get_or, nat_lt, Bool, true, false, cond, length, refl, ap, ap₂, sym, ◌∙◌, subst, arith}
use Rattle.std.specs.List.{flat_map}
use Rattle.std.proofs.lemmas.List.{length-append, length-map, append_assoc, get_or_append_left, get_or-map}
use Rattle.std.proofs.lemmas.Bool.{ltb-true, ltb-false}
use Rattle.std.proofs.Math.Seq.{get_or-append_right}
use Rattle.cell_laws.specs.Leading.{Leads}
use Rattle.list_laws.proofs.Counts.{sum_over}
use Rattle.cell_laws.proofs.Lists.{lead_at}
use Rattle.cell_laws.specs.FirstWords.{Lex, Before, IsOrdered, AreFirst, of_length, pick, word_at, count_of}
use Rattle.list_laws.specs.In.{IsIn}
use Rattle.list_laws.proofs.Lists.{from_append, in_right}
use Rattle.list_laws.proofs.Numbers.{three_ways}

module _ (letters : List ℕ) (to : ℕ → ℕ → ℕ) (in_cell : ℕ → Bool) where
  pub counted : (m r : ℕ) → length (of_length letters to in_cell m r) ≡ count_of letters to in_cell m r
  counted zero r = go (in_cell r) where
    go : (b : Bool) → length {A = List ℕ} (cond b ([] ∷ []) []) ≡ cond b 1 0
    go true = refl
    go false = refl
  counted (suc m) r = go letters (counted m) where
    go : (cs : List ℕ) → ((r : ℕ) → length (of_length letters to in_cell m r) ≡ count_of letters to in_cell m r)
        → length (flat_map (λ c. map (λ w. c ∷ w) (of_length letters to in_cell m (to r c))) cs) ≡ sum_over
        (λ c. count_of letters to in_cell m (to r c)) cs
    go [] h = refl
    go (c ∷ cs) h =
        length-append (map (λ w. c ∷ w) (of_length letters to in_cell m (to r c))) _
        ∙ ap₂ (λ a b. a + b) (length-map (of_length letters to in_cell m (to r c)) (λ w. c ∷ w) ∙ h (to r c))
        (go cs h)

  -- the k-th word by counts is the k-th of the list, also where the counts are cut above k
  pub word_is : (count : ℕ → ℕ → ℕ) (bound : ℕ)
      → ((m r : ℕ) → (count m r ≡ count_of letters to in_cell m r)
      ⊎ ((count m r ≡ bound) × (bound ≤ count_of letters to in_cell m r)))
      → (m r k : ℕ) → k < bound → k < count_of letters to in_cell m r
      → get_or (of_length letters to in_cell m r) k [] ≡ word_at letters to count m r k
  word_is count bound cut zero r k b l = go (in_cell r) l where
    go : (b : Bool) → k < cond b 1 0 → get_or {A = List ℕ} (cond b ([] ∷ []) []) k [] ≡ []
    go true l = ap (λ z. get_or {A = List ℕ} ([] ∷ []) z []) (let e : k ≡ 0 = omega (arith, l) in e)
    go false l = absurd (omega (arith, l))
  word_is count bound cut (suc m) r k b l = go letters k b l (word_is count bound cut m) where
    Part : ℕ → List (List ℕ)
    Part c = map (λ w. c ∷ w) (of_length letters to in_cell m (to r c))

    go : (cs : List ℕ) (k : ℕ) → k < bound → k < sum_over (λ c. count_of letters to in_cell m (to r c)) cs
        → ((r k : ℕ) → k < bound → k < count_of letters to in_cell m r
        → get_or (of_length letters to in_cell m r) k [] ≡ word_at letters to count m r k)
        → get_or (flat_map (λ c. map (λ w. c ∷ w) (of_length letters to in_cell m (to r c))) cs) k [] ≡ pick
        (λ c. count m (to r c)) (λ c k. word_at letters to count m (to r c) k) cs k
    go [] k b l h = absurd (omega (arith, l))
    go (c ∷ cs) k b l h = at (nat_lt k (count m (to r c))) refl (go cs (k - count m (to r c))) where
      n : length (map (λ w. c ∷ w) (of_length letters to in_cell m (to r c))) ≡ count_of letters to in_cell m (to r c)
      n = length-map (of_length letters to in_cell m (to r c)) (λ w. c ∷ w) ∙ counted m (to r c)

      at : (t : Bool) → nat_lt k (count m (to r c)) ≡ t
          → (k - count m (to r c) < bound
          → k - count m (to r c) < sum_over (λ c. count_of letters to in_cell m (to r c)) cs
          → ((r k : ℕ) → k < bound → k < count_of letters to in_cell m r
          → get_or (of_length letters to in_cell m r) k [] ≡ word_at letters to count m r k)
          → get_or (flat_map (λ c. map (λ w. c ∷ w) (of_length letters to in_cell m (to r c))) cs)
          (k - count m (to r c)) [] ≡ pick (λ c. count m (to r c))
          (λ c k. word_at letters to count m (to r c) k) cs (k - count m (to r c)))
          → get_or (map (λ w. c ∷ w) (of_length letters to in_cell m (to r c))
          ++ flat_map (λ c. map (λ w. c ∷ w) (of_length letters to in_cell m (to r c))) cs) k []
          ≡ cond t (c ∷ word_at letters to count m (to r c) k)
          (pick (λ c. count m (to r c)) (λ c k. word_at letters to count m (to r c) k) cs (k - count m (to r c)))
      at true e more =
          let j = ltb-true k (count m (to r c)) e in
          let q : k < count_of letters to in_cell m (to r c) =
          ⊎_elim (λ a. omega (arith, j, a)) (λ a. omega (arith, b, a.1)) (cut m (to r c)) in
          get_or_append_left (map (λ w. c ∷ w) (of_length letters to in_cell m (to r c))) _ [] k (omega (arith, n, q))
          ∙ get_or-map (λ w. c ∷ w) (of_length letters to in_cell m (to r c)) k [] []
          (let z = counted m (to r c) in omega (arith, z, q))
          ∙ ap (λ z. c ∷ z) (h (to r c) k b q)
      at false e more =
          let j = ltb-false k (count m (to r c)) e in
          let q : count m (to r c) ≡ count_of letters to in_cell m (to r c) =
          ⊎_elim (λ a. a) (λ a. absurd (omega (arith, b, j, a.0))) (cut m (to r c)) in
          get_or-append_right (map (λ w. c ∷ w) (of_length letters to in_cell m (to r c))) _ k []
          (omega (arith, n, j, q))
          ∙ ap (λ z. get_or (flat_map (λ c. map (λ w. c ∷ w) (of_length letters to in_cell m (to r c))) cs) (k - z)
          []) (n ∙ sym q)
          ∙ more (omega (arith, b)) (omega (arith, l, j, q)) h

-- words of letters are in a total order, where letters with one rank are one
module _ (rank : ℕ → ℕ) (letters : List ℕ)
    (apart : (c d : ℕ) → IsIn c letters → IsIn d letters → rank c ≡ rank d → c ≡ d) where
  lex_total : (to : ℕ → ℕ → ℕ) (in_cell : ℕ → Bool) (r q : ℕ) (v w : List ℕ) → Leads letters to in_cell r v
      → Leads letters to in_cell q w → length v ≡ length w → Lex rank v w ⊎ ((v ≡ w) ⊎ Lex rank w v)
  lex_total to in_cell r q [] [] h k e = inr (inl refl)
  lex_total to in_cell r q [] (d ∷ w) h k e = absurd (omega (arith, e))
  lex_total to in_cell r q (c ∷ v) [] h k e = absurd (omega (arith, e))
  lex_total to in_cell r q (c ∷ v) (d ∷ w) h k e =
      go (three_ways (rank c) (rank d))
      (lex_total to in_cell (to r c) (to q d) v w (h.0.1, h.1) (k.0.1, k.1) (omega (arith, e))) where
        go : (rank c < rank d) ⊎ ((rank c ≡ rank d) ⊎ (rank d < rank c)) → Lex rank v w ⊎ ((v ≡ w) ⊎ Lex rank w v)
            → Lex rank (c ∷ v) (d ∷ w) ⊎ ((c ∷ v ≡ d ∷ w) ⊎ Lex rank (d ∷ w) (c ∷ v))
        go (inl l) m = inl (inl l)
        go (inr (inr l)) m = inr (inr (inl l))
        go (inr (inl l)) (inl m) = inl (inr (apart c d h.0.0 k.0.0 l, m))
        go (inr (inl l)) (inr (inl m)) = inr (inl (ap₂ (λ a b. a ∷ b) (apart c d h.0.0 k.0.0 l) m))
        go (inr (inl l)) (inr (inr m)) = inr (inr (inr (sym (apart c d h.0.0 k.0.0 l), m)))

  total : (to : ℕ → ℕ → ℕ) (in_cell : ℕ → Bool) (r : ℕ) (v w : List ℕ) → Leads letters to in_cell r v
      → Leads letters to in_cell r w → Before rank v w ⊎ ((v ≡ w) ⊎ Before rank w v)
  total to in_cell r v w h k = go (three_ways (length v) (length w)) where
    go : (length v < length w) ⊎ ((length v ≡ length w) ⊎ (length w < length v))
        → Before rank v w ⊎ ((v ≡ w) ⊎ Before rank w v)
    go (inl l) = inl (inl l)
    go (inr (inr l)) = inr (inr (inl l))
    go (inr (inl e)) =
        ⊎_elim (λ a. inl (inr (e, a))) (λ b. ⊎_elim (λ a. inr (inl a)) (λ a. inr (inr (inr (sym e, a)))) b)
        (lex_total to in_cell r r v w h k e)

  module _ (asym : (v w : List ℕ) → Before rank v w → Before rank w v → ⊥) (to : ℕ → ℕ → ℕ) (in_cell : ℕ → Bool)
      (r : ℕ) where
    ordered_parts : (P V : List (List ℕ)) → IsOrdered (Before rank) (P ++ V)
        → ((x y : List ℕ) → IsIn x P → IsIn y V → Before rank x y) × IsOrdered (Before rank) V
    ordered_parts [] V o = ((λ x y i j. absurd i), o)
    ordered_parts (p ∷ P) V o =
        let (f, g) = ordered_parts P V o.1 in (
          (λ x y i j. ⊎_elim (λ e. subst (λ z. Before rank z y) (sym e) (o.0 y (in_right y P V j))) (λ k. f x y k j)
              i),
          g,
        )

    -- what is first past a common beginning is not before what is first there in the other list
    not_before : (P V W : List (List ℕ)) (v w : List ℕ) → AreFirst rank letters to in_cell r (P ++ v ∷ V)
        → AreFirst rank letters to in_cell r (P ++ w ∷ W) → Before rank v w → ⊥
    not_before P V W v w a b l =
        let h = lead_at letters to in_cell r v (P ++ v ∷ V) a.1 (in_right v P (v ∷ V) (inl refl)) in
        let same : Before rank v v → ⊥ = λ m. asym v v m m in
        let i = b.2 v w (in_right w P (w ∷ W) (inl refl)) h l in
        elim (from_append v P (w ∷ W) i) [
          | inl j ↦ same ((ordered_parts P (v ∷ V) a.0).0 v v j (inl refl))
          | inr (inl e) ↦ same (subst (λ z. Before rank v z) (sym e) l)
          | inr (inr j) ↦ asym v w l ((ordered_parts P (w ∷ W) b.0).1.0 v j)
        ]

    -- first words of one number are one list
    pub first_same : (P V W : List (List ℕ)) → AreFirst rank letters to in_cell r (P ++ V)
        → AreFirst rank letters to in_cell r (P ++ W) → length V ≡ length W → V ≡ W
    first_same P [] [] a b e = refl
    first_same P [] (w ∷ W) a b e = absurd (omega (arith, e))
    first_same P (v ∷ V) [] a b e = absurd (omega (arith, e))
    first_same P (v ∷ V) (w ∷ W) a b e =
        go (total to in_cell r v w (lead_at letters to in_cell r v (P ++ v ∷ V) a.1 (in_right v P (v ∷ V) (inl refl)))
        (lead_at letters to in_cell r w (P ++ w ∷ W) b.1 (in_right w P (w ∷ W) (inl refl))))
        (λ q. first_same (P ++ v ∷ []) V W
        (subst (λ z. AreFirst rank letters to in_cell r z) (sym (append_assoc P (v ∷ []) V)) a)
        (subst (λ z. AreFirst rank letters to in_cell r z)
        (ap (λ z. P ++ z ∷ W) (sym q) ∙ sym (append_assoc P (v ∷ []) W)) b) (omega (arith, e))) where
          go : Before rank v w ⊎ ((v ≡ w) ⊎ Before rank w v) → (v ≡ w → V ≡ W) → v ∷ V ≡ w ∷ W
          go (inl l) more = absurd (not_before P V W v w a b l)
          go (inr (inr l)) more = absurd (not_before P W V w v b a l)
          go (inr (inl q)) more = ap₂ (λ x y. x ∷ y) q (more q)
