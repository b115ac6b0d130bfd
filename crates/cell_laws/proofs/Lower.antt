-- A row has as many different words as its label where its targets have: words of the targets, each behind its letter,
-- are different. Rows on loops have words without end. So labels that no sweep raises, each with its words, are the
-- capacities.
use Rattle.std.proofs.Common.{◌≡◌, ℕ, zero, suc, ◌+◌, ◌≤◌, ◌<◌, ◌⊎◌, inl, inr, ⊎_elim, List, [], ◌∷◌, ◌++◌, map, take, min, Bool, true, false, cond, length, refl, ap, ap₂, sym, ◌∙◌, subst, arith}
use Rattle.std.proofs.lemmas.List.{length-take, length-append, length-map}
use Rattle.cell_laws.specs.Leading.{Leads, AllLead, HasWords, AtMost, IsCapacity, asked, IsStable}
use Rattle.list_laws.proofs.Counts.{sum_over}
use Rattle.cell_laws.proofs.Lists.{distinct_take, distinct_append, lead_take, lead_append, lead_map}
use Rattle.cell_laws.proofs.Upper.{upper}
use Rattle.list_laws.specs.In.{Distinct, IsIn}
use Rattle.list_laws.proofs.Lists.{from_append, from_map}

abbrev head_or : ℕ → List ℕ → ℕ
head_or d [] = d
head_or d (c ∷ w) = c

abbrev rest : List ℕ → List ℕ
rest [] = []
rest (c ∷ w) = w

distinct_map : (c : ℕ) (ws : List (List ℕ)) → Distinct ws → Distinct (map (λ w. c ∷ w) ws)
distinct_map c [] d = tt
distinct_map c (w ∷ ws) d = (
  (λ i. let (v, k, e) = from_map (λ w. c ∷ w) (c ∷ w) ws i in d.0 (subst (λ z. IsIn z ws) (sym (ap rest e)) k)),
  distinct_map
      c ws d.1,
)

-- the word begins with one of the letters
abbrev pub Begins : List ℕ → List ℕ → Type 0
Begins cs w = (c : ℕ) × (v : List ℕ) × (w ≡ c ∷ v) × IsIn c cs

module _ (letters : List ℕ) (to : ℕ → ℕ → ℕ) (in_cell : ℕ → Bool) where
  abbrev Words : ℕ → ℕ → Type 0
  Words r k = HasWords letters to in_cell r k

  pub none : (r : ℕ) → Words r 0
  none r = ([], refl, tt, tt)

  pub fewer : (r j k : ℕ) → j ≤ k → Words r k → Words r j
  fewer r j k l (ws, e, d, h) = (
    take j ws,
    (let q : length (take j ws) ≡ min j (length ws) = length-take j ws in omega (arith, q, e, l)),
    distinct_take j ws d,
    lead_take letters to in_cell j r ws h,
  )

  gather : (label : ℕ → ℕ) (r : ℕ) → ((c : ℕ) → Words (to r c) (label (to r c))) → (cs : List ℕ) → Distinct cs
      → ((c : ℕ) → IsIn c cs → IsIn c letters)
      → (ws : List (List ℕ)) × (length ws ≡ sum_over (λ c. label (to r c)) cs) × Distinct ws
      × AllLead letters to in_cell r ws × ((w : List ℕ) → IsIn w ws → Begins cs w)
  gather label r have [] d sub = ([], refl, tt, tt, λ w i. absurd i)
  gather label r have (c ∷ cs) d sub =
      let (ws, e, k, h) = have c in
      let (vs, f, m, g, b) = gather label r have cs d.1 (λ c i. sub c (inr i)) in (
        map (λ w. c ∷ w) ws ++ vs,
        length-append (map (λ w. c ∷ w) ws) vs ∙ ap₂ (λ a b. a + b) (length-map ws (λ w. c ∷ w) ∙ e) f,
        distinct_append (map (λ w. c ∷ w) ws) vs (distinct_map c ws k) m (λ x i j.
            let (v, _, p) = from_map (λ w. c ∷ w) x ws i in
            let (a, u, q, s) = b x j in
            d.0 (subst (λ z. IsIn z cs) (ap (head_or 0) (sym q ∙ p)) s)),
        lead_append letters to in_cell r (map (λ w. c ∷ w) ws) vs
            (lead_map letters to in_cell r c ws (sub c (inl refl)) h) g,
        (λ w i. ⊎_elim (λ l. let (v, _, p) = from_map (λ w. c ∷ w) w ws l in (c, v, p, inl refl))
            (λ j. let (a, u, q, s) = b w j in (a, u, q, inr s)) (from_append w (map (λ w. c ∷ w) ws) vs i)),
      )

  -- where each target has as many words as its label, the row has as many as are required of it
  pub step : (label : ℕ → ℕ) (r : ℕ) → Distinct letters → ((c : ℕ) → Words (to r c) (label (to r c)))
      → Words r (asked letters to in_cell label r)
  step label r d have = go (in_cell r) refl where
    go : (b : Bool) → in_cell r ≡ b → Words r (cond b 1 0 + sum_over (λ c. label (to r c)) letters)
    go false e = let (ws, l, k, h, b) = gather label r have letters d (λ c i. i) in
        (ws, (let q = l in omega (arith, q)), k, h)
    go true e =
        let (ws, l, k, h, b) = gather label r have letters d (λ c i. i) in
        ([] ∷ ws, (let q = l in omega (arith, q)), ((λ i. let (a, u, q, s) = b [] i in cc q), k), ((tt, e), h))

  -- rows from each of which a letter leads back among them, and some word into the cell
  module _ (loops : ℕ → Bool) (on : (r : ℕ) → loops r ≡ true → (c : ℕ) × IsIn c letters × (loops (to r c) ≡ true))
      (ends : (r : ℕ) → loops r ≡ true → (w : List ℕ) × Leads letters to in_cell r w) where
    long : (n r : ℕ) → loops r ≡ true → (w : List ℕ) × (n ≤ length w) × Leads letters to in_cell r w
    long zero r e = let (w, h) = ends r e in (w, omega arith, h)
    long (suc n) r e =
        let (c, i, f) = on r e in
        let (w, l, h) = long n (to r c) f in
        (c ∷ w, omega (arith, l), ((i, h.0), h.1))

    many : (k r : ℕ) → loops r ≡ true → (ws : List (List ℕ)) × (length ws ≡ k) × Distinct ws
        × AllLead letters to in_cell r ws × (n : ℕ) × ((w : List ℕ) → IsIn w ws → length w < n)
    many zero r e = ([], refl, tt, tt, 0, λ w i. absurd i)
    many (suc k) r e =
        let (ws, q, d, h, n, s) = many k r e in
        let (w, l, m) = long n r e in (
          w ∷ ws,
          ap suc q,
          ((λ i. absurd (omega (arith, s w i, l))), d),
          (m, h),
          suc (length w),
          λ v i. ⊎_elim
              (λ p. let q : length v ≡ length w = ap length p in omega (arith, q)) (λ i. omega (arith, s v i, l)) i,
        )

    -- the words of such a row have no end
    pub endless : (r k : ℕ) → loops r ≡ true → Words r k
    endless r k e = let (ws, q, d, h, n, s) = many k r e in (ws, q, d, h)

  -- labels that no sweep raises, each with its words, are the capacities
  pub exact : (rows bound : ℕ) (label : ℕ → ℕ) → ((r c : ℕ) → r < rows → IsIn c letters → to r c < rows)
      → IsStable rows letters to in_cell bound label
      → (r : ℕ) → r < rows → label r ≤ bound → Words r (label r) → IsCapacity letters to in_cell bound r (label r)
  exact rows bound label closed stable r l b have = (b, have, go (below (label r) bound b)) where
    below : (a b : ℕ) → a ≤ b → (a ≡ b) ⊎ (a < b)
    below a b l = grind (arith, l)

    go : (label r ≡ bound) ⊎ (label r < bound) → (label r ≡ bound) ⊎ AtMost letters to in_cell r (label r)
    go (inl e) = inl e
    go (inr s) = inr (upper rows letters to in_cell bound label closed stable r l s)
