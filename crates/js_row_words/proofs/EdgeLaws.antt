-- Chains of the edges that lead to a row.
use Rattle.std.proofs.Common.{◌≡◌, ℕ, zero, suc, ◌+◌, ◌-◌, ◌*◌, ◌/◌, ◌%◌, ◌<◌, ◌≤◌, ◌⊎◌, inl, inr, List, [], ◌∷◌, ◌++◌, length, get_or, set, Bool, true, false, cond, nat_eq, refl, ap, ap₂, sym, ◌∙◌, subst, arith}
use Rattle.std.proofs.lemmas.List.{get_or-set_same, get_or-set_other}
use Rattle.std.proofs.lemmas.Nat.{div-mul-add, mod-mul-add}
use Rattle.std.proofs.Math.Nat.{mul-le-mul, div-lt_iff_lt-mul, mod-lt}
use Rattle.std.proofs.lemmas.Bool.{eqb-true, eqb-false, eq-eqb, cases_eq}
use Rattle.word_states.specs.Atom.{Atom}
use Rattle.word_states.specs.Classes.{class_count}
use Rattle.cell_laws.proofs.Rows.{target_in}
use Rattle.js_row_words.specs.Edges.{edge_target, edge_count, last_edge, HaveSources}
use Rattle.std.proofs.Math.Numerals.{suc-eq-add-one}

module _ (target : ℕ → ℕ) where
  -- the last edge leads to the row
  pub last_leads : (n t e : ℕ) → last_edge target n t ≡ suc e → (e < n) × (target e ≡ t)
  last_leads zero t e q = absurd (omega (arith, q))
  last_leads (suc n) t e q = go (nat_eq (target n) t) refl q (last_leads n t e) where
    go : (b : Bool) → nat_eq (target n) t ≡ b → cond b (suc n) (last_edge target n t) ≡ suc e
        → (last_edge target n t ≡ suc e → (e < n) × (target e ≡ t)) → (e < suc n) × (target e ≡ t)
    go true s q more = let p : e ≡ n = omega (arith, q) in
        (omega (arith, p), ap target p ∙ eqb-true (target n) t s)
    go false s q more = let (l, h) = more q in (omega (arith, l), h)

  -- no later edge leads there
  pub last_after : (n t e : ℕ) → e < n → target e ≡ t → e < last_edge target n t
  last_after zero t e l q = absurd (omega (arith, l))
  last_after (suc n) t e l q = go (nat_eq (target n) t) refl (λ m. last_after n t e m q) where
    go : (b : Bool) → nat_eq (target n) t ≡ b → (e < n → e < last_edge target n t)
        → e < cond b (suc n) (last_edge target n t)
    go true s more = l
    go false s more = elim (cases_eq e n) [
      | inl p ↦ absurd (eqb-false (target n) t s (ap target (sym p) ∙ q))
      | inr p ↦ more (omega (arith, l, p))
    ]

  pub last_within : (n t : ℕ) → last_edge target n t ≤ n
  last_within zero t = omega arith
  last_within (suc n) t = go (nat_eq (target n) t) (last_within n t) where
    go : (b : Bool) → last_edge target n t ≤ n → cond b (suc n) (last_edge target n t) ≤ suc n
    go true l = omega arith
    go false l = omega (arith, l)

module _ (atoms : List Atom) (L : List (List ℕ)) where
  -- the chains of the first edges
  abbrev pub AreChains : List ℕ → List ℕ → ℕ → Type 0
  AreChains last before n =
      (length last ≡ length L)
      × (length before ≡ n)
      × ((t : ℕ) → t < length L → get_or last t 0 ≡ last_edge (edge_target atoms L) n t)
      × ((e : ℕ) → e < n → get_or before e 0 ≡ last_edge (edge_target atoms L) e (edge_target atoms L e))

  -- an edge's row and class
  pub edge_row : (e : ℕ) → e < edge_count atoms L
      → (e / class_count atoms < length L) × (e % class_count atoms < class_count atoms)
  edge_row e l = row (class_count atoms) (length L) e l where
    row : (n m e : ℕ) → e < m * n → (e / n < m) × (e % n < n)
    row zero m e l = absurd (grind (arith, l))
    row (suc n) m e l = ((div-lt_iff_lt-mul (omega arith)).1 l, mod-lt e (omega arith))

  -- rows whose classes' edges lead to one of these are of these
  pub sources_closed : (seen : List Bool)
      → ((t : ℕ) → get_or seen t false ≡ true → HaveSources atoms L seen t)
      → (r k : ℕ) → r < length L → k < class_count atoms → get_or seen (target_in atoms L r k) false ≡ true
      → get_or seen r false ≡ true
  sources_closed seen have r k l m s =
      let n = class_count atoms in
      let d : (r * n + k) / n ≡ r = div-mul-add r n k m in
      let f : (r * n + k) % n ≡ k = mod-mul-add r n k m in
      subst (λ z. get_or seen z false ≡ true) d
      (have (target_in atoms L r k) s (r * n + k) (place r k (length L) n l m)
      (ap₂ (λ a b. target_in atoms L a b) d f)) where
        place : (r k rows n : ℕ) → r < rows → k < n → r * n + k < rows * n
        place r k rows n a b =
            let h : suc r * n ≤ rows * n = mul-le-mul (let q : suc r ≤ rows = omega (arith, a) in q)
            (let q : n ≤ n = omega arith in q) in
            omega (arith, h, b)
