-- Labels of which no row requires more bound the numbers of words. Different words of a row are parted by their first
-- letters, what follows a letter leads from its target, and the target's label bounds that, by induction over the
-- length of the words.
use Rattle.std.proofs.Common.{◌≡◌, ℕ, zero, suc, ◌+◌, ◌≤◌, ◌<◌, ◌⊎◌, inl, inr, ⊎_elim, List, [], ◌∷◌, Bool, true, false, cond, length, nat_eq, refl, ap, ap₂, sym, subst, arith}
use Rattle.std.proofs.lemmas.Bool.{eqb-true, eq-eqb}
use Rattle.cell_laws.specs.Leading.{AllIn, walk, Leads, AtMost, asked, IsStable}
use Rattle.list_laws.proofs.Counts.{sum_over}
use Rattle.cell_laws.proofs.Lists.{lead_at}
use Rattle.list_laws.specs.In.{Distinct, IsIn}

-- what follows the letter in the words that begin with it
abbrev pub tails : ℕ → List (List ℕ) → List (List ℕ)
tails c [] = []
tails c ([] ∷ ws) = tails c ws
tails c ((x ∷ w) ∷ ws) = cond (nat_eq x c) (w ∷ tails c ws) (tails c ws)

from_tails : (c : ℕ) (w : List ℕ) (ws : List (List ℕ)) → IsIn w (tails c ws) → IsIn (c ∷ w) ws
from_tails c w [] i = absurd i
from_tails c w ([] ∷ ws) i = inr (from_tails c w ws i)
from_tails c w ((x ∷ v) ∷ ws) i = go (nat_eq x c) refl i (from_tails c w ws) where
  go : (b : Bool) → nat_eq x c ≡ b → IsIn w (cond b (v ∷ tails c ws) (tails c ws))
      → (IsIn w (tails c ws) → IsIn (c ∷ w) ws) → IsIn (c ∷ w) ((x ∷ v) ∷ ws)
  go true e (inl q) more = inl (ap₂ (λ a b. a ∷ b) (sym (eqb-true x c e)) q)
  go true e (inr i) more = inr (more i)
  go false e i more = inr (more i)

distinct_tails : (c : ℕ) (ws : List (List ℕ)) → Distinct ws → Distinct (tails c ws)
distinct_tails c [] d = tt
distinct_tails c ([] ∷ ws) d = distinct_tails c ws d.1
distinct_tails c ((x ∷ v) ∷ ws) d = go (nat_eq x c) refl (distinct_tails c ws d.1) where
  go : (b : Bool) → nat_eq x c ≡ b → Distinct (tails c ws) → Distinct (cond b (v ∷ tails c ws) (tails c ws))
  go true e t = ((λ i. d.0 (subst (λ z. IsIn (z ∷ v) ws) (sym (eqb-true x c e)) (from_tails c v ws i))), t)
  go false e t = t

abbrev pub total : List ℕ → List (List ℕ) → ℕ
total cs ws = sum_over (λ c. length (tails c ws)) cs

tails_more : (c x : ℕ) (v : List ℕ) (ws : List (List ℕ)) → length (tails c ws) ≤ length (tails c ((x ∷ v) ∷ ws))
tails_more c x v ws = go (nat_eq x c) where
  go : (b : Bool) → length (tails c ws) ≤ length (cond b (v ∷ tails c ws) (tails c ws))
  go true = omega arith
  go false = omega arith

total_empty : (cs : List ℕ) (ws : List (List ℕ)) → total cs ([] ∷ ws) ≡ total cs ws
total_empty [] ws = refl
total_empty (c ∷ cs) ws = ap (λ n. length (tails c ws) + n) (total_empty cs ws)

total_more : (cs : List ℕ) (x : ℕ) (v : List ℕ) (ws : List (List ℕ)) → total cs ws ≤ total cs ((x ∷ v) ∷ ws)
total_more [] x v ws = omega arith
total_more (c ∷ cs) x v ws = omega (arith, tails_more c x v ws, total_more cs x v ws)

total_letter : (cs : List ℕ) (x : ℕ) (v : List ℕ) (ws : List (List ℕ)) → IsIn x cs
    → suc (total cs ws) ≤ total cs ((x ∷ v) ∷ ws)
total_letter [] x v ws i = absurd i
total_letter (c ∷ cs) x v ws (inl e) =
    let h : suc (length (tails c ws)) ≤ length (tails c ((x ∷ v) ∷ ws)) = rw (eq-eqb x c e) (omega arith) in
    omega (arith, h, total_more cs x v ws)
total_letter (c ∷ cs) x v ws (inr i) = omega (arith, tails_more c x v ws, total_letter cs x v ws i)

-- at most one word of different words is empty
empty_count : (cs : List ℕ) (ws : List (List ℕ)) → Distinct ws → ((c : ℕ) (w : List ℕ) → IsIn (c ∷ w) ws → IsIn c cs)
    → (e : ℕ) × (e ≤ 1) × (length ws ≤ e + total cs ws) × ((e ≡ 0) ⊎ IsIn [] ws)
empty_count cs [] d h = (0, omega arith, omega arith, inl refl)
empty_count cs ([] ∷ ws) d h =
    let (e, a, b, o) = empty_count cs ws d.1 (λ c w i. h c w (inr i)) in
    (1, omega arith, ⊎_elim (λ z. omega (arith, b, z, total_empty cs ws)) (λ i. absurd (d.0 i)) o, inr (inl refl))
empty_count cs ((x ∷ v) ∷ ws) d h =
    let (e, a, b, o) = empty_count cs ws d.1 (λ c w i. h c w (inr i)) in
    (e, a, omega (arith, b, total_letter cs x v ws (h x v (inl refl))), ⊎_elim (λ z. inl z) (λ i. inr (inr i)) o)

sum_less : (f g : ℕ → ℕ) (cs : List ℕ) → ((c : ℕ) → IsIn c cs → f c ≤ g c) → sum_over f cs ≤ sum_over g cs
sum_less f g [] h = omega arith
sum_less f g (c ∷ cs) h = omega (arith, h c (inl refl), sum_less f g cs (λ d i. h d (inr i)))

sum_part : (f : ℕ → ℕ) (c : ℕ) (cs : List ℕ) → IsIn c cs → f c ≤ sum_over f cs
sum_part f c [] i = absurd i
sum_part f c (d ∷ cs) (inl e) = rw e (omega arith)
sum_part f c (d ∷ cs) (inr i) = omega (arith, sum_part f c cs i)

longest : (ws : List (List ℕ)) → (n : ℕ) × ((w : List ℕ) → IsIn w ws → length w < n)
longest [] = (0, λ w i. absurd i)
longest (v ∷ ws) =
    let (n, h) = longest ws in (
      suc (length v + n),
      λ w i. ⊎_elim (λ e. let q : length w ≡ length v = ap length e in omega (arith, q))
          (λ i. omega (arith, h w i)) i,
    )

module _ (rows : ℕ) (letters : List ℕ) (to : ℕ → ℕ → ℕ) (in_cell : ℕ → Bool) (bound : ℕ) (label : ℕ → ℕ)
    (closed : (r c : ℕ) → r < rows → IsIn c letters → to r c < rows)
    (stable : IsStable rows letters to in_cell bound label) where
  short : (n r : ℕ) (ws : List (List ℕ)) → r < rows → label r < bound → Distinct ws
      → ((w : List ℕ) → IsIn w ws → (length w < n) × Leads letters to in_cell r w) → length ws ≤ label r
  short zero r [] l b d h = omega arith
  short zero r (w ∷ ws) l b d h = absurd (omega (arith, (h w (inl refl)).0))
  short (suc n) r ws l b d h =
      let (e, a, k, o) = empty_count letters ws d (λ c w i. (h (c ∷ w) i).1.0.0) in
      let q : asked letters to in_cell label r ≤ label r = stable r l b in
      let s = sum_less (λ c. length (tails c ws)) (λ c. label (to r c)) letters (λ c j.
      short n (to r c) (tails c ws) (closed r c l j)
      (omega (arith, q, b, sum_part (λ c. label (to r c)) c letters j)) (distinct_tails c ws d)
      (λ w i. let (l, m) = h (c ∷ w) (from_tails c w ws i) in (omega (arith, l), (m.0.1, m.1)))) in
      let t : e ≤ cond (in_cell r) 1 0 = ⊎_elim (λ z. omega (arith, z)) (λ i. rw ((h [] i).1.1) a) o in
      omega (arith, k, s, t, q)

  -- a stable label below the bound is an upper bound
  pub upper : (r : ℕ) → r < rows → label r < bound → AtMost letters to in_cell r (label r)
  upper r l b ws d h =
      let (n, s) = longest ws in
      short n r ws l b d (λ w i. (s w i, lead_at letters to in_cell r w ws h i))

  -- no row that a word leads to has a greater label: where the first label is below the bound, no label is cut
  pub down : (w : List ℕ) (r : ℕ) → r < rows → label r < bound → AllIn letters w → label (walk to r w) ≤ label r
  down [] r l b a = omega arith
  down (c ∷ w) r l b a =
      let q : asked letters to in_cell label r ≤ label r = stable r l b in
      let p : label (to r c) ≤ sum_over (λ c. label (to r c)) letters =
      sum_part (λ c. label (to r c)) c letters a.0 in
      omega (arith, q, p, down w (to r c) (closed r c l a.0) (omega (arith, q, p, b)) a.1)
