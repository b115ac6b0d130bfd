-- A list of rows, each of so many places: to write one place of a row changes no other place of it, and no other row.
use Rattle.std.proofs.Common.{◌≡◌, ◌≢◌, ℕ, ◌+◌, ◌*◌, ◌<◌, ◌≤◌, Bool, false, List, length, get_or, set, ap, sym, ◌∙◌, inl, inr, arith}
use Rattle.std.proofs.lemmas.Bool.{cases_lt}
use Rattle.std.proofs.lemmas.List.{get_or-set_same, get_or-set_other}
use Rattle.std.proofs.lemmas.Nat.{same_from_place}

module _ (xs : List Bool) (w r k : ℕ) (v : Bool) (l : k < w) where
  -- an earlier place keeps what it has
  get_or-set_before : (c : ℕ) → c < k → get_or (set xs (r * w + k) v) (r * w + c) false ≡ get_or xs (r * w + c) false
  get_or-set_before c h = get_or-set_other xs (r * w + k) (r * w + c) v false (λ e. omega (arith, h, e))

  -- this place gets the value
  get_or-set_here : r * w + w ≤ length xs → (c : ℕ) → c ≡ k → get_or (set xs (r * w + k) v) (r * w + c) false ≡ v
  get_or-set_here fits c e =
      ap (λ i. get_or (set xs (r * w + k) v) (r * w + i) false) e
      ∙ get_or-set_same xs (r * w + k) v false (omega (arith, fits, l))

  -- the places of the row so far
  pub get_or-set_row : r * w + w ≤ length xs → (p : ℕ → Bool) → ((c : ℕ) → c < k → get_or xs (r * w + c) false ≡ p c)
      → v ≡ p k → (c : ℕ) → c < k + 1 → get_or (set xs (r * w + k) v) (r * w + c) false ≡ p c
  get_or-set_row fits p before here c h = elim (cases_lt c k) [
    | inl less ↦ get_or-set_before c less ∙ before c less
    | inr more ↦ (let e : c ≡ k = omega (arith, h, more) in get_or-set_here fits c e ∙ here ∙ ap p (sym e))
  ]

  -- other rows keep what they have
  pub get_or-set_beside : (d c : ℕ) → c < w → d ≢ r
      → get_or (set xs (r * w + k) v) (d * w + c) false ≡ get_or xs (d * w + c) false
  get_or-set_beside d c h other =
      get_or-set_other xs (r * w + k) (d * w + c) v false
      (λ e. other (same_from_place d c r k w h l e).0)

-- one more row is reported
pub told-more : (w r : ℕ) (old new : ℕ → ℕ → Bool) (p : ℕ → ℕ → Bool)
    → ((d c : ℕ) → d < r → c < w → old d c ≡ p d c) → ((c : ℕ) → c < w → new r c ≡ p r c)
    → ((d c : ℕ) → c < w → d ≢ r → new d c ≡ old d c) → (d c : ℕ) → d < r + 1 → c < w → new d c ≡ p d c
told-more w r old new p before here others d c h l = elim (cases_lt d r) [
  | inl less ↦ others d c l (λ e. omega (arith, less, e)) ∙ before d c less l
  | inr more ↦
      (let e : d ≡ r = omega (arith, h, more) in ap (λ n. new n c) e ∙ here c l ∙ ap (λ n. p n c) (sym e))
]
