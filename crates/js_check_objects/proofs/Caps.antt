-- Bounds by the numbers of their cells.
use Rattle.std.proofs.Common.{◌≡◌, ℕ, zero, suc, ◌+◌, cond, nat_eq, List, [], ◌∷◌, ◌++◌, length, get_or, Option, Some, None, refl, ap, ap₂, sym, ◌∙◌, arith}
use Rattle.std.proofs.lemmas.Bool.{ne_eqb}
use Rattle.verdicts.specs.Bounds.{Bound, bounds_of}
use Rattle.js_check_objects.specs.Bounds.{cap_at, with_cap}
use Rattle.list_laws.proofs.Numbers.{nat_eq-suc}

pub cap_none : (os : List (Option ℕ)) (c : ℕ) → cap_at (os ++ None ∷ []) c ≡ cap_at os c
cap_none [] zero = refl
cap_none [] (suc c) = refl
cap_none (o ∷ os) zero = refl
cap_none (o ∷ os) (suc c) = cap_none os c

cap_some : (os : List (Option ℕ)) (n c : ℕ) → cap_at (os ++ Some n ∷ []) c ≡ with_cap (length os) n (cap_at os) c
cap_some [] n zero = refl
cap_some [] n (suc c) = ap (λ b. cond b (Some n) None) (sym (ne_eqb 0 (suc c) (λ e. omega (arith, e))))
cap_some (o ∷ os) n zero = ap (λ b. cond b (Some n) o) (sym (ne_eqb (suc (length os)) 0 (λ e. omega (arith, e))))
cap_some (o ∷ os) n (suc c) =
    cap_some os n c ∙ ap (λ b. cond b (Some n) (cap_at os c)) (nat_eq-suc (length os) c)

pub cap_end : (os : List (Option ℕ)) (cell cap : ℕ) → length os ≡ cell → (c : ℕ)
    → cap_at (os ++ Some cap ∷ []) c ≡ with_cap cell cap (cap_at os) c
cap_end os cell cap e c = cap_some os cap c ∙ ap (λ n. with_cap n cap (cap_at os) c) e

pub cap_next : (caps more : List (Option ℕ)) (bs : List Bound) (cell cap : ℕ) (labels : List ℕ)
    → ((c : ℕ) → cap_at caps c ≡ bounds_of bs c) → cap ≡ get_or labels 0 0
    → ((c : ℕ) → cap_at more c ≡ with_cap cell cap (cap_at caps) c) → (c : ℕ)
    → cap_at more c ≡ bounds_of ((cell, labels) ∷ bs) c
cap_next caps more bs cell cap labels capped e h c =
    h c ∙ ap₂ (λ n o. cond (nat_eq cell c) (Some n) o) e (capped c)
