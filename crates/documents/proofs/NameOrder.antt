-- The order of names: no name comes before itself, and what comes before a name comes before all that it comes before.
use Rattle.std.proofs.Common.{◌≡◌, ℕ, ◌<◌, List, [], ◌∷◌, Bool, true, false, cond, nat_eq, nat_lt, ◌⊎◌, inl, inr, refl, sym, ap, ◌∙◌, arith, true≢false}
use Rattle.documents.specs.Tests.{comes_before}

pub comes_before-same : (w : List ℕ) → comes_before w w ≡ false
comes_before-same [] = refl
comes_before-same (c ∷ w) = let same : nat_eq c c ≡ true = grind arith in rw same (comes_before-same w)

-- the first characters of words of which one comes before the other
first_before : (c d : ℕ) (v w : List ℕ) (same : Bool) → nat_eq c d ≡ same → comes_before (c ∷ v) (d ∷ w) ≡ true
    → (c < d) ⊎ ((c ≡ d) × (comes_before v w ≡ true))
first_before c d v w true e h =
    inr (grind (arith, e), sym (ap (λ b. cond b (comes_before v w) (nat_lt c d)) e) ∙ h)
first_before c d v w false e h =
    let less = sym (ap (λ b. cond b (comes_before v w) (nat_lt c d)) e) ∙ h in inl (grind (arith, less))

pub smaller_first : (c d : ℕ) (v w : List ℕ) → c < d → comes_before (c ∷ v) (d ∷ w) ≡ true
smaller_first c d v w h =
    let other : nat_eq c d ≡ false = grind (arith, h) in let less : nat_lt c d ≡ true = grind (arith, h) in
    rw (other, less) refl

pub same_first : (c d : ℕ) (v w : List ℕ) → c ≡ d → comes_before v w ≡ true → comes_before (c ∷ v) (d ∷ w) ≡ true
same_first c d v w e h = let same : nat_eq c d ≡ true = grind (arith, e) in rw same h

first_trans : (c d e : ℕ) (u v w : List ℕ)
    → (comes_before u v ≡ true → comes_before v w ≡ true → comes_before u w ≡ true)
    → (c < d) ⊎ ((c ≡ d) × (comes_before u v ≡ true)) → (d < e) ⊎ ((d ≡ e) × (comes_before v w ≡ true))
    → comes_before (c ∷ u) (e ∷ w) ≡ true
first_trans c d e u v w later (inl l) (inl r) = smaller_first c e u w (omega arith)
first_trans c d e u v w later (inl l) (inr r) = let same = r.0 in smaller_first c e u w (omega (arith, same))
first_trans c d e u v w later (inr l) (inl r) = let same = l.0 in smaller_first c e u w (omega (arith, same))
first_trans c d e u v w later (inr l) (inr r) = same_first c e u w (l.0 ∙ r.0) (later l.1 r.1)

-- the order of names is transitive
pub comes_before-trans : (u v w : List ℕ) → comes_before u v ≡ true → comes_before v w ≡ true
    → comes_before u w ≡ true
comes_before-trans [] [] w h k = absurd (true≢false (sym h))
comes_before-trans [] (d ∷ v) [] h k = absurd (true≢false (sym k))
comes_before-trans [] (d ∷ v) (e ∷ w) h k = refl
comes_before-trans (c ∷ u) [] w h k = absurd (true≢false (sym h))
comes_before-trans (c ∷ u) (d ∷ v) [] h k = absurd (true≢false (sym k))
comes_before-trans (c ∷ u) (d ∷ v) (e ∷ w) h k =
    first_trans c d e u v w (comes_before-trans u v w)
    (first_before c d u v (nat_eq c d) refl h) (first_before d e v w (nat_eq d e) refl k)
