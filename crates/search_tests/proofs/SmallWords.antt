-- The words of the expander that the tests have.
use Rattle.std.proofs.Common.{◌≡◌, ◌≢◌, ◌<◌, ◌≤◌, ℕ, zero, suc, List, [], ◌∷◌, take, refl, ap, ◌∙◌, arith, chars, codes, rules}
use Rattle.std.proofs.lemmas.Str.{chars-IsAscii}
use Rattle.alternatives.specs.Slots.{capacity, cell_at}
use Rattle.search_tests.specs.Small.{cells}

pub no_words : (cell count : ℕ) → count ≡ 0 → [] ≡ take count (cell_at cells cell)
no_words cell zero e = refl
no_words cell (suc n) e = absurd (omega (arith, e))

letter_a : chars (codes "a") ≡ 97 ∷ []
letter_a = chars-IsAscii (codes "a") (search rules)

letter_b : chars (codes "b") ≡ 98 ∷ []
letter_b = chars-IsAscii (codes "b") (search rules)

letter_c : chars (codes "c") ≡ 99 ∷ []
letter_c = chars-IsAscii (codes "c") (search rules)

letter_d : chars (codes "d") ≡ 100 ∷ []
letter_d = chars-IsAscii (codes "d") (search rules)

-- any words requested of cell 1 are the word "a" alone
pub first_a : (cell count : ℕ) (v : List ℕ) → cell ≡ 1 → count ≤ capacity (cell_at cells cell) → count ≢ 0
    → v ≡ chars (codes "a") → v ∷ [] ≡ take count (cell_at cells cell)
first_a zero count v e l n h = absurd (omega (arith, e))
first_a (suc zero) zero v e l n h = absurd (n refl)
first_a (suc zero) (suc zero) v e l n h = ap (λ w. w ∷ []) (h ∙ letter_a)
first_a (suc zero) (suc (suc k)) v e l n h = absurd (omega (arith, l))
first_a (suc (suc c)) count v e l n h = absurd (omega (arith, e))

pub first_b : (cell count : ℕ) (v : List ℕ) → cell < 2 → cell ≢ 1 → count ≡ 1 → v ≡ chars (codes "b")
    → v ∷ [] ≡ take count (cell_at cells cell)
first_b zero zero v l n e h = absurd (omega (arith, e))
first_b zero (suc zero) v l n e h = ap (λ w. w ∷ []) (h ∙ letter_b)
first_b zero (suc (suc k)) v l n e h = absurd (omega (arith, e))
first_b (suc zero) count v l n e h = absurd (n refl)
first_b (suc (suc c)) count v l n e h = absurd (omega (arith, l))

pub first_c : (cell count : ℕ) (v w : List ℕ) → cell < 2 → cell ≢ 1 → count ≡ 2 → v ≡ chars (codes "b")
    → w ≡ chars (codes "c") → v ∷ w ∷ [] ≡ take count (cell_at cells cell)
first_c zero zero v w l n e h k = absurd (omega (arith, e))
first_c zero (suc zero) v w l n e h k = absurd (omega (arith, e))
first_c zero (suc (suc zero)) v w l n e h k =
    ap (λ x. x ∷ w ∷ []) (h ∙ letter_b) ∙ ap (λ x. (98 ∷ []) ∷ x ∷ []) (k ∙ letter_c)
first_c zero (suc (suc (suc m))) v w l n e h k = absurd (omega (arith, e))
first_c (suc zero) count v w l n e h k = absurd (n refl)
first_c (suc (suc c)) count v w l n e h k = absurd (omega (arith, l))

pub first_d : (cell count : ℕ) (v w u : List ℕ) → cell < 2 → cell ≢ 1 → count ≤ capacity (cell_at cells cell)
    → count ≢ 0 → count ≢ 1 → count ≢ 2 → v ≡ chars (codes "b") → w ≡ chars (codes "c") → u ≡ chars (codes "d")
    → v ∷ w ∷ u ∷ [] ≡ take count (cell_at cells cell)
first_d zero zero v w u l n m a b c h k q = absurd (a refl)
first_d zero (suc zero) v w u l n m a b c h k q = absurd (b refl)
first_d zero (suc (suc zero)) v w u l n m a b c h k q = absurd (c refl)
first_d zero (suc (suc (suc zero))) v w u l n m a b c h k q =
    ap (λ x. x ∷ w ∷ u ∷ []) (h ∙ letter_b) ∙ ap (λ x. (98 ∷ []) ∷ x ∷ u ∷ []) (k ∙ letter_c)
    ∙ ap (λ x. (98 ∷ []) ∷ (99 ∷ []) ∷ x ∷ []) (q ∙ letter_d)
first_d zero (suc (suc (suc (suc j)))) v w u l n m a b c h k q = absurd (omega (arith, m))
first_d (suc zero) count v w u l n m a b c h k q = absurd (n refl)
first_d (suc (suc c')) count v w u l n m a b c h k q = absurd (omega (arith, l))
