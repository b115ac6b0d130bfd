-- A chain of positions, each of which names no other than the one before it, is a table. Tests make such tables.
use Rattle.std.proofs.Common.{◌≡◌, ℕ, zero, suc, ◌+◌, ◌<◌, ◌≤◌, List, [], ◌∷◌, ◌++◌, length, get_or, true, ◌&&◌, nat_eq, nat_lt, ◌⊎◌, inl, inr, refl, ap, sym, ◌∙◌, arith}
use Rattle.std.proofs.lemmas.Bool.{eq-eqb, and_from, cases_lt, lt-ltb}
use Rattle.std.proofs.lemmas.List.{length-append}
use Rattle.documents.specs.Tests.{every}
use Rattle.positions.specs.Position.{Position, Not, LengthMin, in_place, names_below, in_range, ranks_fall, is_table}
use Rattle.list_laws.proofs.Every.{every_joined}
use Rattle.position_laws.proofs.Joined.{ranks_fall-append}

-- ranks

abbrev pub numbers : ℕ → List ℕ
numbers zero = 0 ∷ []
numbers (suc n) = numbers n ++ suc n ∷ []

length-numbers : (n : ℕ) → length (numbers n) ≡ suc n
length-numbers zero = refl
length-numbers (suc n) = length-append (numbers n) (suc n ∷ []) ∙ omega (arith, length-numbers n)

get_or-left : (xs ys : List ℕ) (k : ℕ) → k < length xs → get_or (xs ++ ys) k 0 ≡ get_or xs k 0
get_or-left [] ys k l = absurd (omega (arith, l))
get_or-left (x ∷ xs) ys zero l = refl
get_or-left (x ∷ xs) ys (suc k) l = get_or-left xs ys k (omega (arith, l))

get_or-last : (xs : List ℕ) (y k : ℕ) → k ≡ length xs → get_or (xs ++ y ∷ []) k 0 ≡ y
get_or-last [] y zero e = refl
get_or-last [] y (suc k) e = absurd (omega (arith, e))
get_or-last (x ∷ xs) y zero e = absurd (omega (arith, e))
get_or-last (x ∷ xs) y (suc k) e = get_or-last xs y k (omega (arith, e))

number-at : (m k : ℕ) → k ≤ m → get_or (numbers m) k 0 ≡ k
number-at zero k l = ap (λ i. get_or (0 ∷ []) i 0) none ∙ sym none where
  none : k ≡ 0
  none = omega (arith, l)
number-at (suc m) k l = go (split k m l) (λ h. number-at m k h) where
  split : (k m : ℕ) → k ≤ suc m → (k ≤ m) ⊎ (k ≡ suc m)
  split k m l = elim (cases_lt m k) [ inl a ↦ inr (omega (arith, a, l)) | inr b ↦ inl b ]

  go : (k ≤ m) ⊎ (k ≡ suc m) → (k ≤ m → get_or (numbers m) k 0 ≡ k) → get_or (numbers m ++ suc m ∷ []) k 0 ≡ k
  go (inl h) before = get_or-left (numbers m) (suc m ∷ []) k (omega (arith, h, length-numbers m)) ∙ before h
  go (inr h) before = get_or-last (numbers m) (suc m) k (omega (arith, h, length-numbers m)) ∙ sym h

-- links

-- a position that names at most n, in place
pub record IsLink (n : ℕ) (P : Position) : Type 0 where
  pub named : (m : ℕ) → n < m → names_below m P ≡ true
  pub ranged : in_range P ≡ true
  pub falls : (ranks : List ℕ) (p : ℕ) → get_or ranks n 0 < get_or ranks p 0
      → every (λ q. nat_lt (get_or ranks q 0) (get_or ranks p 0)) (in_place P) ≡ true

-- one condition on strings, and so many links
module _ (link : ℕ → Position) where
  -- one condition, and n links behind it
  abbrev pub chain : ℕ → List Position
  chain zero = LengthMin 1 ∷ []
  chain (suc n) = chain n ++ link n ∷ []

  pub length-chain : (n : ℕ) → length (chain n) ≡ suc n
  length-chain zero = refl
  length-chain (suc n) = length-append (chain n) (link n ∷ []) ∙ omega (arith, length-chain n)

  module _ (is : (n : ℕ) → IsLink n (link n)) where
    below : (n m : ℕ) → n < m → every (names_below m) (chain n) ≡ true
    below zero m l = refl
    below (suc n) m l =
        every_joined (names_below m) (chain n) (link n ∷ []) (below n m (omega (arith, l)))
        (ap (λ b. b && true) ((is n).named m (omega (arith, l))))

    fall : (n m : ℕ) → n ≤ m → ranks_fall (numbers m) 0 (chain n) ≡ true
    fall zero m l = refl
    fall (suc n) m l =
        let p = 0 + length (chain n) in
        let at : p ≡ suc n = omega (arith, length-chain n) in
        let less : get_or (numbers m) n 0 < get_or (numbers m) p 0 =
        omega (arith, number-at m n (omega (arith, l)), number-at m p (omega (arith, l, at)), at) in
        ranks_fall-append (numbers m) 0 (chain n) (link n ∷ [])
        ∙ and_from _ _ (fall n m (omega (arith, l))) (ap (λ b. b && true) ((is n).falls (numbers m) p less))

    ranged : (n : ℕ) → every in_range (chain n) ≡ true
    ranged zero = refl
    ranged (suc n) = every_joined in_range (chain n) (link n ∷ []) (ranged n) (ap (λ b. b && true) (is n).ranged)

    -- a chain of links is a table, whose ranks are the numbers from 0 on
    pub chain-is_table : (n : ℕ) → is_table (chain n) (numbers n) ≡ true
    chain-is_table n =
        and_from _ (ranks_fall (numbers n) 0 (chain n))
        (and_from _ (every in_range (chain n))
        (and_from (nat_eq (length (chain n)) (length (numbers n))) (every (names_below (length (chain n))) (chain n))
        (eq-eqb _ _ (length-chain n ∙ sym (length-numbers n)))
        (below n (length (chain n)) (omega (arith, length-chain n)))) (ranged n)) (fall n n (omega arith))

-- each link the opposite of the position before it

Not-IsLink : (n : ℕ) → IsLink n (Not n)
Not-IsLink n = record {
  named = λ m l. ap (λ b. (b && true) && true) (lt-ltb n m l);
  ranged = refl;
  falls = λ ranks p l. ap (λ b. b && true) (lt-ltb _ _ l);
}

pub opposites-is_table : (n : ℕ) → is_table (chain Not n) (numbers n) ≡ true
opposites-is_table n = chain-is_table Not Not-IsLink n
