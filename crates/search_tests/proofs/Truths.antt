-- A table of truth values.
use Rattle.std.proofs.Common.{◌≡◌, ℕ, zero, suc, ◌+◌, ◌++◌, arith, Bool, true, List, [], ◌∷◌, length, replicate, refl, sym, ap, ◌∙◌, subst}
use Rattle.std.proofs.lemmas.Bool.{and_from, eq-eqb}
use Rattle.std.proofs.lemmas.List.{length-replicate}
use Rattle.documents.specs.Tests.{every}
use Rattle.positions.specs.Position.{Position, BoolIs, is_table, names_below, in_range, ranks_fall}

truths_in : (p : Position → Bool) → p (BoolIs true) ≡ true → (n : ℕ) → every p (replicate n (BoolIs true)) ≡ true
truths_in p e zero = refl
truths_in p e (suc n) = and_from (p (BoolIs true)) (every p (replicate n (BoolIs true))) e (truths_in p e n)

truths_fall : (ranks : List ℕ) (p n : ℕ) → ranks_fall ranks p (replicate n (BoolIs true)) ≡ true
truths_fall ranks p zero = refl
truths_fall ranks p (suc n) = truths_fall ranks (suc p) n

pub truths_table : (n : ℕ) → is_table (replicate n (BoolIs true)) (replicate n 0) ≡ true
truths_table n =
    let P = replicate n (BoolIs true) in
    let low = truths_in (names_below (length P)) refl n in
    let ranged = truths_in in_range refl n in
    let many = length-replicate n (BoolIs true) ∙ sym (length-replicate n 0) in
    and_from _ _ (and_from _ _ (and_from _ _ (eq-eqb _ _ many) low) ranged) (truths_fall (replicate n 0) 0 n)

-- one more at the end
pub replicate_last : {A : Type 0} (x : A) (n m : ℕ) → m ≡ n + 1 → replicate n x ++ x ∷ [] ≡ replicate m x
replicate_last x n m e = let same : suc n ≡ m = omega (arith, e) in
    subst (λ k. replicate n x ++ x ∷ [] ≡ replicate k x) same (go n) where
      go : (n : ℕ) → replicate n x ++ x ∷ [] ≡ replicate (suc n) x
      go zero = refl
      go (suc n) = ap (λ l. x ∷ l) (go n)
