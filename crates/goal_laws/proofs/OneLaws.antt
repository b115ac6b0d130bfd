-- What a test makes of the choices of exactly one position, and of not exactly one.
use Rattle.std.proofs.Common.{◌≡◌, ℕ, Bool, ◌&&◌, ◌||◌, List, [], ◌∷◌, map, refl, ap, ap₂, sym, ◌∙◌}
use Rattle.std.proofs.Math.Bool.{and-true, and-false, and-or_distrib_left}
use Rattle.documents.specs.Tests.{every, some}
use Rattle.list_laws.proofs.Elements.{some-append}
use Rattle.goals.specs.Signed.{Signed, Plus, Minus}
use Rattle.goals.specs.Choices.{one_plus, two_plus}

module _ (p : Signed → Bool) where
  -- a signed position in front of each choice is tested once
  some-put : (x : Signed) (cs : List (List Signed)) → some (every p) (map (λ C. x ∷ C) cs) ≡ (p x && some (every p) cs)
  some-put x [] = sym (and-false (p x))
  some-put x (C ∷ cs) =
      ap (λ b. (p x && every p C) || b) (some-put x cs)
      ∙ sym (and-or_distrib_left (p x) (every p C) (some (every p) cs))

  -- of single ones some passes
  some-single : (f : ℕ → Signed) (qs : List ℕ) → some (every p) (map (λ q. f q ∷ []) qs) ≡ some (λ q. p (f q)) qs
  some-single f [] = refl
  some-single f (q ∷ qs) = ap₂ (λ a b. a || b) (and-true (p (f q))) (some-single f qs)

  -- exactly one of a list: the first alone, or not the first and exactly one of the others
  pub one_plus-some : (q : ℕ) (qs : List ℕ) → some (every p) (one_plus (q ∷ qs))
      ≡ ((p (Plus q) && every p (map Minus qs)) || (p (Minus q) && some (every p) (one_plus qs)))
  one_plus-some q qs = ap (λ b. (p (Plus q) && every p (map Minus qs)) || b) (some-put (Minus q) (one_plus qs))

  -- two of a list: the first and one of the others, or two of the others
  pub two_plus-some : (q : ℕ) (qs : List ℕ) → some (every p) (two_plus (q ∷ qs))
      ≡ ((p (Plus q) && some (λ r. p (Plus r)) qs) || some (every p) (two_plus qs))
  two_plus-some q qs =
      some-append (every p) (map (λ r. Plus q ∷ Plus r ∷ []) qs) (two_plus qs)
      ∙ ap (λ b. b || some (every p) (two_plus qs))
      (ap (some (every p)) (put_first qs) ∙ some-put (Plus q) (map (λ r. Plus r ∷ []) qs)
      ∙ ap (λ b. p (Plus q) && b) (some-single Plus qs)) where
        put_first : (rs : List ℕ)
            → map (λ r. Plus q ∷ Plus r ∷ []) rs ≡ map (λ C. Plus q ∷ C) (map (λ r. Plus r ∷ []) rs)
        put_first [] = refl
        put_first (r ∷ rs) = ap (λ Cs. (Plus q ∷ Plus r ∷ []) ∷ Cs) (put_first rs)
