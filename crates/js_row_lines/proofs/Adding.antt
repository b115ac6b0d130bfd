-- Lines and numbers that are added one by one.
use Rattle.std.proofs.Common.{◌≡◌, ℕ, suc, ◌+◌, ◌<◌, List, [], ◌∷◌, ◌++◌, map, take, length, get_or, ap, ap₂, sym, ◌∙◌, append_assoc, append-nil, arith}
use Rattle.std.proofs.Math.Seq.{take-suc, take-length}
use Rattle.std.proofs.lemmas.List.{map-append}

pub take_more : {A : Type 0} (xs : List A) (n : ℕ) (d : A) → n < length xs
    → take (n + 1) xs ≡ take n xs ++ get_or xs n d ∷ []
take_more xs n d l =
    let e : n + 1 ≡ suc n = omega arith in ap (λ k. take k xs) e ∙ take-suc xs n d l

pub take_whole : {A : Type 0} (xs : List A) (n : ℕ) → n ≡ length xs → take n xs ≡ xs
take_whole xs n e = ap (λ k. take k xs) e ∙ take-length xs

-- one more number
pub number_more : {A : Type 0} (xs ys new : List A) (n : ℕ) (d x : A) → n < length xs → x ≡ get_or xs n d
    → ys ≡ take n xs → new ≡ ys ++ x ∷ []
    → new ≡ take (n + 1) xs
number_more xs ys new n d x l is e p = p ∙ ap₂ (λ u v. u ++ v ∷ []) e is ∙ sym (take_more xs n d l)

-- one more of what is made of a list
module _ {A B : Type 0} (f : A → B) where
  pub made_more : (xs : List A) (before now new : List B) (n : ℕ) (d : A) → n < length xs
      → now ≡ before ++ map f (take n xs) → new ≡ now ++ f (get_or xs n d) ∷ []
      → new ≡ before ++ map f (take (n + 1) xs)
  made_more xs before now new n d l e p =
      p ∙ ap (λ z. z ++ f (get_or xs n d) ∷ []) e
      ∙ append_assoc before (map f (take n xs)) (f (get_or xs n d) ∷ [])
      ∙ ap (λ z. before ++ z)
      (sym (map-append f (take n xs) (get_or xs n d ∷ [])) ∙ ap (map f) (sym (take_more xs n d l)))

  pub made_none : (xs : List A) (before : List B) → before ≡ before ++ map f (take 0 xs)
  made_none xs before = sym (append-nil before)

  pub made_all : (xs : List A) (before now : List B) (n : ℕ) → n ≡ length xs → now ≡ before ++ map f (take n xs)
      → now ≡ before ++ map f xs
  made_all xs before now n e h = h ∙ ap (λ z. before ++ map f z) (take_whole xs n e)
