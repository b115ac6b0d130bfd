-- One element more at the end of a list.
use Rattle.std.proofs.Common.{◌≡◌, ℕ, suc, ◌<◌, ◌⊎◌, List, [], ◌∷◌, ◌++◌, length, get_or, inl, inr, arith, refl}
use Rattle.std.proofs.lemmas.List.{length_push, get_or_append_left, get_or_at}
use Rattle.std.proofs.lemmas.Bool.{cases_lt}

module _ {A : Type 0} (xs : List A) (x d : A) where
  pub push-length : length (xs ++ x ∷ []) ≡ suc (length xs)
  push-length = omega (arith, length_push xs x)

  pub push-old : (i : ℕ) → i < length xs → get_or (xs ++ x ∷ []) i d ≡ get_or xs i d
  push-old i h = get_or_append_left xs (x ∷ []) d i h

  pub push-new : get_or (xs ++ x ∷ []) (length xs) d ≡ x
  push-new = get_or_at xs x [] d (length xs) refl

  -- a place of the longer list
  pub push-cases : (i : ℕ) → i < length (xs ++ x ∷ []) → (i < length xs) ⊎ (i ≡ length xs)
  push-cases i h =
      elim (cases_lt i (length xs)) [ inl l ↦ inl l | inr l ↦ inr (omega (arith, push-length)) ]
