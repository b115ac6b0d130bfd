-- The place of the first element that is the same.
use Rattle.std.proofs.Common.{◌≡◌, ℕ, suc, ◌+◌, ◌<◌, List, [], ◌∷◌, Bool, true, false, ◌||◌, not, cond, get_or, length, refl, ap, ap₂, arith}
use Rattle.std.specs.Cmp.{IsEquivalence}
use Rattle.std.specs.List.{list_any, position_or_len}

module _ {A : Type 0} (same : A → A → Bool) (laws : IsEquivalence same) where
  -- what counts as one of a list has a place in it
  pub place_below : (x : A) (L : List A) → list_any (same x) L ≡ true → position_or_len (same x) L < length L
  place_below x [] h = cc h
  place_below x (y ∷ L) h = go (same x y) refl h (place_below x L) where
    go : (b : Bool) → same x y ≡ b → (b || list_any (same x) L) ≡ true
        → (list_any (same x) L ≡ true → position_or_len (same x) L < length L)
        → cond (not b) (1 + position_or_len (same x) L) 0 < suc (length L)
    go true e k more = omega arith
    go false e k more = let m = more k in omega (arith, m)

  pub place_same : (x d : A) (L : List A) → list_any (same x) L ≡ true
      → same x (get_or L (position_or_len (same x) L) d) ≡ true
  place_same x d [] h = cc h
  place_same x d (y ∷ L) h = go (same x y) refl h (place_same x d L) where
    go : (b : Bool) → same x y ≡ b → (b || list_any (same x) L) ≡ true
        → (list_any (same x) L ≡ true → same x (get_or L (position_or_len (same x) L) d) ≡ true)
        → same x (get_or (y ∷ L) (cond (not b) (1 + position_or_len (same x) L) 0) d) ≡ true
    go true e k more = e
    go false e k more = rw (place_more (position_or_len (same x) L)) (more k) where
      place_more : (n : ℕ) → get_or (y ∷ L) (1 + n) d ≡ get_or L n d
      place_more n = let q : 1 + n ≡ suc n = omega arith in ap (λ z. get_or (y ∷ L) z d) q

  -- what counts as the same has the same place
  pub place_like : (x z : A) (L : List A) → same x z ≡ true → position_or_len (same x) L ≡ position_or_len (same z) L
  place_like x z [] e = refl
  place_like x z (y ∷ L) e = ap₂ (λ b n. cond (not b) (1 + n) 0) (laws.congr x z y e) (place_like x z L e)
