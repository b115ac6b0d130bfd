-- Goals are equal, and feed a hasher the same, by their lists.
use Rattle.std.proofs.Common.{◌≡◌, suc, Bool, true, false, ◌&&◌, List, [], ◌∷◌, ◌++◌, map, length, ℕ, refl, ap, ap₂}
use Rattle.std.specs.Cmp.Lexicographic.{pointwise}
use Rattle.std.specs.List.{flat_map}
use Rattle.std.specs.Hash as fed
use Rattle.std.specs.Hash.{HashWrites}
use Rattle.goals.specs.Signed.{same_signed}
use Rattle.js_algebra.specs.View.{signed_view, with_sign}
use Rattle.js_algebra.specs.Equality.{same_goal, signed_writes, goal_writes}
use Rattle.js_algebra.specs.declared.signed.Signed.{Signed}

-- comparing signed positions one by one compares the lists that they stand for
pub pointwise-signed : (E : Signed → Signed → Bool)
    → ((x y : Signed) → E x y ≡ same_signed (signed_view x) (signed_view y))
    → (xs ys : List Signed) → pointwise E xs ys ≡ same_goal (map signed_view xs) (map signed_view ys)
pointwise-signed E equal [] [] = refl
pointwise-signed E equal [] (y ∷ ys) = refl
pointwise-signed E equal (x ∷ xs) [] = refl
pointwise-signed E equal (x ∷ xs) (y ∷ ys) = ap₂ (λ s t. s && t) (equal x y) (pointwise-signed E equal xs ys)

pub writes-with_sign : (b : Bool) (p : ℕ) → fed.u32 p ++ fed.bool b ≡ signed_writes (with_sign b p)
writes-with_sign true p = refl
writes-with_sign false p = refl

length-views : (xs : List Signed) → length xs ≡ length (map signed_view xs)
length-views [] = refl
length-views (x ∷ xs) = ap suc (length-views xs)

module _ (F : Signed → HashWrites) (writes : (x : Signed) → F x ≡ signed_writes (signed_view x)) where
  flat_map-signed : (xs : List Signed) → flat_map F xs ≡ flat_map signed_writes (map signed_view xs)
  flat_map-signed [] = refl
  flat_map-signed (x ∷ xs) = ap₂ (λ s t. s ++ t) (writes x) (flat_map-signed xs)

  pub slice-signed : (xs : List Signed) → fed.slice F xs ≡ goal_writes (map signed_view xs)
  slice-signed xs = ap₂ (λ n w. fed.usize n ++ w) (length-views xs) (flat_map-signed xs)
