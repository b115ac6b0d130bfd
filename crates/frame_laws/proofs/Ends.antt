-- Counts that come to an end, and the lesser of two ends.
use Rattle.std.proofs.Common.{◌≡◌, ℕ, ◌≤◌, min, Bool, true, false, ◌||◌, nat_le, Option, Some, None, refl, sym, arith}
use Rattle.std.proofs.lemmas.Bool.{leb-true, leb-false, le-leb, lt-leb}
use Rattle.std.proofs.Math.Bool.{or-false}
use Rattle.frames.specs.Frame.{is_at_end}
use Rattle.frames.specs.ArrayFrame.{lesser}

pub at_end_up : (n m : ℕ) (o : Option ℕ) → n ≤ m → is_at_end n o ≡ true → is_at_end m o ≡ true
at_end_up n m None l e = e
at_end_up n m (Some b) l e = let h = leb-true b n e in le-leb b m (omega (arith, h, l))

pub at_end_down : (n m : ℕ) (o : Option ℕ) → n ≤ m → is_at_end m o ≡ false → is_at_end n o ≡ false
at_end_down n m None l e = refl
at_end_down n m (Some b) l e = let h = leb-false b m e in lt-leb b n (omega (arith, h, l))

-- a count is at the lesser of two ends exactly where it is at one of them
pub lesser_end : (n : ℕ) (a b : Option ℕ) → is_at_end n (lesser a b) ≡ (is_at_end n a || is_at_end n b)
lesser_end n None b = refl
lesser_end n (Some k) None = sym (or-false (nat_le k n))
lesser_end n (Some k) (Some l) = go (nat_le k n) (nat_le l n) refl refl where
  go : (a b : Bool) → nat_le k n ≡ a → nat_le l n ≡ b → nat_le (min k l) n ≡ (a || b)
  go true b e f = let h = leb-true k n e in le-leb (min k l) n (omega (arith, h))
  go false true e f = let h = leb-true l n f in le-leb (min k l) n (omega (arith, h))
  go false false e f = let h = leb-false k n e in let g = leb-false l n f in lt-leb (min k l) n (omega (arith, h, g))
