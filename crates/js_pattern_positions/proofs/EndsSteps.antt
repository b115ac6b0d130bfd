-- The copies of a repeated tree, one more gone through.
use Rattle.std.proofs.Common.{◌≡◌, ℕ, suc, ◌+◌, ◌-◌, ◌*◌, ◌<◌, ◌≤◌, Bool, false, ◌&&◌, ◌||◌, nat_eq, nat_le, if◌then◌else◌, Option, sym, ◌∙◌, ap, arith, add-one}
use Rattle.std.proofs.Math.Nat.{mul-le-mul_right}
use Rattle.patterns.specs.Tree.{Tree, repeated}
use Rattle.word_states.specs.Position.{count_of, copies}
use Rattle.state_laws.specs.Flow.{ends_here}
use Rattle.js_pattern_positions.specs.Walk.{Quiet, ends_after}
use Rattle.js_pattern_positions.proofs.Through.{ends_repeated, ends_still}
use Rattle.js_pattern_positions.proofs.Quiet.{ends-quiet, ends_after-quiet}

-- what is counted of the copies that are left
pub left-init : (base n c : ℕ) → base + (n - 0) * c ≡ base + n * c
left-init base n c = ap (λ k. base + k * c) (omega arith)

pub one_less : (n i : ℕ) → i < n → n - i ≡ suc (n - (i + 1))
one_less n i h = omega (arith, h)

-- the places of the copies that are left, past one more copy
pub left-next : (base n c i at after : ℕ) → i < n → at + (n - i) * c ≡ base + n * c → after ≡ at + c
    → after + (n - (i + 1)) * c ≡ base + n * c
left-next base n c i at after h e a =
    let f : at + suc (n - (i + 1)) * c ≡ base + n * c = sym (ap (λ k. at + k * c) (one_less n i h)) ∙ e in
    omega (arith, f, a)

-- a copy that leads nowhere is the first, and has no positions
pub nowhere : (base n c i at : ℕ) → at + (n - i) * c ≡ base + n * c → base ≡ at + c → (at ≡ base) × (c ≡ 0)
nowhere base n c i at e f =
    let less : (n - i) * c ≤ n * c = mul-le-mul_right c (fewer n i) in
    (omega (arith, less, e, f), omega (arith, less, e, f)) where
      fewer : (n i : ℕ) → n - i ≤ n
      fewer n i = omega arith

module _ (first last : Bool) (read : ℕ → Bool) (t : Tree) (low : ℕ) (high : Option ℕ) (base : ℕ) (begins : Bool) where
  -- what is left of the copies decides what the whole decides
  abbrev pub Left : ℕ → ℕ → ℕ → Bool → Bool → Type 0
  Left n i at here ends =
      ends_after (λ at some. ends_here t first last read at some) (count_of t) low n i at here ends
      ≡ ends_here (repeated t low high) first last read base begins

  pub ends-init : (n : ℕ) (ends : Bool) → n ≡ copies low high → ends ≡ (nat_le low 0 && begins)
      → Left (n - 0) 0 base begins ends
  ends-init n ends e f =
      ap (λ k. ends_after (λ at some. ends_here t first last read at some) (count_of t) low k 0 base begins ends)
      (all n (copies low high) e)
      ∙ ap (ends_after (λ at some. ends_here t first last read at some) (count_of t) low
      (copies low high) 0 base begins) f
      ∙ ends_repeated first last read t low high base begins where
        all : (n m : ℕ) → n ≡ m → n - 0 ≡ m
        all n m e = omega (arith, e)

  pub ends-next : (n i at after : ℕ) (here one ends more : Bool) → i < n
      → one ≡ ends_here t first last read at here → after ≡ at + count_of t
      → more ≡ (ends || (nat_le low (i + 1) && one))
      → Left (n - i) i at here ends → Left (n - (i + 1)) (i + 1) after one more
  ends-next n i at after here one ends more h e f g left =
      ap (λ k. ends_after (λ at some. ends_here t first last read at some) (count_of t) low
      (n - (i + 1)) k after one more)
      (add-one i)
      ∙ ap (λ k. ends_after (λ at some. ends_here t first last read at some) (count_of t) low (n - (i + 1))
      (suc i) k one more) f
      ∙ ap (ends_after (λ at some. ends_here t first last read at some) (count_of t) low (n - (i + 1)) (suc i)
      (at + count_of t) one) (g ∙ ap (λ k. ends || (nat_le low k && one)) (add-one i))
      ∙ ap (λ x. ends_after (λ at some. ends_here t first last read at some) (count_of t) low (n - (i + 1)) (suc i)
      (at + count_of t) x (ends || (nat_le low (suc i) && x))) e
      ∙ sym (ap (λ k. ends_after (λ at some. ends_here t first last read at some) (count_of t) low k i at here ends)
      (one_less n i h))
      ∙ left

  pub ends-stopped : (k i at : ℕ) (here ends : Bool) → here ≡ false → Quiet read at → Left k i at here ends
      → ends ≡ ends_here (repeated t low high) first last read base begins
  ends-stopped k i at here ends e q left =
      sym (ap (λ x. ends_after (λ at some. ends_here t first last read at some) (count_of t) low k i at x ends) e
      ∙ ends_after-quiet read (λ at some. ends_here t first last read at some) (count_of t)
      (ends-quiet first read last t) low k i at ends q)
      ∙ left

  pub ends-nowhere : (n i at : ℕ) (here one ends : Bool) → n ≡ copies low high
      → at + (n - i) * count_of t ≡ base + n * count_of t → base ≡ at + count_of t
      → (at ≡ base → here ≡ begins) → one ≡ ends_here t first last read at here
      → ends ≡ (if nat_eq low 0 then begins else nat_le low n && one)
      → ends ≡ ends_here (repeated t low high) first last read base begins
  ends-nowhere n i at here one ends m left back start e f =
      let none = nowhere base n (count_of t) i at left back in
      f
      ∙ ap (λ k. if nat_eq low 0 then begins else nat_le low k && one) m
      ∙ ap (λ x. if nat_eq low 0 then begins else nat_le low (copies low high) && x)
      (e ∙ ap (ends_here t first last read at) (start none.0) ∙ ap (λ k. ends_here t first last read k begins) none.0)
      ∙ ends_still first last read t low high base begins none.1
