-- Tests that are true together, tests joined in another order, and the test that two tests are equal.
use Rattle.std.proofs.Common.{◌≡◌, Bool, true, false, ◌&&◌, ◌||◌, not, Decides, refl, sym}
use Rattle.std.specs.Bool.{beq}
use Rattle.std.proofs.Math.Bool.{or-true}

-- two tests that are true together are equal
pub same_test : (a b : Bool) → (a ≡ true → b ≡ true) → (b ≡ true → a ≡ true) → a ≡ b
same_test true b f g = sym (f refl)
same_test false true f g = g refl
same_test false false f g = refl

pub and_not-parts : (a b : Bool) → (a && not b) ≡ true → (a ≡ true) × (b ≡ false)
and_not-parts true true e = cc
and_not-parts true false e = (refl, refl)
and_not-parts false b e = cc

pub and_not-implies : (a b : Bool) → (a && not b) ≡ false → a ≡ true → b ≡ true
and_not-implies true true e h = refl
and_not-implies true false e h = cc
and_not-implies false b e h = cc

pub and_left_comm : (a b c : Bool) → (a && (b && c)) ≡ (b && (a && c))
and_left_comm true b c = refl
and_left_comm false true c = refl
and_left_comm false false c = refl

pub or_left_comm : (a b c : Bool) → (a || (b || c)) ≡ (b || (a || c))
or_left_comm true true c = refl
or_left_comm true false c = refl
or_left_comm false b c = refl

pub or_or_comm : (a b c d : Bool) → ((a || b) || (c || d)) ≡ ((a || c) || (b || d))
or_or_comm true b c d = refl
or_or_comm false b true d = or-true b
or_or_comm false b false d = refl

pub beq_comm : (a b : Bool) → beq a b ≡ beq b a
beq_comm true true = refl
beq_comm true false = refl
beq_comm false true = refl
beq_comm false false = refl

pub beq-decides : (a b : Bool) → Decides (beq a b) (a ≡ b)
beq-decides true true = ((λ e. refl), (λ e. refl))
beq-decides true false = ((λ e. cc e), (λ e. cc e))
beq-decides false true = ((λ e. cc e), (λ e. cc e))
beq-decides false false = ((λ e. refl), (λ e. refl))

pub eq-beq : (a b : Bool) → a ≡ b → beq a b ≡ true
eq-beq true true e = refl
eq-beq true false e = absurd (cc e)
eq-beq false true e = absurd (cc e)
eq-beq false false e = refl
