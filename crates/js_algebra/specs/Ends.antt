-- The ends of references, found one after another.
use Rattle.std.specs.Prelude.{◌≡◌, ◌⊎◌, ◌<◌, ℕ, List, length, get_or, Bool, true, false, Option, None, Some, cond}
use Rattle.documents.specs.Tests.{every}
use Rattle.positions.specs.Position.{Position, names_below}
use Rattle.goals.specs.Signed.{Signed, Plus, opposite, same_signed}
use Rattle.goals.specs.Goal.{plus_reference, minus_reference, reference, follow}

-- for each position of the table, where its references end
pub record AreEnds (T : List Position) (ends : List Signed) : Type 0 where
  pub count : length ends ≡ length T
  pub each : (p : ℕ) → p < length T → get_or ends p (Plus p) ≡ follow T (Plus p)

-- each is where the references of its position end, or the position itself while that isn't known
pub record MayBeEnds (T : List Position) (ends : List Signed) : Type 0 where
  pub count : length ends ≡ length T
  pub each : (p : ℕ) → p < length T
      → (get_or ends p (Plus p) ≡ Plus p) ⊎ (get_or ends p (Plus p) ≡ follow T (Plus p))

-- what ends became once that of p was left: no end is forgotten
pub record AreLeft (T : List Position) (p : ℕ) (old new : List Signed) : Type 0 where
  pub known : MayBeEnds T new
  pub here : get_or new p (Plus p) ≡ follow T (Plus p)
  pub kept : (q : ℕ) → q < length T → get_or old q (Plus q) ≡ follow T (Plus q)
      → get_or new q (Plus q) ≡ follow T (Plus q)

-- each position is itself
pub record AreThemselves (n : ℕ) (ends : List Signed) : Type 0 where
  pub count : length ends ≡ n
  pub each : (p : ℕ) → p < n → get_or ends p (Plus p) ≡ Plus p

-- references stay in the table, and end
pub record HasEnds (T : List Position) : Type 0 where
  pub named : every (names_below (length T)) T ≡ true
  pub ended : (x : Signed) → reference T (follow T x) ≡ None

-- the signed position itself with plus, and its opposite with minus
abbrev pub signed_by : Bool → Signed → Signed
signed_by true y = y
signed_by false y = opposite y

-- what a position with that sign stands for, where it is a reference
abbrev pub reference_of : Bool → Position → Option Signed
reference_of true P = plus_reference P
reference_of false P = minus_reference P

-- the end of the position with that sign, once it is known
abbrev pub known_at : List Signed → Bool → ℕ → Option Signed
known_at ends b p =
    cond (same_signed (get_or ends p (Plus p)) (Plus p)) None (Some (signed_by b (get_or ends p (Plus p))))
