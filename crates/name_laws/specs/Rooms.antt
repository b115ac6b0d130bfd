-- What is in the room of a plan: at its place, whether a position holds.
use Rattle.std.specs.Prelude.{ℕ, List, Bool, false, not, get_or}
use Rattle.std.specs.Bool.{beq}
use Rattle.word_states.specs.Atom.{Atom}
use Rattle.positions.specs.Position.{Position, LengthMax}
use Rattle.name_truths.specs.NameTruth.{name_holds}

abbrev pub truth_at : List Bool → ℕ → Bool
truth_at room q = get_or room q false

-- the room says rightly whether the position holds
abbrev pub is_right : List Position → (Atom → Bool) → List Bool → ℕ → Bool
is_right T truth room q = beq (truth_at room q) (name_holds T truth q)

-- whether a leaf holds, by the truth of its atom
abbrev pub leaf_holds : Position → Bool → Bool
leaf_holds (LengthMax n) b = not b
leaf_holds _ b = b
