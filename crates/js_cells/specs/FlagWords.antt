-- Flags as words of 64 bits, the lowest bit of the first word for the first flag.
use Rattle.std.specs.Prelude.{◌≡◌, ℕ, ◌+◌, ◌*◌, ◌/◌, ◌%◌, ◌^◌, Bool, if◌then◌else◌, List, [], ◌∷◌, map, length}
use Rattle.std.specs.Bool.{beq, Decides}
use Rattle.std.specs.Cmp.{booleans_Decides}
use Rattle.std.specs.Cmp.Lexicographic.{pointwise}
use Rattle.std.specs.List.{range_with_len}
use Rattle.std.proofs.Common.{refl}
use Rattle.std.proofs.lemmas.Slice.Eq.{slice_eq-Decides}

-- the flags as one number
abbrev pub number_of : List Bool → ℕ
number_of [] = 0
number_of (b ∷ bs) = (if b then 1 else 0) + 2 * number_of bs

-- the flags as words of 64 bits
unfoldable pub words_of : List Bool → List ℕ
words_of bs = map (λ k. number_of bs / 2 ^ (64 * k) % 2 ^ 64) (range_with_len 0 (length bs / 64 + 1))

pub flags_decide : (xs ys : List Bool) → Decides (pointwise beq xs ys) (xs ≡ ys)
flags_decide xs ys = slice_eq-Decides booleans_Decides xs ys (pointwise beq xs ys) refl
