-- Words of 64 bits as flags, the lowest bit of the first word first.
use Rattle.std.specs.Prelude.{ℕ, ◌/◌, ◌%◌, Bool, List, map, ◌==◌, slice_index}
use Rattle.std.specs.List.{range_with_len}
use Rattle.std.specs.Int.{bit_at}

-- whether bit n is set
abbrev pub bit_of : List ℕ → ℕ → Bool
bit_of words n = bit_at (slice_index words (n / 64)) (n % 64) == 1

-- the first bits, as flags
unfoldable pub flags_of : List ℕ → ℕ → List Bool
flags_of words len = map (bit_of words) (range_with_len 0 len)
