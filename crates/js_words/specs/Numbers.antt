-- Numbers among the words.
use Rattle.std.specs.Prelude.{◌+◌, ◌-◌, ◌*◌, ◌==◌, ◌&&◌, ◌||◌, ℕ, Bool, not, List, [], ◌∷◌, Option, Some, None, if◌then◌else◌, nat_le, length, slice_index}
use Rattle.std.specs.Char.{is_ascii_digit}
use Rattle.std.specs.List.{list_all}

-- digits without a sign and without a leading zero (48)
abbrev pub is_plain_decimal : List ℕ → Bool
is_plain_decimal text =
    not (length text == 0) && (list_all is_ascii_digit text && (not (slice_index text 0 == 48) || (length text == 1)))

-- the number that n and then the digits write
abbrev pub value_after : ℕ → List ℕ → ℕ
value_after n [] = n
value_after n (c ∷ cs) = value_after (10 * n + (c - 48)) cs

-- the number that the digits write
abbrev pub decimal_value : List ℕ → ℕ
decimal_value text = value_after 0 text

-- the number of a plain decimal, if it is from `low` to `high`
abbrev pub number_in : ℕ → ℕ → List ℕ → Option ℕ
number_in low high text =
    if is_plain_decimal text && (nat_le low (decimal_value text) && nat_le (decimal_value text) high)
    then Some (decimal_value text) else None
