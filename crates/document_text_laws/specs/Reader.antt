-- A string up to its quote, byte by byte, and a number as long as digits come.
use Rattle.std.specs.Prelude.{ℕ, zero, suc, ◌+◌, ◌-◌, ◌*◌, ◌%◌, List, [], ◌∷◌, ◌++◌, Bool, true, false, Option, Some, None, cond, nat_eq, nat_lt}
use Rattle.std.specs.Char.{is_ascii_digit}

-- in a string, behind a backslash, or where so many further digits of a byte come
pub data Mode : Type 0 where
  plain : Mode
  escaped : Mode
  digits : ℕ → ℕ → Mode

-- the byte of a letter behind a backslash
abbrev pub escape_of : ℕ → ℕ
escape_of x =
    cond (nat_eq x 98) 8 (cond (nat_eq x 102) 12 (cond (nat_eq x 110) 10
    (cond (nat_eq x 114) 13 (cond (nat_eq x 116) 9 x))))

-- a byte with one more digit behind it, of which only the last two count
abbrev pub with_digit : ℕ → ℕ → ℕ
with_digit v x = (v * 16 + cond (nat_lt x 58) (x - 48) (x - 87)) % 256

abbrev pub closes : Mode → ℕ → Bool
closes plain x = nat_eq x 34
closes escaped x = false
closes (digits n v) x = false

abbrev pub next : Mode → ℕ → Mode
next plain x = cond (nat_eq x 92) escaped plain
next escaped x = cond (nat_eq x 117) (digits 3 0) plain
next (digits zero v) x = plain
next (digits (suc n) v) x = digits n (with_digit v x)

-- the bytes of the string so far, with what the byte adds
abbrev pub grown : List ℕ → Mode → ℕ → List ℕ
grown done plain x = cond (nat_eq x 92) done (done ++ x ∷ [])
grown done escaped x = cond (nat_eq x 117) done (done ++ escape_of x ∷ [])
grown done (digits zero v) x = done ++ with_digit v x ∷ []
grown done (digits (suc n) v) x = done

-- the bytes of the string, after `done` was read of it, and what comes behind its last quote
abbrev pub read_on : Mode → List ℕ → List ℕ → Option (List ℕ × List ℕ)
read_on m done [] = None
read_on m done (x ∷ xs) = cond (closes m x) (Some (done, xs)) (read_on (next m x) (grown done m x) xs)

-- the number, after `n` was read of it, and what comes behind its digits
abbrev pub number_on : ℕ → List ℕ → ℕ × List ℕ
number_on n [] = (n, [])
number_on n (d ∷ ds) = cond (is_ascii_digit d) (number_on (n * 10 + (d - 48)) ds) (n, d ∷ ds)

-- no digit comes first
abbrev pub ends : List ℕ → Bool
ends [] = true
ends (d ∷ ds) = cond (is_ascii_digit d) false true

-- what comes behind a comma, or all where none comes first
abbrev pub behind_comma : List ℕ → List ℕ
behind_comma [] = []
behind_comma (x ∷ xs) = cond (nat_eq x 44) xs (x ∷ xs)

-- a list ends here
abbrev pub ends_list : ℕ → List ℕ → Bool
ends_list close [] = false
ends_list close (x ∷ xs) = nat_eq x close
