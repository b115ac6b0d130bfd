-- The words in which the grammar reads a text from the left, a list of scalar values.
use Rattle.std.specs.Prelude.{ℕ, suc, ◌+◌, ◌*◌, Bool, false, ◌&&◌, ◌||◌, nat_eq, nat_lt, List, [], ◌∷◌, length, slice_index, codes, Result, Ok, Err, if◌then◌else◌}
use Rattle.std.specs.Char.{digit_value}
use Prim.Native.String.{String}
use Rattle.js_pattern.specs.declared.fault.PatternFault.{PatternFault}

-- what is at the front of a text and how many characters it takes, or the first fault
abbrev pub Reading : Type 0 → Type 0
Reading A = Result (A × ℕ) PatternFault

-- reads on with what was read and the number of its characters
abbrev pub and_then : {A B : Type 0} → Reading A → (A → ℕ → Reading B) → Reading B
and_then (Ok p) f = f p.0 p.1
and_then (Err fault) f = Err fault

-- what was read, made into something else and seen from n characters before it
abbrev pub after : {A B : Type 0} → ℕ → (A → B) → Reading A → Reading B
after n f (Ok p) = Ok (f p.0, n + p.1)
after n f (Err fault) = Err fault

abbrev pub is_among : List ℕ → ℕ → Bool
is_among [] c = false
is_among (d ∷ []) c = nat_eq c d
is_among (d ∷ e ∷ ds) c = nat_eq c d || is_among (e ∷ ds) c

-- the character is one of these
infix 60 ◌∈◌
abbrev pub ◌∈◌ : ℕ → String → Bool
c ∈ s = is_among (codes s) c

-- character number k of the text, counted from 0, is one of these
abbrev pub stands_at : ℕ → String → List ℕ → Bool
stands_at k s t = nat_lt k (length t) && slice_index t k ∈ s

-- the number that the digits at the front of a text go on to write, and how many digits there are
abbrev pub digits_from : ℕ → ℕ → List ℕ → ℕ × ℕ
digits_from radix number [] = (number, 0)
digits_from radix number (c ∷ t) =
    if nat_lt (digit_value c) radix
    then (let r = digits_from radix (radix * number + digit_value c) t in (r.0, suc r.1))
    else (number, 0)

abbrev pub digits : ℕ → List ℕ → ℕ × ℕ
digits radix t = digits_from radix 0 t
