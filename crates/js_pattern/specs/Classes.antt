-- A class: what is between `[` and `]`.
use Rattle.std.specs.Prelude.{ℕ, zero, suc, ◌+◌, Bool, true, false, not, ◌&&◌, nat_le, nat_lt, List, [], ◌∷◌, ◌++◌, drop, Ok, Err, if◌then◌else◌}
use Rattle.patterns.specs.CharSet.{set_of, complement_of}
use Rattle.js_pattern.specs.declared.fault.PatternFault.TheVariants.{Syntax, RangeOrder}
use Rattle.js_pattern.specs.declared.escape.Escape.{Escape}
use Rattle.js_pattern.specs.declared.escape.Escape.TheVariants.{Character, Class}
use Rattle.js_pattern.specs.Reading.{Reading, and_then, after, ◌∈◌, stands_at}
use Rattle.js_pattern.specs.Escapes.{class_set, escape}

-- a member of a class: c is at the place `at`, and the text follows it
abbrev pub class_atom : ℕ → ℕ → List ℕ → Reading Escape
class_atom at c t = if c ∈ "\\" then escape at t else Ok (Character c, 0)

-- the characters from one to another
abbrev pub span : ℕ → ℕ → List (ℕ × ℕ)
span low high =
    if nat_lt low 0xd800 && nat_lt 0xdfff high then (low, 0xd7ff) ∷ (0xe000, high) ∷ [] else (low, high) ∷ []

-- a character x at the place `at`, and the right end of its range, if that is a character. A `-` before a class
-- escape is a literal, and the class escape is read as the next item. `taken` characters lie before the right end
abbrev pub range_to : ℕ → ℕ → ℕ → Escape → ℕ → Reading (List (ℕ × ℕ))
range_to at x taken (Class set) n = Ok ((x, x) ∷ (45, 45) ∷ [], taken)
range_to at x taken (Character y) n = if nat_le x y then Ok (span x y, taken + 1 + n) else Err (RangeOrder at)

-- after a character x and a `-`: the text begins with the right end at the place `end`
abbrev pub range_from : ℕ → ℕ → ℕ → ℕ → List ℕ → Reading (List (ℕ × ℕ))
range_from at x taken end [] = Ok ((x, x) ∷ (45, 45) ∷ [], taken)
range_from at x taken end (d ∷ t) = and_then (class_atom end d t) (range_to at x taken)

-- a `-` between two characters makes a range; one after a class escape, or before the closing bracket, is a literal
abbrev pub item_of : ℕ → List ℕ → Escape → ℕ → Reading (List (ℕ × ℕ))
item_of at t (Class set) n =
    if stands_at n "-" t then Ok (class_set set ++ (45, 45) ∷ [], n + 1) else Ok (class_set set, n)
item_of at t (Character x) n =
    if stands_at n "-" t && not (stands_at (n + 1) "]" t) then range_from at x (n + 1) (at + n + 2)
    (drop (n + 1) t)
    else Ok ((x, x) ∷ [], n)

-- one item of a class: c is at the place `at`, and the text follows it
abbrev pub item : ℕ → ℕ → List ℕ → Reading (List (ℕ × ℕ))
item at c t = and_then (class_atom at c t) (item_of at t)

-- what one character begins: the end of the class, or an item and what follows. `more n` reads n characters on
abbrev pub items_at : Bool → ℕ → ℕ → List ℕ → (ℕ → Reading (List (ℕ × ℕ))) → Reading (List (ℕ × ℕ))
items_at true at c t more = Ok ([], 1)
items_at false at c t more = and_then (item at c t) (λ rs n. after (suc n) (λ more_rs. rs ++ more_rs) (more n))

-- the items of a class up to its closing bracket. The text begins at the place `at`, and what is read there begins
-- `skip` characters later
abbrev pub items : ℕ → ℕ → List ℕ → Reading (List (ℕ × ℕ))
items skip at [] = Err (Syntax at)
items (suc skip) at (c ∷ t) = items skip (suc at) t
items zero at (c ∷ t) = items_at (c ∈ "]") at c t (λ n. items n (suc at) t)

-- a class as its set: the `[` is at the place `at`, and the text follows it
abbrev pub class : ℕ → List ℕ → Reading (List (ℕ × ℕ))
class at t =
    if stands_at 0 "^" t then after 1 (λ rs. complement_of (set_of rs)) (items 0 (at + 2) (drop 1 t))
    else after 0 set_of (items 0 (at + 1) t)
