-- How often an atom is repeated.
use Rattle.std.specs.Prelude.{ℕ, ◌+◌, ◌&&◌, ◌||◌, nat_eq, nat_lt, List, [], ◌∷◌, drop, Result, Ok, Err, Option, Some, None, if◌then◌else◌}
use Rattle.patterns.specs.Tree.{Tree, repeated}
use Rattle.js_pattern.specs.declared.fault.PatternFault.{PatternFault}
use Rattle.js_pattern.specs.declared.fault.PatternFault.TheVariants.{RepeatTooWide, QuantifierOrder}
use Rattle.js_pattern.specs.declared.quantifier.Bounds.{Bounds}
use Rattle.js_pattern.specs.Reading.{Reading, ◌∈◌, stands_at, digits}

-- the least and the greatest number of a quantifier, and how many characters it takes after its first one
abbrev pub bounds : ℕ → Option ℕ → ℕ → Bounds
bounds low high taken = record { low = low; high = high; taken = taken }

-- `{n}`, `{n,}` and `{n,m}`, by the digits before the comma and after it; the text follows the `{`
abbrev pub braces_of : List ℕ → ℕ × ℕ → ℕ × ℕ → Option Bounds
braces_of t low high =
    if nat_eq low.1 0 then None
    else if stands_at low.1 "}" t then Some (bounds low.0 (Some low.0) (low.1 + 1))
    else if stands_at low.1 "," t && stands_at (low.1 + 1 + high.1) "}" t
    then Some (bounds low.0 (if nat_eq high.1 0 then None else Some high.0) (low.1 + high.1 + 2))
    else None

abbrev pub braces : List ℕ → Option Bounds
braces t = braces_of t (digits 10 t) (digits 10 (drop ((digits 10 t).1 + 1) t))

-- the quantifier that c begins, if it begins one; the text follows c, and so do the characters that are counted
abbrev pub quantifier : ℕ → List ℕ → Option Bounds
quantifier c t =
    if c ∈ "*" then Some (bounds 0 None 0)
    else if c ∈ "+" then Some (bounds 1 None 0)
    else if c ∈ "?" then Some (bounds 0 (Some 1) 0)
    else if c ∈ "{" then braces t
    else None

-- the greatest number that a quantifier may have
abbrev pub widest_repeat : ℕ
widest_repeat = 16384

-- greater numbers, and a least number above the greatest, are faults at the quantifier, in this order
abbrev pub judged_by : ℕ → ℕ → Option ℕ → Result (Unit {0}) PatternFault
judged_by at low None = if nat_lt widest_repeat low then Err (RepeatTooWide at) else Ok tt
judged_by at low (Some high) =
    if nat_lt widest_repeat low || nat_lt widest_repeat high then Err (RepeatTooWide at)
    else if nat_lt high low then Err (QuantifierOrder at)
    else Ok tt

abbrev pub judged : ℕ → Bounds → Result (Unit {0}) PatternFault
judged at b = judged_by at b.low b.high

-- a `?` after a quantifier prefers the shortest match, and changes nothing of what matches
abbrev pub repeated_by : Tree → List ℕ → Bounds → Result (Unit {0}) PatternFault → Reading Tree
repeated_by tree t b (Ok u) =
    Ok (repeated tree b.low b.high, 1 + b.taken + (if stands_at b.taken "?" t then 1 else 0))
repeated_by tree t b (Err fault) = Err fault

abbrev pub quantified_by : Tree → ℕ → List ℕ → Option Bounds → Reading Tree
quantified_by tree at t None = Ok (tree, 0)
quantified_by tree at t (Some b) = repeated_by tree t b (judged at b)

-- an atom with the quantifier that a text begins with, at the place `at`
abbrev pub quantified : Tree → ℕ → List ℕ → Reading Tree
quantified tree at [] = Ok (tree, 0)
quantified tree at (c ∷ t) = quantified_by tree at t (quantifier c t)
