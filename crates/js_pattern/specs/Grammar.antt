-- A pattern: alternatives of terms, and groups of such.
use Rattle.std.specs.Prelude.{ℕ, zero, suc, ◌+◌, ◌||◌, nat_lt, List, [], ◌∷◌, map, length, drop, Result, Ok, Err, if◌then◌else◌, is_some}
use Rattle.patterns.specs.CharSet.{complement_of}
use Rattle.patterns.specs.Tree.{Tree, empty, one_of, at_start, at_end, in_turn, either, trees_of}
use Rattle.js_pattern.specs.declared.fault.PatternFault.{PatternFault}
use Rattle.js_pattern.specs.declared.fault.PatternFault.TheVariants.{Syntax, Unsupported}
use Rattle.js_pattern.specs.declared.fault.PatternForm.TheVariants.{Lookaround, NamedGroup, Nesting}
use Rattle.js_pattern.specs.declared.escape.Escape.{Escape}
use Rattle.js_pattern.specs.declared.escape.Escape.TheVariants.{Character, Class}
use Rattle.js_pattern.specs.Reading.{Reading, and_then, after, ◌∈◌, stands_at}
use Rattle.js_pattern.specs.Escapes.{class_set, escape}
use Rattle.js_pattern.specs.Classes.{class}
use Rattle.js_pattern.specs.Quantifiers.{quantifier, quantified}

-- every character but the line ends
abbrev pub dot_set : List (ℕ × ℕ)
dot_set = complement_of ((10, 10) ∷ (13, 13) ∷ (0x2028, 0x2029) ∷ [])

-- one term is the tree itself
abbrev pub sequence_of : List Tree → Tree
sequence_of [] = empty
sequence_of (t ∷ []) = t
sequence_of (t ∷ u ∷ ts) = in_turn (trees_of (t ∷ u ∷ ts))

-- one alternative is the tree itself
abbrev pub alternation_of : List Tree → Tree
alternation_of (t ∷ []) = t
alternation_of ts = either (trees_of ts)

-- the alternatives of a group or of the whole text: the terms of the first one, and of each of the others
abbrev pub Body : Type 0
Body = List Tree × List (List Tree)

abbrev pub tree_of : Body → Tree
tree_of body = alternation_of (sequence_of body.0 ∷ map sequence_of body.1)

-- no terms, and no other alternative
abbrev pub empty_body : Body
empty_body = ([], [])

-- a term before the first alternative
abbrev pub add_term : Tree → Body → Body
add_term t body = (t ∷ body.0, body.1)

-- an alternative without terms before the others
abbrev pub add_alternative : Body → Body
add_alternative body = ([], body.0 ∷ body.1)

abbrev pub set_of_escape : Escape → Tree
set_of_escape (Character c) = one_of ((c, c) ∷ [])
set_of_escape (Class set) = one_of (class_set set)

-- a character, a set, or a quantifier with no atom before it, which is a fault. c is at the place `at`, and the text
-- follows it
abbrev pub atom : ℕ → ℕ → List ℕ → Reading Tree
atom at c t =
    if c ∈ "." then Ok (one_of dot_set, 0)
    else if c ∈ "\\" then after 0 set_of_escape (escape at t)
    else if c ∈ "[" then after 0 one_of (class at t)
    else if is_some (quantifier c t) then Err (Syntax at)
    else Ok (one_of ((c, c) ∷ []), 0)

abbrev pub quantified_atom : ℕ → ℕ → List ℕ → Reading Tree
quantified_atom at c t =
    and_then (atom at c t) (λ tree n. after n (λ x. x) (quantified tree (at + 1 + n) (drop n t)))

-- an assertion, which takes no quantifier, or an atom with its quantifier
abbrev pub term : ℕ → ℕ → List ℕ → Reading Tree
term at c t =
    if c ∈ "^" then Ok (at_start, 0)
    else if c ∈ "$" then Ok (at_end, 0)
    else quantified_atom at c t

-- how many characters belong to the opening of a group after its `(`, which is at the place `at`
abbrev pub opening : ℕ → List ℕ → Result ℕ PatternFault
opening at t =
    if stands_at 0 "?" t
    then (if stands_at 1 ":" t then Ok 2
    else if stands_at 1 "=" t || stands_at 1 "!" t then Err (Unsupported at Lookaround)
    else if stands_at 1 "<" t then
    (if stands_at 2 "=" t || stands_at 2 "!" t then Err (Unsupported at Lookaround) else Err
    (Unsupported at NamedGroup))
    else Err (Syntax at))
    else Ok 0

-- a group may be inside so many others
abbrev pub most_nested : ℕ
most_nested = 1000

-- the opening of a group inside so many others
abbrev pub nested : ℕ → ℕ → Result ℕ PatternFault → Result ℕ PatternFault
nested depth at (Ok taken) = if nat_lt depth most_nested then Ok taken else Err (Unsupported at Nesting)
nested depth at (Err fault) = Err fault

-- what a character means for the alternatives
pub data Sign : Type 0 where
  closes : Sign
  divides : Sign
  opens : Sign
  begins_term : Sign

abbrev pub sign_of : ℕ → Sign
sign_of c = if c ∈ ")" then closes else if c ∈ "|" then divides else if c ∈ "(" then opens else begins_term

-- a term of which n characters follow its first one, and the terms after it; `more n` reads n characters on
abbrev pub term_and_more : (ℕ → Reading Body) → Tree → ℕ → Reading Body
term_and_more more tree n = after (suc n) (add_term tree) (more n)

-- a group with its quantifier, and the terms after it. The text begins at the `)`, which is at the place `at`; `taken`
-- characters of the group lie between its `(` and there
abbrev pub group_end : (ℕ → Reading Body) → Body → ℕ → ℕ → List ℕ → Reading Body
group_end more body taken at [] = Err (Syntax at)
group_end more body taken at (c ∷ t) =
    and_then (quantified (tree_of body) (at + 1) t) (λ tree n. term_and_more more tree (taken + 1 + n))

-- a group whose `(` is at the place `at`, and the text follows it. Its body begins `taken` characters later;
-- `inner n` reads n characters on inside the group, and `more n` behind it
abbrev pub group : (ℕ → Reading Body) → (ℕ → Reading Body) → ℕ → List ℕ → ℕ → Reading Body
group inner more at t taken =
    and_then (inner taken)
    (λ body n. group_end more body (taken + n) (at + 1 + (taken + n)) (drop (taken + n) t))

abbrev pub group_of : (ℕ → Reading Body) → (ℕ → Reading Body) → ℕ → List ℕ → Result ℕ PatternFault → Reading Body
group_of inner more at t (Ok taken) = group inner more at t taken
group_of inner more at t (Err fault) = Err fault

-- what a character begins inside so many groups: c is at the place `at`, and the text follows it
abbrev pub body_at : Sign → ℕ → ℕ → ℕ → List ℕ → (ℕ → Reading Body) → (ℕ → Reading Body) → Reading Body
body_at closes depth at c t inner more = Ok (empty_body, 0)
body_at divides depth at c t inner more = after 1 add_alternative (more 0)
body_at opens depth at c t inner more = group_of inner more at t (nested depth at (opening at t))
body_at begins_term depth at c t inner more = and_then (term at c t) (term_and_more more)

-- the alternatives up to the end of the text, or to a `)` that ends their group, inside so many groups. The text begins
-- at the place `at`, and what is read there begins `skip` characters later
abbrev pub alternatives : ℕ → ℕ → ℕ → List ℕ → Reading Body
alternatives depth skip at [] = Ok (empty_body, 0)
alternatives depth (suc skip) at (c ∷ t) = alternatives depth skip (suc at) t
alternatives depth zero at (c ∷ t) =
    body_at (sign_of c) depth at c t (λ n. alternatives (suc depth) n (suc at) t)
    (λ n. alternatives depth n (suc at) t)

-- the whole text is read, or a `)` is left that ends no group
abbrev pub whole : List ℕ → Reading Body → Result Tree PatternFault
whole t (Ok p) = if nat_lt p.1 (length t) then Err (Syntax p.1) else Ok (tree_of p.0)
whole t (Err fault) = Err fault

-- the tree of a pattern, or its first fault
unfoldable pub pattern : List ℕ → Result Tree PatternFault
pattern t = whole t (alternatives 0 0 0 t)
