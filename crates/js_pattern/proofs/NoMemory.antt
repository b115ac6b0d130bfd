-- Want of memory is no fault of the grammar's.
use Rattle.std.proofs.Common.{◌≡◌, ◌≢◌, ℕ, zero, suc, ◌+◌, ◌-◌, ◌*◌, ◌++◌, Bool, true, false, ◌&&◌, ◌||◌, not, nat_lt, nat_le, if◌then◌else◌, List, [], ◌∷◌, length, drop, Option, Some, None, Result, Ok, Err, is_some, ap}
use Rattle.patterns.specs.CharSet.{is_scalar, set_of, complement_of}
use Rattle.patterns.specs.Tree.{Tree, one_of}
use Rattle.js_pattern.specs.declared.fault.PatternFault.{PatternFault}
use Rattle.js_pattern.specs.declared.fault.PatternFault.TheVariants.{Syntax, Unsupported, Memory}
use Rattle.js_pattern.specs.declared.fault.PatternForm.{PatternForm}
use Rattle.js_pattern.specs.declared.fault.PatternForm.TheVariants.{Lookaround, NamedGroup, Octal, Surrogate, Nesting}
use Rattle.js_pattern.specs.declared.escape.Escape.{Escape}
use Rattle.js_pattern.specs.declared.escape.Escape.TheVariants.{Character, Class}
use Rattle.js_pattern.specs.declared.escape.ClassEscape.{ClassEscape}
use Rattle.js_pattern.specs.declared.quantifier.Bounds.{Bounds}
use Rattle.js_pattern.specs.Reading.{Reading, and_then, after, ◌∈◌, stands_at, digits}
use Rattle.js_pattern.specs.Escapes.{numbered, byte_of, hexadecimal, unicode_of, in_braces, low_surrogate, is_high_surrogate, letter_of, letter_escape, escape_of, class_escape, unsupported_escape, escape}
use Rattle.js_pattern.specs.Classes.{class_atom, span, range_to, range_from, item_of, item, items_at, items, class}
use Rattle.js_pattern.specs.Quantifiers.{widest_repeat, judged_by, judged, repeated_by, quantified_by, quantifier, quantified}
use Rattle.js_pattern.specs.Grammar.{Body, empty_body, tree_of, add_term, add_alternative, dot_set, set_of_escape, atom, term, opening, most_nested, nested, Sign, closes, divides, opens, begins_term, sign_of, term_and_more, group_end, group_of, body_at, alternatives, whole, pattern}

-- the reading has no such fault
abbrev NoMemory : {A : Type 0} → Result A PatternFault → Type 0
NoMemory r = r ≢ Err Memory

if_no : {A : Type 0} (b : Bool) (x y : Result A PatternFault) → NoMemory x → NoMemory y
    → NoMemory (if b then x else y)
if_no true x y h k = h
if_no false x y h k = k

ok_no : {A : Type 0} (x : A) → NoMemory (Ok x)
ok_no x e = cc

syntax_no : {A : Type 0} (at : ℕ) → NoMemory {A = A} (Err (Syntax at))
syntax_no at e = cc

unsupported_no : {A : Type 0} (at : ℕ) (form : PatternForm) → NoMemory {A = A} (Err (Unsupported at form))
unsupported_no at form e = cc

then_no : {A B : Type 0} (r : Reading A) (f : A → ℕ → Reading B) → NoMemory r
    → ((x : A) (n : ℕ) → NoMemory (f x n)) → NoMemory (and_then r f)
then_no (Ok p) f h k = k p.0 p.1
then_no (Err fault) f h k = λ e. h (let same : fault ≡ Memory = cc in ap Err same)

after_no : {A B : Type 0} (n : ℕ) (f : A → B) (r : Reading A) → NoMemory r → NoMemory (after n f r)
after_no n f (Ok p) h = ok_no (f p.0, n + p.1)
after_no n f (Err fault) h = λ e. h (let same : fault ≡ Memory = cc in ap Err same)

numbered_no : (at taken n : ℕ) → NoMemory (numbered at taken n)
numbered_no at taken n =
    if_no (is_scalar n) _ _ (ok_no (Character n, taken))
    (if_no (nat_lt n 0x110000) _ _ (unsupported_no at Surrogate) (syntax_no at))

byte_no : (at : ℕ) (o : Option ℕ) → NoMemory (byte_of at o)
byte_no at None = syntax_no at
byte_no at (Some n) = numbered_no at 3 n

unicode_no : (at : ℕ) (b : Option (ℕ × ℕ)) (o p : Option ℕ) → NoMemory (unicode_of at b o p)
unicode_no at (Some b) o p = numbered_no at (1 + b.1) b.0
unicode_no at None None p = syntax_no at
unicode_no at None (Some n) None = numbered_no at 5 n
unicode_no at None (Some n) (Some low) =
    if_no (is_high_surrogate n) _ _ (numbered_no at 11 (0x10000 + 0x400 * (n - 0xd800) + (low - 0xdc00)))
    (numbered_no at 5 n)

letter_no : (at : ℕ) (o : Option ℕ) → NoMemory (letter_of at o)
letter_no at None = syntax_no at
letter_no at (Some n) = ok_no (Character n, 1)

escape_of_no : (at c : ℕ) (t : List ℕ) (set : Option ClassEscape) (form : Option PatternForm)
    → NoMemory (escape_of at c t set form)
escape_of_no at c t (Some set) form = ok_no (Class set, 1)
escape_of_no at c t None (Some form) = unsupported_no at form
escape_of_no at c t None None =
    if_no (c ∈ "0") _ _ (if_no (nat_lt 0 (digits 10 t).1) _ _ (unsupported_no at Octal)
    (ok_no (Character 0, 1)))
    (if_no (c ∈ "x") _ _ (byte_no at (hexadecimal 2 t))
    (if_no (c ∈ "u") _ _ (unicode_no at (in_braces t) (hexadecimal 4 t) (low_surrogate (drop 4 t)))
    (letter_no at (letter_escape c))))

escape_no : (at : ℕ) (t : List ℕ) → NoMemory (escape at t)
escape_no at [] = syntax_no at
escape_no at (c ∷ t) = escape_of_no at c t (class_escape c) (unsupported_escape c)

class_atom_no : (at c : ℕ) (t : List ℕ) → NoMemory (class_atom at c t)
class_atom_no at c t = if_no (c ∈ "\\") _ _ (escape_no at t) (ok_no (Character c, 0))

range_to_no : (at x taken : ℕ) (e : Escape) (n : ℕ) → NoMemory (range_to at x taken e n)
range_to_no at x taken (Class set) n = ok_no _
range_to_no at x taken (Character y) n = if_no (nat_le x y) _ _ (ok_no (span x y, taken + 1 + n)) (λ e. cc)

range_from_no : (at x taken end : ℕ) (t : List ℕ) → NoMemory (range_from at x taken end t)
range_from_no at x taken end [] = ok_no _
range_from_no at x taken end (d ∷ t) =
    then_no (class_atom end d t) (range_to at x taken) (class_atom_no end d t) (range_to_no at x taken)

item_of_no : (at : ℕ) (t : List ℕ) (e : Escape) (n : ℕ) → NoMemory (item_of at t e n)
item_of_no at t (Class set) n = if_no (stands_at n "-" t) _ _ (ok_no _) (ok_no _)
item_of_no at t (Character x) n =
    if_no (stands_at n "-" t && not (stands_at (n + 1) "]" t)) _ _
    (range_from_no at x (n + 1) (at + n + 2) (drop (n + 1) t)) (ok_no ((x, x) ∷ [], n))

items_at_no : (b : Bool) (at c : ℕ) (t : List ℕ) (more : ℕ → Reading (List (ℕ × ℕ)))
    → ((n : ℕ) → NoMemory (more n)) → NoMemory (items_at b at c t more)
items_at_no true at c t more h = ok_no ([], 1)
items_at_no false at c t more h =
    then_no (item at c t) (λ rs n. after (suc n) (λ more_rs. rs ++ more_rs) (more n))
    (then_no (class_atom at c t) (item_of at t) (class_atom_no at c t) (item_of_no at t))
    (λ rs n. after_no (suc n) (λ more_rs. rs ++ more_rs) (more n) (h n))

items_no : (skip at : ℕ) (t : List ℕ) → NoMemory (items skip at t)
items_no skip at [] = syntax_no at
items_no (suc skip) at (c ∷ t) = items_no skip (suc at) t
items_no zero at (c ∷ t) = items_at_no (c ∈ "]") at c t (λ n. items n (suc at) t) (λ n. items_no n (suc at) t)

class_no : (at : ℕ) (t : List ℕ) → NoMemory (class at t)
class_no at t =
    if_no (stands_at 0 "^" t) _ _
    (after_no 1 (λ rs. complement_of (set_of rs)) (items 0 (at + 2) (drop 1 t))
    (items_no 0 (at + 2) (drop 1 t)))
    (after_no 0 set_of (items 0 (at + 1) t) (items_no 0 (at + 1) t))

judged_no : (at low : ℕ) (high : Option ℕ) → NoMemory (judged_by at low high)
judged_no at low None = if_no (nat_lt widest_repeat low) _ _ (λ e. cc) (ok_no tt)
judged_no at low (Some high) =
    if_no (nat_lt widest_repeat low || nat_lt widest_repeat high) _ _ (λ e. cc)
    (if_no (nat_lt high low) _ _ (λ e. cc) (ok_no tt))

repeated_no : (tree : Tree) (t : List ℕ) (b : Bounds) (r : Result (Unit {0}) PatternFault) → NoMemory r
    → NoMemory (repeated_by tree t b r)
repeated_no tree t b (Ok u) h = ok_no _
repeated_no tree t b (Err fault) h = λ e. h (let same : fault ≡ Memory = cc in ap Err same)

quantified_by_no : (tree : Tree) (at : ℕ) (t : List ℕ) (o : Option Bounds)
    → NoMemory (quantified_by tree at t o)
quantified_by_no tree at t None = ok_no (tree, 0)
quantified_by_no tree at t (Some b) = repeated_no tree t b (judged at b) (judged_no at b.low b.high)

quantified_no : (tree : Tree) (at : ℕ) (t : List ℕ) → NoMemory (quantified tree at t)
quantified_no tree at [] = ok_no (tree, 0)
quantified_no tree at (c ∷ t) = quantified_by_no tree at t (quantifier c t)

atom_no : (at c : ℕ) (t : List ℕ) → NoMemory (atom at c t)
atom_no at c t =
    if_no (c ∈ ".") _ _ (ok_no (one_of dot_set, 0))
    (if_no (c ∈ "\\") _ _ (after_no 0 set_of_escape (escape at t) (escape_no at t))
    (if_no (c ∈ "[") _ _ (after_no 0 one_of (class at t) (class_no at t))
    (if_no (is_some (quantifier c t)) _ _ (syntax_no at) (ok_no (one_of ((c, c) ∷ []), 0)))))

term_no : (at c : ℕ) (t : List ℕ) → NoMemory (term at c t)
term_no at c t =
    if_no (c ∈ "^") _ _ (ok_no _) (if_no (c ∈ "$") _ _ (ok_no _)
    (then_no (atom at c t) _ (atom_no at c t)
    (λ tree n. after_no n (λ x. x) _ (quantified_no tree (at + 1 + n) (drop n t)))))

opening_no : (at : ℕ) (t : List ℕ) → NoMemory (opening at t)
opening_no at t =
    if_no (stands_at 0 "?" t) _ _
    (if_no (stands_at 1 ":" t) _ _ (ok_no 2)
    (if_no (stands_at 1 "=" t || stands_at 1 "!" t) _ _ (unsupported_no at Lookaround)
    (if_no (stands_at 1 "<" t) _ _
    (if_no (stands_at 2 "=" t || stands_at 2 "!" t) _ _ (unsupported_no at Lookaround)
    (unsupported_no at NamedGroup))
    (syntax_no at))))
    (ok_no 0)

nested_no : (depth at : ℕ) (r : Result ℕ PatternFault) → NoMemory r → NoMemory (nested depth at r)
nested_no depth at (Ok taken) k = if_no (nat_lt depth most_nested) _ _ (ok_no taken) (unsupported_no at Nesting)
nested_no depth at (Err fault) k = λ e. k (let same : fault ≡ Memory = cc in ap Err same)

module _ (inner more : ℕ → Reading Body) (i : (n : ℕ) → NoMemory (inner n)) (h : (n : ℕ) → NoMemory (more n)) where
  term_and_more_no : (tree : Tree) (n : ℕ) → NoMemory (term_and_more more tree n)
  term_and_more_no tree n = after_no (suc n) (add_term tree) (more n) (h n)

  group_end_no : (body : Body) (taken at : ℕ) (t : List ℕ) → NoMemory (group_end more body taken at t)
  group_end_no body taken at [] = syntax_no at
  group_end_no body taken at (c ∷ t) =
      then_no (quantified (tree_of body) (at + 1) t) _ (quantified_no (tree_of body) (at + 1) t)
      (λ tree n. term_and_more_no tree (taken + 1 + n))

  group_of_no : (at : ℕ) (t : List ℕ) (r : Result ℕ PatternFault) → NoMemory r
      → NoMemory (group_of inner more at t r)
  group_of_no at t (Ok taken) k =
      then_no (inner taken) _ (i taken)
      (λ body n. group_end_no body (taken + n) (at + 1 + (taken + n)) (drop (taken + n) t))
  group_of_no at t (Err fault) k = λ e. k (let same : fault ≡ Memory = cc in ap Err same)

  body_at_no : (sign : Sign) (depth at c : ℕ) (t : List ℕ) → NoMemory (body_at sign depth at c t inner more)
  body_at_no closes depth at c t = ok_no (empty_body, 0)
  body_at_no divides depth at c t = after_no 1 add_alternative (more 0) (h 0)
  body_at_no opens depth at c t =
      group_of_no at t (nested depth at (opening at t)) (nested_no depth at (opening at t) (opening_no at t))
  body_at_no begins_term depth at c t = then_no (term at c t) _ (term_no at c t) term_and_more_no

alternatives_no : (depth skip at : ℕ) (t : List ℕ) → NoMemory (alternatives depth skip at t)
alternatives_no depth skip at [] = ok_no (empty_body, 0)
alternatives_no depth (suc skip) at (c ∷ t) = alternatives_no depth skip (suc at) t
alternatives_no depth zero at (c ∷ t) =
    body_at_no (λ n. alternatives (suc depth) n (suc at) t) (λ n. alternatives depth n (suc at) t)
    (λ n. alternatives_no (suc depth) n (suc at) t) (λ n. alternatives_no depth n (suc at) t) (sign_of c) depth at c t

whole_no : (t : List ℕ) (r : Reading Body) → NoMemory r → NoMemory (whole t r)
whole_no t (Ok p) h = if_no (nat_lt p.1 (length t)) _ _ (syntax_no p.1) (ok_no (tree_of p.0))
whole_no t (Err fault) h = λ e. h (let same : fault ≡ Memory = cc in ap Err same)

-- no text has want of memory as the answer of the grammar
pub pattern_no_memory : (t : List ℕ) → pattern t ≢ Err Memory
unfolding pattern
pattern_no_memory t = whole_no t (alternatives 0 0 0 t) (alternatives_no 0 0 0 t)
