-- What comes of a text stays the same as the reader goes on: a term, a `|`, a `(` or a `)` later.
use Rattle.std.proofs.Common.{◌≡◌, ℕ, zero, suc, ◌+◌, ◌-◌, ◌<◌, ◌≤◌, inl, inr, Bool, if◌then◌else◌, nat_lt, List, [], ◌∷◌, ◌++◌, map, reverse, length, drop, Result, Ok, Err, refl, ap, sym, ◌∙◌, append_assoc, append-nil, add-zero, length-drop, arith}
use Rattle.std.proofs.lemmas.List.{drop-drop, map-append, reverse-append, length-reverse, length-map}
use Rattle.std.proofs.lemmas.Bool.{cases_lt, lt-ltb, le-ltb}
use Rattle.patterns.specs.Tree.{Tree}
use Rattle.js_pattern.specs.declared.fault.PatternFault.{PatternFault}
use Rattle.js_pattern.specs.declared.fault.PatternFault.TheVariants.{Syntax, Unsupported}
use Rattle.js_pattern.specs.declared.fault.PatternForm.TheVariants.{Nesting}
use Rattle.js_pattern.specs.Reading.{Reading, and_then, after}
use Rattle.js_pattern.specs.Quantifiers.{quantified}
use Rattle.js_pattern.specs.Grammar.{Body, empty_body, Sign, add_term, add_alternative, alternation_of, sequence_of, tree_of, closes, divides, opens, begins_term, sign_of, opening, term, term_and_more, most_nested, nested, group_end, group_of, body_at, alternatives, whole, pattern}
use Rattle.js_pattern.specs.declared.level.Level.{Level}
use Rattle.js_pattern.specs.View.{IsFault}
use Rattle.js_pattern.specs.Progress.{Part, make_part, part, parts, with_term, divided, finished, ended, Next, go_on, close_at, closed, outcome}

-- reading n characters later is reading what is left then
pub alternatives_skip : (depth n at : ℕ) (t : List ℕ)
    → alternatives depth n at t ≡ alternatives depth 0 (at + n) (drop n t)
alternatives_skip depth zero at t = ap (λ a. alternatives depth 0 a t) (sym (add-zero at))
alternatives_skip depth (suc n) at [] = refl
alternatives_skip depth (suc n) at (c ∷ t) =
    alternatives_skip depth n (suc at) t
    ∙ (let e : suc at + n ≡ at + suc n = omega arith in ap (λ a. alternatives depth 0 a (drop n t)) e)

-- where reading goes on k characters later with another part, the outcome stays
module _ (p q : Part) (at k : ℕ) (s : List ℕ) (f : Body → Body)
    (same : (body : Body) → finished p (f body) ≡ finished q body) where
  ended_on : (r : Reading Body) → ended p at s (after k f r) ≡ ended q (at + k) (drop k s) r
  ended_on (Err fault) = refl
  ended_on (Ok (body, n)) =
      ap (λ a. if_left (nat_lt (k + n) (length s)) a (finished p (f body))) (add_assoc' at k n)
      ∙ ap (λ b. if_left b (at + k + n) (finished p (f body))) (left_over k n s)
      ∙ ap (λ t. if_left (nat_lt n (length (drop k s))) (at + k + n) t) (same body) where
        if_left : Bool → ℕ → Tree → Result Tree PatternFault
        if_left b a t = if b then Err (Syntax a) else Ok t

        add_assoc' : (a b c : ℕ) → a + (b + c) ≡ a + b + c
        add_assoc' a b c = omega arith

        left_over : (k n : ℕ) (s : List ℕ) → nat_lt (k + n) (length s) ≡ nat_lt n (length (drop k s))
        left_over k n s =
            let shorter : length (drop k s) ≡ length s - k = length-drop k s in
            elim (cases_lt (k + n) (length s)) [
              | inl l ↦ lt-ltb (k + n) (length s) l ∙ sym (lt-ltb n (length (drop k s)) (omega arith))
              | inr l ↦ le-ltb (k + n) (length s) l ∙ sym (le-ltb n (length (drop k s)) (omega arith))
            ]

  closed_on : (next : Next) (r : Reading Body)
      → closed next p at s (after k f r) ≡ closed next q (at + k) (drop k s) r
  closed_on next (Err fault) = refl
  closed_on next (Ok (body, n)) =
      ap (λ t. close_at next t (at + (k + n)) (drop (k + n) s)) (same body)
      ∙ (let e : at + (k + n)
      ≡ at + k + n = omega arith in ap (λ a. close_at next (finished q body) a (drop (k + n) s)) e)
      ∙ ap (close_at next (finished q body) (at + k + n)) (sym (drop-drop n k s))

  pub outcome_on : (outers : List Part)
      → alternatives (length outers) 0 at s ≡ after k f (alternatives (length outers) 0 (at + k) (drop k s))
      → outcome outers p at s ≡ outcome outers q (at + k) (drop k s)
  outcome_on [] e = ap (ended p at s) e ∙ ended_on (alternatives 0 0 (at + k) (drop k s))
  outcome_on (outer ∷ outers) e =
      ap (closed (λ tree. outcome outers (with_term outer tree)) p at s) e
      ∙ closed_on (λ tree. outcome outers (with_term outer tree))
      (alternatives (suc (length outers)) 0 (at + k) (drop k s))

-- what one more term, or the end of an alternative, makes of the tree
finished-add_term : (p : Part) (tree : Tree) (body : Body)
    → finished p (add_term tree body) ≡ finished (with_term p tree) body
finished-add_term p tree body =
    ap (λ ts. alternation_of (p.done ++ sequence_of ts ∷ map sequence_of body.1))
    (sym (append_assoc p.terms (tree ∷ []) body.0))

finished-add_alternative : (p : Part) (body : Body)
    → finished p (add_alternative body) ≡ finished (divided p) body
finished-add_alternative p body =
    ap (λ ts. alternation_of (p.done ++ sequence_of ts ∷ sequence_of body.0 ∷ map sequence_of body.1))
    (append-nil p.terms)
    ∙ ap alternation_of (sym
    (append_assoc p.done (sequence_of p.terms ∷ []) (sequence_of body.0 ∷ map sequence_of body.1)))

-- a fault of what is here is what comes of the text
pub outcome_fault : (outers : List Part) (p : Part) (at : ℕ) (s : List ℕ) (fault : PatternFault)
    → alternatives (length outers) 0 at s ≡ Err fault → outcome outers p at s ≡ Err fault
outcome_fault [] p at s fault e = ap (ended p at s) e
outcome_fault (outer ∷ outers) p at s fault e =
    ap (closed (λ tree. outcome outers (with_term outer tree)) p at s) e

-- the opening of a group that is inside few others, or inside too many
pub nested_within : (depth at n : ℕ) (r : Result ℕ PatternFault) → r ≡ Ok n → depth < most_nested
    → nested depth at r ≡ Ok n
nested_within depth at n r e few =
    ap (nested depth at) e
    ∙ ap (λ b. if b then Ok n else Err (Unsupported at Nesting)) (lt-ltb depth most_nested few)

pub nested_beyond : (depth at n : ℕ) (r : Result ℕ PatternFault) → r ≡ Ok n → most_nested ≤ depth
    → nested depth at r ≡ Err (Unsupported at Nesting)
nested_beyond depth at n r e many =
    ap (nested depth at) e
    ∙ ap (λ b. if b then Ok n else Err (Unsupported at Nesting)) (le-ltb depth most_nested many)

module _ (outers : List Part) (p : Part) (at c : ℕ) (t : List ℕ) where
  -- what is read inside as many groups, and inside one more
  here_on : ℕ → Reading Body
  here_on k = alternatives (length outers) k (suc at) t

  inner_on : ℕ → Reading Body
  inner_on k = alternatives (suc (length outers)) k (suc at) t

  from_here : (k : ℕ) (f : Body → Body)
      → alternatives (length outers) 0 at (c ∷ t) ≡ after (suc k) f (here_on k)
      → alternatives (length outers) 0 at (c ∷ t)
      ≡ after (suc k) f (alternatives (length outers) 0 (at + suc k) (drop (suc k) (c ∷ t)))
  unfolding here_on
  from_here k f e =
      e ∙ ap (after (suc k) f) (alternatives_skip (length outers) k (suc at) t
      ∙ (let place : suc at + k ≡ at + suc k = omega arith in
      ap (λ a. alternatives (length outers) 0 a (drop k t)) place))

  moved : (k : ℕ) (q : Part)
      → outcome outers q (at + suc k) (drop (suc k) (c ∷ t)) ≡ outcome outers q (at + 1 + k) (drop k t)
  moved k q = let place : at + suc k ≡ at + 1 + k = omega arith in ap (λ a. outcome outers q a (drop k t)) place

  -- what is here, by what its character means
  by_sign : (x : Sign) → sign_of c ≡ x
      → alternatives (length outers) 0 at (c ∷ t) ≡ body_at x (length outers) at c t inner_on here_on
  unfolding here_on inner_on
  by_sign x sign = ap (λ y. body_at y (length outers) at c t inner_on here_on) sign

  -- a term
  pub after_term : (tree : Tree) (n : ℕ) → sign_of c ≡ begins_term → term at c t ≡ Ok (tree, n)
      → outcome outers p at (c ∷ t) ≡ outcome outers (with_term p tree) (at + 1 + n) (drop n t)
  after_term tree n sign e =
      outcome_on p (with_term p tree) at (suc n) (c ∷ t) (add_term tree) (finished-add_term p tree) outers
      (from_here n (add_term tree)
      (by_sign begins_term sign ∙ ap (λ r. and_then r (term_and_more here_on)) e))
      ∙ moved n (with_term p tree)

  -- the end of an alternative
  pub after_bar : sign_of c ≡ divides
      → outcome outers p at (c ∷ t) ≡ outcome outers (divided p) (at + 1 + 0) (drop 0 t)
  after_bar sign =
      outcome_on p (divided p) at 1 (c ∷ t) add_alternative (finished-add_alternative p) outers
      (from_here 0 add_alternative (by_sign divides sign))
      ∙ moved 0 (divided p)

  -- the beginning of a group, of which n characters follow the `(`
  module _ (n : ℕ) (sign : sign_of c ≡ opens) (opened : nested (length outers) at (opening at t) ≡ Ok n) where
    next : Next
    next tree = outcome outers (with_term p tree)

    -- the whole from the `(` on, by what the body of the group is
    by_body : Reading Body → Reading Body
    by_body r = and_then r (λ body m. group_end here_on body (n + m) (at + 1 + (n + m)) (drop (n + m) t))

    here : alternatives (length outers) 0 at (c ∷ t) ≡ by_body (inner_on n)
    unfolding by_body
    here = by_sign opens sign ∙ ap (group_of inner_on here_on at t) opened

    inside : inner_on n ≡ alternatives (suc (length outers)) 0 (at + 1 + n) (drop n t)
    unfolding inner_on
    inside =
        alternatives_skip (suc (length outers)) n (suc at) t
        ∙ (let place : suc at + n ≡ at + 1 + n = omega arith in
        ap (λ a. alternatives (suc (length outers)) 0 a (drop n t)) place)

    -- after the quantifier of the group
    by_quantifier : (body : Body) (k : ℕ) (u : List ℕ) (c' : ℕ) → drop k t ≡ c' ∷ u → (q : Reading Tree)
        → (alternatives (length outers) 0 at (c ∷ t)
        ≡ and_then q (λ tree m. term_and_more here_on tree (k + 1 + m)))
        → outcome outers p at (c ∷ t) ≡ go_on next (at + 1 + k + 1) u q
    unfolding next
    by_quantifier body k u c' left (Ok (tree, m)) e =
        outcome_on p (with_term p tree) at (suc (k + 1 + m)) (c ∷ t) (add_term tree)
        (finished-add_term p tree) outers
        (from_here (k + 1 + m) (add_term tree) e)
        ∙ moved (k + 1 + m) (with_term p tree)
        ∙ (let place : at + 1 + (k + 1 + m) ≡ at + 1 + k + 1 + m = omega arith in
        ap (λ a. outcome outers (with_term p tree) a (drop (k + 1 + m) t)) place)
        ∙ ap (outcome outers (with_term p tree) (at + 1 + k + 1 + m))
        (sym (drop-drop m (k + 1) t) ∙ ap (drop m) (sym (drop-drop 1 k t) ∙ ap (drop 1) left))
    by_quantifier body k u c' left (Err fault) e = outcome_fault outers p at (c ∷ t) fault e

    by_end : (body : Body) (k : ℕ) (u : List ℕ) → drop k t ≡ u
        → alternatives (length outers) 0 at (c ∷ t) ≡ group_end here_on body k (at + 1 + k) u
        → outcome outers p at (c ∷ t) ≡ close_at next (tree_of body) (at + 1 + k) u
    by_end body k [] left e = outcome_fault outers p at (c ∷ t) (Syntax (at + 1 + k)) e
    by_end body k (c' ∷ u) left e =
        by_quantifier body k u c' left (quantified (tree_of body) (at + 1 + k + 1) u) e

    by_inside : (r : Reading Body) → alternatives (length outers) 0 at (c ∷ t) ≡ by_body r
        → outcome outers p at (c ∷ t) ≡ closed next (make_part [] []) (at + 1 + n) (drop n t) r
    unfolding by_body
    by_inside (Ok (body, m)) e =
        by_end body (n + m) (drop (n + m) t) refl e
        ∙ (let place : at + 1 + (n + m)
        ≡ at + 1 + n + m = omega arith in ap (λ a. close_at next (tree_of body) a (drop (n + m) t)) place)
        ∙ ap (close_at next (tree_of body) (at + 1 + n + m)) (sym (drop-drop m n t))
    by_inside (Err fault) e = outcome_fault outers p at (c ∷ t) fault e

    pub after_opening : outcome outers p at (c ∷ t)
        ≡ outcome (p ∷ outers) (make_part [] []) (at + 1 + n) (drop n t)
    unfolding next
    after_opening =
        by_inside (alternatives (suc (length outers)) 0 (at + 1 + n) (drop n t)) (here ∙ ap by_body inside)

  -- the `)` of the whole text
  pub after_last : sign_of c ≡ closes → outcome [] p at (c ∷ t) ≡ Err (Syntax at)
  after_last sign =
      ap (ended p at (c ∷ t))
      (ap (λ x. body_at x 0 at c t (λ k. alternatives 1 k (suc at) t) (λ k. alternatives 0 k (suc at) t)) sign)
      ∙ ap (λ b. if b then Err (Syntax (at + 0)) else Ok (finished p empty_body))
      (lt-ltb 0 (suc (length t)) (omega arith))
      ∙ (let place : at + 0 ≡ at = omega arith in ap (λ a. Err (Syntax a)) place)

  -- the `)` of a group, with the quantifier that follows it
  pub after_close : (outer : Part) → sign_of c ≡ closes
      → outcome (outer ∷ outers) p at (c ∷ t)
      ≡ go_on (λ tree. outcome outers (with_term outer tree)) (at + 1) t
      (quantified (finished p empty_body) (at + 1) t)
  after_close outer sign =
      ap (closed (λ tree. outcome outers (with_term outer tree)) p at (c ∷ t))
      (ap (λ x. body_at x (suc (length outers)) at c t (λ k. alternatives (suc (suc (length outers))) k (suc at) t)
      (λ k. alternatives (suc (length outers)) k (suc at) t)) sign)
      ∙ (let place : at + 0 ≡ at = omega arith in
      ap (λ a. go_on (λ tree. outcome outers (with_term outer tree)) (a + 1) t
      (quantified (finished p empty_body) (a + 1) t)) place)

  -- faults of what is here
  pub term_fault : (fault : PatternFault) → sign_of c ≡ begins_term → IsFault fault (term at c t)
      → IsFault fault (outcome outers p at (c ∷ t))
  term_fault fault sign h no_memory =
      outcome_fault outers p at (c ∷ t) fault
      (by_sign begins_term sign ∙ ap (λ r. and_then r (term_and_more here_on)) (h no_memory))

  pub opening_fault : (fault : PatternFault) → sign_of c ≡ opens
      → nested (length outers) at (opening at t) ≡ Err fault
      → IsFault fault (outcome outers p at (c ∷ t))
  opening_fault fault sign e no_memory =
      outcome_fault outers p at (c ∷ t) fault (by_sign opens sign ∙ ap (group_of inner_on here_on at t) e)

-- the end of the text, where no group is open, and where one is
pub at_last : (p : Part) (at : ℕ) → outcome [] p at [] ≡ Ok (finished p empty_body)
at_last p at = refl

pub at_open : (outer : Part) (outers : List Part) (p : Part) (at : ℕ)
    → outcome (outer ∷ outers) p at [] ≡ Err (Syntax at)
at_open outer outers p at = let place : at + 0 ≡ at = omega arith in ap (λ a. Err (Syntax a)) place

-- what comes of the whole text
pub whole_text : (t : List ℕ) → pattern t ≡ outcome [] (make_part [] []) 0 t
unfolding pattern
whole_text t = by (alternatives 0 0 0 t) where
  by : (r : Reading Body) → whole t r ≡ ended (make_part [] []) 0 t r
  by (Ok (body, n)) =
      let e : n ≡ 0 + n = omega arith in ap
      (λ a. if nat_lt n (length t) then Err (Syntax a) else Ok (tree_of body)) e
  by (Err fault) = refl

-- the stack of groups, as a group is opened
pub parts_push : (ls : List Level) (l : Level) → parts (ls ++ l ∷ []) ≡ part l ∷ parts ls
parts_push ls l = ap reverse (map-append part ls (l ∷ [])) ∙ reverse-append (map part ls) (part l ∷ [])

pub parts_length : (ls : List Level) → length (parts ls) ≡ length ls
parts_length ls = length-reverse (map part ls) ∙ length-map ls part

open_at_end : (os : List Part) (p : Part) (at : ℕ) → 0 < length os → outcome os p at [] ≡ Err (Syntax at)
open_at_end [] p at h = absurd (omega arith)
open_at_end (o ∷ os) p at h = at_open o os p at

-- a group is open at the end of the text
pub levels_open : (ls : List Level) (p : Part) (at : ℕ) → 0 < length ls
    → outcome (parts ls) p at [] ≡ Err (Syntax at)
levels_open ls p at h =
    open_at_end (parts ls) p at
    (let e : length (parts ls) ≡ length ls = parts_length ls in omega arith)
