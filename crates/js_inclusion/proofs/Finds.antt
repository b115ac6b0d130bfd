-- The tree of a pattern's text matches what the text matches by the rules of reading.
use Rattle.std.proofs.Common.{◌≡◌, ℕ, zero, suc, List, [], ◌∷◌, Bool, false, true, ◌&&◌, ◌||◌, not, nat_lt, if◌then◌else◌, length, Result, Ok, Err, refl, ap₂}
use mathlib.Core.Path.{fun_ext}
use Rattle.patterns.specs.Tree.{Tree, one_of}
use Rattle.patterns.specs.Decision.{is_empty, finds, finds_up_to}
use Rattle.draft06.specs.Matching.{finds_tree, finds_text}
use Rattle.js_pattern.specs.Grammar.{pattern}
use Rattle.js_pattern.specs.declared.fault.PatternFault.{PatternFault}
use Rattle.js_keywords.specs.Reading.{rules}
use Rattle.js_normal.specs.PatternTrees.{tree_or_none, tree_of}

-- a set without members matches nothing
nothing_ends : (w : List ℕ) (i : ℕ) → finds_up_to (one_of []) w i ≡ false
nothing_ends w zero = at_end (nat_lt 0 (length w)) where
  at_end : (b : Bool) → not (is_empty (if b && false then suc 0 ∷ [] else [])) ≡ false
  at_end true = refl
  at_end false = refl
nothing_ends w (suc n) = ap₂ (λ a b. a || b) (nothing_ends w n) (at_end (nat_lt (suc n) (length w))) where
  at_end : (b : Bool) → not (is_empty (if b && false then suc (suc n) ∷ [] else [])) ≡ false
  at_end true = refl
  at_end false = refl

finds-tree_or : (r : Result Tree PatternFault) (w : List ℕ) → finds (tree_or_none r) w ≡ finds_tree r w
finds-tree_or (Ok t) w = refl
finds-tree_or (Err f) w = nothing_ends w (length w)

-- a tree of a text is found where the text is found by the rules of reading
pub finds-tree_of : (λ t. finds (tree_of t)) ≡ finds_text rules
finds-tree_of = fun_ext (λ t. fun_ext (λ w. finds-tree_or (pattern t) w))
