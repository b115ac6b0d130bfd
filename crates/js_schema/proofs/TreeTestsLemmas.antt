-- The test on texts and trees says whether the tree is that of the text.
use Rattle.std.proofs.Common.{◌≡◌, ℕ, List, true, Result, Ok, Err, sym, ap, ◌∙◌, true≢false}
use Rattle.patterns.specs.Tree.{Tree}
use Rattle.pattern_laws.proofs.SameTrees.{same_tree-refl, same_tree-eq}
use Rattle.js_pattern.specs.declared.fault.PatternFault.{PatternFault}
use Rattle.js_pattern.specs.Correct.{HasTree}
use Rattle.js_pattern.specs.Grammar.{pattern}
use Rattle.js_schema.specs.TreeTests.{is_read_as, is_tree_of}

read_as : (r : Result Tree PatternFault) (t : Tree) → is_read_as r t ≡ true → r ≡ Ok t
read_as (Ok u) t h = ap Ok (same_tree-eq u t h)
read_as (Err f) t h = absurd (true≢false (sym h))

-- a tree that passes the test is the tree of the text
pub HasTree-from_test : (w : List ℕ) (t : Tree) → is_tree_of w t ≡ true → HasTree w t
HasTree-from_test w t h = read_as (pattern w) t h

pub test-from_HasTree : (w : List ℕ) (t : Tree) → HasTree w t → is_tree_of w t ≡ true
test-from_HasTree w t h = ap (λ r. is_read_as r t) h ∙ same_tree-refl t

pub ruleset tree_tests = (HasTree-from_test, test-from_HasTree)
