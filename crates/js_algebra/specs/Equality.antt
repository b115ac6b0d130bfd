-- Equality and hashes: of goals by their lists of signed positions, and of patterns by their texts and trees.
use Rattle.std.specs.Prelude.{◌≡◌, ℕ, Bool, true, false, ◌&&◌, ◌++◌, List, nat_eq, encode_utf8_all}
use Rattle.std.specs.Bool.{Decides}
use Rattle.std.specs.Cmp.{IsEquivalence, decided, unsigned_Decides}
use Rattle.std.specs.Cmp.Lexicographic.{pointwise, pointwise_decides, bytes_decides}
use Rattle.std.specs.Hash as fed
use Rattle.std.specs.Hash.{HashWrites, Alike, same_Alike}
use Rattle.std.proofs.Common.{ap, ap₂, sym}
use Rattle.std.proofs.lemmas.Bool.{and_parts, true≢false}
use Rattle.patterns.specs.Tree.{Tree}
use Rattle.positions.specs.Position.{Pattern}
use Rattle.goals.specs.Signed.{Signed, Plus, Minus, position_of, same_signed}
use Rattle.patterns.specs.SameTree.{same_tree}
use Rattle.pattern_laws.proofs.SameTrees.{same_tree-Decides}
use Rattle.js_pattern.specs.Fingerprint.{tree_print}

abbrev is_plus : Signed → Bool
is_plus (Plus p) = true
is_plus (Minus p) = false

pub same_signed-Decides : (x y : Signed) → Decides (same_signed x y) (x ≡ y)
same_signed-Decides (Plus p) (Plus q) =
    (λ e. ap Plus ((unsigned_Decides p q).0 e), λ e. (unsigned_Decides p q).1 (ap position_of e))
same_signed-Decides (Plus p) (Minus q) = (λ e. absurd (true≢false (sym e)), λ e. absurd (true≢false (ap is_plus e)))
same_signed-Decides (Minus p) (Plus q) =
    (λ e. absurd (true≢false (sym e)), λ e. absurd (true≢false (sym (ap is_plus e))))
same_signed-Decides (Minus p) (Minus q) =
    (λ e. ap Minus ((unsigned_Decides p q).0 e), λ e. (unsigned_Decides p q).1 (ap position_of e))

-- two goals are the same where their lists are
abbrev pub same_goal : List Signed → List Signed → Bool
same_goal = pointwise same_signed

pub same_goal-Decides : (g h : List Signed) → Decides (same_goal g h) (g ≡ h)
same_goal-Decides = pointwise_decides same_signed-Decides

pub same_goal_equiv : IsEquivalence same_goal
same_goal_equiv = decided same_goal same_goal-Decides

-- what a signed position feeds a hasher
abbrev pub signed_writes : Signed → HashWrites
signed_writes (Plus p) = fed.u32 p ++ fed.bool true
signed_writes (Minus p) = fed.u32 p ++ fed.bool false

abbrev pub goal_writes : List Signed → HashWrites
goal_writes = fed.slice signed_writes

pub goals_Alike : Alike same_goal goal_writes
goals_Alike = same_Alike goal_writes same_goal-Decides

-- two patterns are the same where their texts and their trees are
abbrev pub same_pattern : Pattern → Pattern → Bool
same_pattern p q = pointwise nat_eq p.source q.source && same_tree p.tree q.tree

abbrev pattern_of : List ℕ → Tree → Pattern
pattern_of s t = record { source = s; tree = t }

both_true : (a b : Bool) → a ≡ true → b ≡ true → (a && b) ≡ true
both_true a b h k = ap₂ (λ x y. x && y) h k

pub same_pattern-Decides : (p q : Pattern) → Decides (same_pattern p q) (p ≡ q)
same_pattern-Decides p q = (
  λ e.
      let parts = and_parts (pointwise nat_eq p.source q.source) (same_tree p.tree q.tree) e in
      ap₂ pattern_of ((bytes_decides p.source q.source).0 parts.0) ((same_tree-Decides p.tree q.tree).0 parts.1),
  λ e.
      both_true (pointwise nat_eq p.source q.source) (same_tree p.tree q.tree)
      ((bytes_decides p.source q.source).1 (ap (λ r. r.source) e))
      ((same_tree-Decides p.tree q.tree).1 (ap (λ r. r.tree) e)),
)

pub same_pattern_equiv : IsEquivalence same_pattern
same_pattern_equiv = decided same_pattern same_pattern-Decides

-- what a pattern feeds a hasher
abbrev pub pattern_writes : Pattern → HashWrites
pattern_writes p = fed.str (encode_utf8_all p.source) ++ fed.u64 (tree_print p.tree)

pub patterns_Alike : Alike same_pattern pattern_writes
patterns_Alike = same_Alike pattern_writes same_pattern-Decides
