-- What may follow, of what one or the other was read.
use Rattle.std.proofs.Common.{◌≡◌, ℕ, zero, suc, ◌+◌, ◌-◌, Bool, false, ◌||◌, List, ◌++◌, length, Some, None, refl, sym, ◌∙◌, ap, ap₂}
use Rattle.patterns.specs.Tree.{Tree, Trees, empty, one_of, at_start, at_end, in_turn, either, repeated, no_trees, tree}
use Rattle.word_states.specs.Position.{count_of}
use Rattle.state_laws.specs.Flow.{ends_here, next_copies, next_copies_on}
use Rattle.state_laws.specs.FollowSets.{or_each, may_follow, may_follow_in_turn, may_follow_of_one}
use Rattle.state_laws.specs.UnionLaws.{IsEither, FollowJoins}
use Rattle.state_laws.proofs.FollowSetsLemmas.{or_each_append, length_follow}
use Rattle.state_laws.proofs.EndsUnion.{Joins, again_joins, ends_join}

-- ---- copies
abbrev FlagsJoin : (both one other : ℕ → Bool → List Bool) → Type 0
FlagsJoin both one other = (base : ℕ) (b d : Bool) → both base (b || d) ≡ or_each (one base b) (other base d)

module _ (both one other : ℕ → Bool → Bool) (joins : Joins both one other) (count : ℕ)
    (flags here there : ℕ → Bool → List Bool) (flags_join : FlagsJoin flags here there)
    (same : (base : ℕ) (b d : Bool) → length (here base b) ≡ length (there base d)) where
  copies_follow : (n : ℕ)
      → FlagsJoin (next_copies flags both count n) (next_copies here one count n) (next_copies there other count n)
  copies_follow zero base b d = refl
  copies_follow (suc n) base b d =
      ap₂ (λ x y. x ++ y) (flags_join base b d)
      (ap (next_copies flags both count n (base + count)) (joins base b d)
      ∙ copies_follow n (base + count) (one base b) (other base d))
      ∙ sym (or_each_append (here base b) (there base d) (next_copies here one count n (base + count) (one base b))
      (next_copies there other count n (base + count) (other base d)) (same base b d))

  copies_on_follow : (n : ℕ)
      → FlagsJoin (next_copies_on flags both count n) (next_copies_on here one count n)
      (next_copies_on there other count n)
  copies_on_follow zero base b d =
      ap (flags base) (again_joins both one other joins count base b d)
      ∙ flags_join base (b || one base false) (d || other base false)
  copies_on_follow (suc n) base b d =
      ap₂ (λ x y. x ++ y) (flags_join base b d)
      (ap (next_copies_on flags both count n (base + count)) (joins base b d)
      ∙ copies_on_follow n (base + count) (one base b) (other base d))
      ∙ sym (or_each_append (here base b) (there base d) (next_copies_on here one count n (base + count) (one base b))
      (next_copies_on there other count n (base + count) (other base d)) (same base b d))

module _ (first : Bool) (read one other : ℕ → Bool) (is : IsEither read one other) where
  tree_ends : (t : Tree) → Joins (λ at some. ends_here t first false read at some)
      (λ at some. ends_here t first false one at some) (λ at some. ends_here t first false other at some)
  tree_ends t base b d = ends_join t first false read one other is base b d

  same_length : (t : Tree) (base : ℕ) (b d : Bool)
      → length (may_follow t first one base b) ≡ length (may_follow t first other base d)
  same_length t base b d = length_follow t first one base b ∙ sym (length_follow t first other base d)

  mutual
    follow_joins_tree : (t : Tree) (base : ℕ) (b d : Bool)
        → may_follow t first read base (b || d)
        ≡ or_each (may_follow t first one base b) (may_follow t first other base d)
    follow_joins_tree empty base b d = refl
    follow_joins_tree (one_of ranges) base b d = refl
    follow_joins_tree at_start base b d = refl
    follow_joins_tree at_end base b d = refl
    follow_joins_tree (in_turn ts) base b d = follow_joins_in_turn ts base b d
    follow_joins_tree (either ts) base b d = follow_joins_of_one ts base b d
    follow_joins_tree (repeated t low None) base b d =
        copies_on_follow (λ at some. ends_here t first false read at some)
        (λ at some. ends_here t first false one at some) (λ at some. ends_here t first false other at some)
        (tree_ends t) (count_of t) (λ at some. may_follow t first read at some)
        (λ at some. may_follow t first one at some) (λ at some. may_follow t first other at some)
        (follow_joins_tree t) (same_length t) (low - 1) base b d
    follow_joins_tree (repeated t low (Some high)) base b d =
        copies_follow (λ at some. ends_here t first false read at some)
        (λ at some. ends_here t first false one at some) (λ at some. ends_here t first false other at some)
        (tree_ends t) (count_of t) (λ at some. may_follow t first read at some)
        (λ at some. may_follow t first one at some) (λ at some. may_follow t first other at some)
        (follow_joins_tree t) (same_length t) high base b d

    follow_joins_in_turn : (ts : Trees) (base : ℕ) (b d : Bool)
        → may_follow_in_turn ts first read base (b || d)
        ≡ or_each (may_follow_in_turn ts first one base b) (may_follow_in_turn ts first other base d)
    follow_joins_in_turn no_trees base b d = refl
    follow_joins_in_turn (tree t ts) base b d =
        ap₂ (λ x y. x ++ y) (follow_joins_tree t base b d)
        (ap (may_follow_in_turn ts first read (base + count_of t)) (tree_ends t base b d)
        ∙ follow_joins_in_turn ts (base + count_of t) (ends_here t first false one base b)
        (ends_here t first false other base d))
        ∙ sym (or_each_append (may_follow t first one base b) (may_follow t first other base d)
        (may_follow_in_turn ts first one (base + count_of t) (ends_here t first false one base b))
        (may_follow_in_turn ts first other (base + count_of t) (ends_here t first false other base d))
        (same_length t base b d))

    follow_joins_of_one : (ts : Trees) (base : ℕ) (b d : Bool)
        → may_follow_of_one ts first read base (b || d)
        ≡ or_each (may_follow_of_one ts first one base b) (may_follow_of_one ts first other base d)
    follow_joins_of_one no_trees base b d = refl
    follow_joins_of_one (tree t ts) base b d =
        ap₂ (λ x y. x ++ y) (follow_joins_tree t base b d) (follow_joins_of_one ts (base + count_of t) b d)
        ∙ sym (or_each_append (may_follow t first one base b) (may_follow t first other base d)
        (may_follow_of_one ts first one (base + count_of t) b) (may_follow_of_one ts first other (base + count_of t) d)
        (same_length t base b d))

-- what may follow of what one or the other was read is what may follow of one of the two
pub follow_joins : FollowJoins
follow_joins t first read one other is base b d = follow_joins_tree first read one other is t base b d
