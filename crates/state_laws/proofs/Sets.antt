-- What reads a character is what may follow, where the set has the character.
use Rattle.std.proofs.Common.{◌≡◌, ℕ, zero, suc, ◌+◌, ◌-◌, Bool, false, ◌||◌, List, ◌++◌, length, Some, None, refl, sym, ◌∙◌, ap, ap₂, append-nil}
use Rattle.patterns.specs.Tree.{Tree, Trees, empty, one_of, at_start, at_end, in_turn, either, repeated, no_trees, tree}
use Rattle.word_states.specs.Position.{count_of, times, sets_of, sets_in}
use Rattle.state_laws.specs.Flow.{ends_here, next_copies, next_copies_on, reads_next, reads_next_in_turn, reads_next_of_one}
use Rattle.state_laws.specs.FollowSets.{or_each, and_each, sets_have, may_follow, may_follow_in_turn, may_follow_of_one}
use Rattle.state_laws.specs.UnionLaws.{NextAsksSets, NextJoins}
use Rattle.state_laws.proofs.FollowSetsLemmas.{and_each_append, and_each_or, length_follow, length_sets_have, sets_have_append, once}
use Rattle.state_laws.proofs.FollowsUnion.{follow_joins}

-- ---- copies
module _ (c : ℕ) (sets : List (List (ℕ × ℕ))) (one : ℕ → Bool → Bool) (count : ℕ)
    (reads flags : ℕ → Bool → List Bool)
    (asks : (base : ℕ) (b : Bool) → reads base b ≡ and_each (flags base b) (sets_have sets c))
    (same : (base : ℕ) (b : Bool) → length (flags base b) ≡ length (sets_have sets c)) where
  copies_ask : (n base : ℕ) (b : Bool)
      → next_copies reads one count n base b
      ≡ and_each (next_copies flags one count n base b) (sets_have (times n sets) c)
  copies_ask zero base b = refl
  copies_ask (suc n) base b =
      ap₂ (λ x y. x ++ y) (asks base b) (copies_ask n (base + count) (one base b))
      ∙ sym (and_each_append (flags base b) (sets_have sets c)
      (next_copies flags one count n (base + count) (one base b))
      (sets_have (times n sets) c) (same base b))
      ∙ ap (and_each (flags base b ++ next_copies flags one count n (base + count) (one base b)))
      (sym (sets_have_append sets (times n sets) c))

  copies_on_ask : (n base : ℕ) (b : Bool)
      → next_copies_on reads one count n base b
      ≡ and_each (next_copies_on flags one count n base b) (sets_have (times (suc n) sets) c)
  copies_on_ask zero base b =
      asks base (b || one base false)
      ∙ ap (λ z. and_each (flags base (b || one base false)) (sets_have z c)) (sym (append-nil sets))
  copies_on_ask (suc n) base b =
      ap₂ (λ x y. x ++ y) (asks base b) (copies_on_ask n (base + count) (one base b))
      ∙ sym (and_each_append (flags base b) (sets_have sets c)
      (next_copies_on flags one count n (base + count) (one base b))
      (sets_have (times (suc n) sets) c) (same base b))
      ∙ ap (and_each (flags base b ++ next_copies_on flags one count n (base + count) (one base b)))
      (sym (sets_have_append sets (times (suc n) sets) c))

module _ (first : Bool) (read : ℕ → Bool) (c : ℕ) where
  same_length : (t : Tree) (base : ℕ) (b : Bool)
      → length (may_follow t first read base b) ≡ length (sets_have (sets_of t) c)
  same_length t base b = length_follow t first read base b ∙ sym (length_sets_have t c)

  mutual
    asks_tree : (t : Tree) (base : ℕ) (b : Bool)
        → reads_next t first read c base b ≡ and_each (may_follow t first read base b) (sets_have (sets_of t) c)
    asks_tree empty base b = refl
    asks_tree (one_of ranges) base b = refl
    asks_tree at_start base b = refl
    asks_tree at_end base b = refl
    asks_tree (in_turn ts) base b = asks_in_turn ts base b
    asks_tree (either ts) base b = asks_of_one ts base b
    asks_tree (repeated t low None) base b =
        copies_on_ask c (sets_of t) (λ at some. ends_here t first false read at some) (count_of t)
        (λ at some. reads_next t first read c at some) (λ at some. may_follow t first read at some)
        (asks_tree t) (same_length t) (low - 1) base b
        ∙ ap (λ n. and_each (may_follow (repeated t low None) first read base b) (sets_have (times n (sets_of t)) c))
        (once low)
    asks_tree (repeated t low (Some high)) base b =
        copies_ask c (sets_of t) (λ at some. ends_here t first false read at some) (count_of t)
        (λ at some. reads_next t first read c at some) (λ at some. may_follow t first read at some)
        (asks_tree t) (same_length t) high base b

    asks_in_turn : (ts : Trees) (base : ℕ) (b : Bool)
        → reads_next_in_turn ts first read c base b
        ≡ and_each (may_follow_in_turn ts first read base b) (sets_have (sets_in ts) c)
    asks_in_turn no_trees base b = refl
    asks_in_turn (tree t ts) base b =
        ap₂ (λ x y. x ++ y) (asks_tree t base b)
        (asks_in_turn ts (base + count_of t) (ends_here t first false read base b))
        ∙ sym (and_each_append (may_follow t first read base b) (sets_have (sets_of t) c)
        (may_follow_in_turn ts first read (base + count_of t) (ends_here t first false read base b))
        (sets_have (sets_in ts) c) (same_length t base b))
        ∙ ap (and_each (may_follow_in_turn (tree t ts) first read base b))
        (sym (sets_have_append (sets_of t) (sets_in ts) c))

    asks_of_one : (ts : Trees) (base : ℕ) (b : Bool)
        → reads_next_of_one ts first read c base b
        ≡ and_each (may_follow_of_one ts first read base b) (sets_have (sets_in ts) c)
    asks_of_one no_trees base b = refl
    asks_of_one (tree t ts) base b =
        ap₂ (λ x y. x ++ y) (asks_tree t base b) (asks_of_one ts (base + count_of t) b)
        ∙ sym (and_each_append (may_follow t first read base b) (sets_have (sets_of t) c)
        (may_follow_of_one ts first read (base + count_of t) b) (sets_have (sets_in ts) c) (same_length t base b))
        ∙ ap (and_each (may_follow_of_one (tree t ts) first read base b))
        (sym (sets_have_append (sets_of t) (sets_in ts) c))

-- a position reads a character exactly where it may follow and its set has the character
pub next_asks_sets : NextAsksSets
next_asks_sets t first read c base b = asks_tree first read c t base b

pub next_joins : NextJoins
next_joins t first read one other c is base b d =
    asks_tree first read c t base (b || d)
    ∙ ap (λ z. and_each z (sets_have (sets_of t) c)) (follow_joins t first read one other is base b d)
    ∙ and_each_or (may_follow t first one base b) (may_follow t first other base d) (sets_have (sets_of t) c)
    ∙ sym (ap₂ or_each (asks_tree first one c t base b) (asks_tree first other c t base d))
