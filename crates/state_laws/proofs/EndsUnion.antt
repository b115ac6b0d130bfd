-- Whether a match can end, of what one or the other was read.
use Rattle.std.proofs.Common.{◌≡◌, ℕ, zero, suc, ◌+◌, ◌-◌, Bool, true, false, ◌||◌, nat_lt, if◌then◌else◌, Some, None, refl, ◌∙◌, ap, ap₂}
use Rattle.patterns.specs.Tree.{Tree, Trees, empty, one_of, at_start, at_end, in_turn, either, repeated, no_trees, tree}
use Rattle.word_states.specs.Position.{count_of}
use Rattle.state_laws.specs.Flow.{through_some, through_copies, through_copies_on, ends_here, ends_here_in_turn, ends_here_of_one}
use Rattle.state_laws.specs.UnionLaws.{IsEither, EndsJoin}
use Rattle.list_laws.proofs.Booleans.{or_or_comm}
use Rattle.std.proofs.Math.Bool.{and-or_distrib_right}

if_joined : (a b c : Bool) → (if a then false else (b || c)) ≡ ((if a then false else b) || (if a then false else c))
if_joined true b c = refl
if_joined false b c = refl

-- ---- copies
abbrev pub Joins : (both one other : ℕ → Bool → Bool) → Type 0
Joins both one other = (base : ℕ) (b d : Bool) → both base (b || d) ≡ (one base b || other base d)

module _ (both one other : ℕ → Bool → Bool) (joins : Joins both one other) (count : ℕ) where
  some_joins : (k : ℕ) → Joins (through_some both count k) (through_some one count k) (through_some other count k)
  some_joins zero base b d = refl
  some_joins (suc k) base b d =
      ap (λ x. (b || d) || through_some both count k (base + count) x) (joins base b d)
      ∙ ap (λ x. (b || d) || x) (some_joins k (base + count) (one base b) (other base d))
      ∙ or_or_comm b d (through_some one count k (base + count) (one base b))
      (through_some other count k (base + count) (other base d))

  pub copies_joins : (k l : ℕ)
      → Joins (through_copies both count k l) (through_copies one count k l) (through_copies other count k l)
  copies_joins k zero base b d = some_joins k base b d
  copies_joins k (suc l) base b d =
      ap (through_copies both count k l (base + count)) (joins base b d)
      ∙ copies_joins k l (base + count) (one base b) (other base d)

  -- where the last copy may come again
  pub again_joins : (base : ℕ) (b d : Bool)
      → ((b || d) || both base false) ≡ ((b || one base false) || (d || other base false))
  again_joins base b d =
      ap (λ x. (b || d) || x) (joins base false false) ∙ or_or_comm b d (one base false) (other base false)

  pub copies_on_joins : (l : ℕ)
      → Joins (through_copies_on both count l) (through_copies_on one count l) (through_copies_on other count l)
  copies_on_joins zero base b d =
      ap (both base) (again_joins base b d) ∙ joins base (b || one base false) (d || other base false)
  copies_on_joins (suc l) base b d =
      ap (through_copies_on both count l (base + count)) (joins base b d)
      ∙ copies_on_joins l (base + count) (one base b) (other base d)

module _ (first last : Bool) (read one other : ℕ → Bool) (is : IsEither read one other) where
  mutual
    ends_join_tree : (t : Tree) (base : ℕ) (b d : Bool)
        → ends_here t first last read base (b || d)
        ≡ (ends_here t first last one base b || ends_here t first last other base d)
    ends_join_tree empty base b d = refl
    ends_join_tree (one_of ranges) base b d = is base
    ends_join_tree at_start base b d = and-or_distrib_right b d first
    ends_join_tree at_end base b d = and-or_distrib_right b d last
    ends_join_tree (in_turn ts) base b d = ends_join_in_turn ts base b d
    ends_join_tree (either ts) base b d = ends_join_of_one ts base b d
    ends_join_tree (repeated t zero None) base b d =
        ap (λ x. (b || d) || x) (ends_join_tree t base false false)
        ∙ or_or_comm b d (ends_here t first last one base false) (ends_here t first last other base false)
    ends_join_tree (repeated t (suc low) None) base b d =
        copies_on_joins (λ at some. ends_here t first last read at some) (λ at some. ends_here t first last one at some)
        (λ at some. ends_here t first last other at some) (ends_join_tree t) (count_of t) low base b d
    ends_join_tree (repeated t low (Some high)) base b d =
        ap (λ x. if nat_lt high low then false else x)
        (copies_joins (λ at some. ends_here t first last read at some) (λ at some. ends_here t first last one at some)
        (λ at some. ends_here t first last other at some) (ends_join_tree t) (count_of t) (high - low) low base b d)
        ∙ if_joined (nat_lt high low)
        (through_copies (λ at some. ends_here t first last one at some) (count_of t) (high - low) low base b)
        (through_copies (λ at some. ends_here t first last other at some) (count_of t) (high - low) low base d)

    ends_join_in_turn : (ts : Trees) (base : ℕ) (b d : Bool)
        → ends_here_in_turn ts first last read base (b || d)
        ≡ (ends_here_in_turn ts first last one base b || ends_here_in_turn ts first last other base d)
    ends_join_in_turn no_trees base b d = refl
    ends_join_in_turn (tree t ts) base b d =
        ap (ends_here_in_turn ts first last read (base + count_of t)) (ends_join_tree t base b d)
        ∙ ends_join_in_turn ts (base + count_of t) (ends_here t first last one base b)
        (ends_here t first last other base d)

    ends_join_of_one : (ts : Trees) (base : ℕ) (b d : Bool)
        → ends_here_of_one ts first last read base (b || d)
        ≡ (ends_here_of_one ts first last one base b || ends_here_of_one ts first last other base d)
    ends_join_of_one no_trees base b d = refl
    ends_join_of_one (tree t ts) base b d =
        ap₂ (λ x y. x || y) (ends_join_tree t base b d) (ends_join_of_one ts (base + count_of t) b d)
        ∙ or_or_comm (ends_here t first last one base b) (ends_here t first last other base d)
        (ends_here_of_one ts first last one (base + count_of t) b)
        (ends_here_of_one ts first last other (base + count_of t) d)

-- a match can end of what one or the other was read where it can of one of the two
pub ends_join : EndsJoin
ends_join t first last read one other is base b d = ends_join_tree first last read one other is t base b d
