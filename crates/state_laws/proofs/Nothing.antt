-- Where no position was read and no match can begin, nothing ends and nothing follows.
use Rattle.std.proofs.lemmas.Bool.{ltb-false}
use Rattle.std.proofs.Common.{◌≡◌, ℕ, zero, suc, ◌+◌, ◌-◌, ◌*◌, ◌≤◌, max, Bool, true, false, ◌||◌, nat_lt, List, ◌++◌, if◌then◌else◌, Some, None, refl, sym, ◌∙◌, ap, ap₂, subst, arith}
use Rattle.patterns.specs.Tree.{Tree, Trees, empty, one_of, at_start, at_end, in_turn, either, repeated, no_trees, tree}
use Rattle.word_states.specs.Position.{count_of, count_in, sets_of}
use Rattle.state_laws.specs.Flow.{through_some, through_copies, through_copies_on, ends_here, ends_here_in_turn, ends_here_of_one, next_copies, next_copies_on}
use Rattle.state_laws.specs.FollowSets.{and_each, no_flags, sets_have, may_follow, may_follow_in_turn, may_follow_of_one}
use Rattle.state_laws.specs.UnionLaws.{IsQuiet, NothingEnds, NothingFollows, NothingReads}
use Rattle.state_laws.proofs.FollowSetsLemmas.{no_flags_append, and_each_no_flags, length_sets_have, once}
use Rattle.state_laws.proofs.Sets.{next_asks_sets}

-- ---- parts of what is quiet
quiet_part : (read : ℕ → Bool) (base count start n : ℕ) → base ≤ start → start + n ≤ base + count
    → IsQuiet read base count → IsQuiet read start n
quiet_part read base count start n l m q p u v = q p (omega (arith, l, u)) (omega (arith, m, v))

quiet_first : (read : ℕ → Bool) (base m n : ℕ) → IsQuiet read base (m + n) → IsQuiet read base m
quiet_first read base m n q = quiet_part read base (m + n) base m (omega arith) (omega arith) q

quiet_rest : (read : ℕ → Bool) (base m n : ℕ) → IsQuiet read base (m + n) → IsQuiet read (base + m) n
quiet_rest read base m n q = quiet_part read base (m + n) (base + m) n (omega arith) (omega arith) q

quiet_copy : (read : ℕ → Bool) (base n count : ℕ) → IsQuiet read base (suc n * count) → IsQuiet read base count
quiet_copy read base n count q = quiet_part read base (suc n * count) base count (omega arith) (omega arith) q

quiet_copies : (read : ℕ → Bool) (base n count : ℕ) → IsQuiet read base (suc n * count)
    → IsQuiet read (base + count) (n * count)
quiet_copies read base n count q =
    quiet_part read base (suc n * count) (base + count) (n * count) (omega arith) (omega arith) q

quiet_count : (read : ℕ → Bool) (base m n count : ℕ) → m ≡ n → IsQuiet read base (m * count)
    → IsQuiet read base (n * count)
quiet_count read base m n count e q = subst (λ k. IsQuiet read base (k * count)) e q

-- ---- copies
module _ (read : ℕ → Bool) (one : ℕ → Bool → Bool) (count : ℕ)
    (none : (base : ℕ) → IsQuiet read base count → one base false ≡ false) where
  some_nothing : (k base : ℕ) → IsQuiet read base (k * count) → through_some one count k base false ≡ false
  some_nothing zero base q = refl
  some_nothing (suc k) base q =
      ap (through_some one count k (base + count)) (none base (quiet_copy read base k count q))
      ∙ some_nothing k (base + count) (quiet_copies read base k count q)

  copies_nothing : (k l n base : ℕ) → l + k ≡ n → IsQuiet read base (n * count)
      → through_copies one count k l base false ≡ false
  copies_nothing k zero n base e q = some_nothing k base (quiet_count read base n k count (omega (arith, e)) q)
  copies_nothing k (suc l) zero base e q = absurd (omega (arith, e))
  copies_nothing k (suc l) (suc n) base e q =
      ap (through_copies one count k l (base + count)) (none base (quiet_copy read base n count q))
      ∙ copies_nothing k l n (base + count) (omega (arith, e)) (quiet_copies read base n count q)

  all_copies_nothing : (low high base : ℕ) → IsQuiet read base (high * count) → (b : Bool) → nat_lt high low ≡ b
      → (if b then false else through_copies one count (high - low) low base false) ≡ false
  all_copies_nothing low high base q true e = refl
  all_copies_nothing low high base q false e =
      copies_nothing (high - low) low high base (let l = ltb-false high low e in omega (arith, l)) q

  -- the last copy comes again only where it can end
  copies_on_nothing : (l base : ℕ) → IsQuiet read base (suc l * count)
      → through_copies_on one count l base false ≡ false
  copies_on_nothing zero base q =
      ap (one base) (none base (quiet_copy read base 0 count q)) ∙ none base (quiet_copy read base 0 count q)
  copies_on_nothing (suc l) base q =
      ap (through_copies_on one count l (base + count)) (none base (quiet_copy read base (suc l) count q))
      ∙ copies_on_nothing l (base + count) (quiet_copies read base (suc l) count q)

module _ (read : ℕ → Bool) (one : ℕ → Bool → Bool) (flags : ℕ → Bool → List Bool) (count : ℕ)
    (none : (base : ℕ) → IsQuiet read base count → one base false ≡ false)
    (no_flag : (base : ℕ) → IsQuiet read base count → flags base false ≡ no_flags count) where
  copies_quiet : (n base : ℕ) → IsQuiet read base (n * count)
      → next_copies flags one count n base false ≡ no_flags (n * count)
  copies_quiet zero base q = ap no_flags nothing where
    nothing : 0 ≡ zero * count
    nothing = omega arith
  copies_quiet (suc n) base q =
      ap₂ (λ x y. x ++ y) (no_flag base (quiet_copy read base n count q))
      (ap (next_copies flags one count n (base + count)) (none base (quiet_copy read base n count q))
      ∙ copies_quiet n (base + count) (quiet_copies read base n count q))
      ∙ no_flags_append count (n * count) (suc n * count) (omega arith)

  copies_on_quiet : (n base : ℕ) → IsQuiet read base (suc n * count)
      → next_copies_on flags one count n base false ≡ no_flags (suc n * count)
  copies_on_quiet zero base q =
      ap (flags base) (none base (quiet_copy read base 0 count q))
      ∙ no_flag base (quiet_copy read base 0 count q)
      ∙ ap no_flags single where
        single : count ≡ suc zero * count
        single = omega arith
  copies_on_quiet (suc n) base q =
      ap₂ (λ x y. x ++ y) (no_flag base (quiet_copy read base (suc n) count q))
      (ap (next_copies_on flags one count n (base + count)) (none base (quiet_copy read base (suc n) count q))
      ∙ copies_on_quiet n (base + count) (quiet_copies read base (suc n) count q))
      ∙ no_flags_append count (suc n * count) (suc (suc n) * count) (omega arith)

module _ (first last : Bool) (read : ℕ → Bool) where
  mutual
    nothing_ends_tree : (t : Tree) (base : ℕ) → IsQuiet read base (count_of t)
        → ends_here t first last read base false ≡ false
    nothing_ends_tree empty base q = refl
    nothing_ends_tree (one_of ranges) base q = q base (omega arith) (omega arith)
    nothing_ends_tree at_start base q = refl
    nothing_ends_tree at_end base q = refl
    nothing_ends_tree (in_turn ts) base q = nothing_ends_in_turn ts base q
    nothing_ends_tree (either ts) base q = nothing_ends_of_one ts base q
    nothing_ends_tree (repeated t zero None) base q =
        nothing_ends_tree t base
        (quiet_copy read base 0 (count_of t) (quiet_count read base (max 0 1) 1 (count_of t) refl q))
    nothing_ends_tree (repeated t (suc low) None) base q =
        copies_on_nothing read (λ at some. ends_here t first last read at some) (count_of t) (nothing_ends_tree t) low
        base (quiet_count read base (max (suc low) 1) (suc low) (count_of t) (omega arith) q)
    nothing_ends_tree (repeated t low (Some high)) base q =
        all_copies_nothing read (λ at some. ends_here t first last read at some) (count_of t) (nothing_ends_tree t)
        low high base q (nat_lt high low) refl

    nothing_ends_in_turn : (ts : Trees) (base : ℕ) → IsQuiet read base (count_in ts)
        → ends_here_in_turn ts first last read base false ≡ false
    nothing_ends_in_turn no_trees base q = refl
    nothing_ends_in_turn (tree t ts) base q =
        ap (ends_here_in_turn ts first last read (base + count_of t))
        (nothing_ends_tree t base (quiet_first read base (count_of t) (count_in ts) q))
        ∙ nothing_ends_in_turn ts (base + count_of t) (quiet_rest read base (count_of t) (count_in ts) q)

    nothing_ends_of_one : (ts : Trees) (base : ℕ) → IsQuiet read base (count_in ts)
        → ends_here_of_one ts first last read base false ≡ false
    nothing_ends_of_one no_trees base q = refl
    nothing_ends_of_one (tree t ts) base q =
        ap₂ (λ x y. x || y) (nothing_ends_tree t base (quiet_first read base (count_of t) (count_in ts) q))
        (nothing_ends_of_one ts (base + count_of t) (quiet_rest read base (count_of t) (count_in ts) q))

-- where nothing was read and nothing begins, no match ends
pub nothing_ends : NothingEnds
nothing_ends t first last read base q = nothing_ends_tree first last read t base q

module _ (first : Bool) (read : ℕ → Bool) where
  mutual
    nothing_follows_tree : (t : Tree) (base : ℕ) → IsQuiet read base (count_of t)
        → may_follow t first read base false ≡ no_flags (count_of t)
    nothing_follows_tree empty base q = refl
    nothing_follows_tree (one_of ranges) base q = refl
    nothing_follows_tree at_start base q = refl
    nothing_follows_tree at_end base q = refl
    nothing_follows_tree (in_turn ts) base q = nothing_follows_in_turn ts base q
    nothing_follows_tree (either ts) base q = nothing_follows_of_one ts base q
    nothing_follows_tree (repeated t low None) base q =
        copies_on_quiet read (λ at some. ends_here t first false read at some)
        (λ at some. may_follow t first read at some) (count_of t) (nothing_ends t first false read)
        (nothing_follows_tree t) (low - 1) base
        (quiet_count read base (max low 1) (suc (low - 1)) (count_of t) (sym (once low)) q)
        ∙ ap (λ n. no_flags (n * count_of t)) (once low)
    nothing_follows_tree (repeated t low (Some high)) base q =
        copies_quiet read (λ at some. ends_here t first false read at some)
        (λ at some. may_follow t first read at some) (count_of t) (nothing_ends t first false read)
        (nothing_follows_tree t) high base q

    nothing_follows_in_turn : (ts : Trees) (base : ℕ) → IsQuiet read base (count_in ts)
        → may_follow_in_turn ts first read base false ≡ no_flags (count_in ts)
    nothing_follows_in_turn no_trees base q = refl
    nothing_follows_in_turn (tree t ts) base q =
        ap₂ (λ x y. x ++ y) (nothing_follows_tree t base (quiet_first read base (count_of t) (count_in ts) q))
        (ap (may_follow_in_turn ts first read (base + count_of t))
        (nothing_ends t first false read base (quiet_first read base (count_of t) (count_in ts) q))
        ∙ nothing_follows_in_turn ts (base + count_of t) (quiet_rest read base (count_of t) (count_in ts) q))
        ∙ no_flags_append (count_of t) (count_in ts) (count_of t + count_in ts) refl

    nothing_follows_of_one : (ts : Trees) (base : ℕ) → IsQuiet read base (count_in ts)
        → may_follow_of_one ts first read base false ≡ no_flags (count_in ts)
    nothing_follows_of_one no_trees base q = refl
    nothing_follows_of_one (tree t ts) base q =
        ap₂ (λ x y. x ++ y) (nothing_follows_tree t base (quiet_first read base (count_of t) (count_in ts) q))
        (nothing_follows_of_one ts (base + count_of t) (quiet_rest read base (count_of t) (count_in ts) q))
        ∙ no_flags_append (count_of t) (count_in ts) (count_of t + count_in ts) refl

-- where nothing was read and nothing begins, nothing may follow
pub nothing_follows : NothingFollows
nothing_follows t first read base q = nothing_follows_tree first read t base q

pub nothing_reads : NothingReads
nothing_reads t first read c base q =
    next_asks_sets t first read c base false
    ∙ ap (λ z. and_each z (sets_have (sets_of t) c)) (nothing_follows t first read base q)
    ∙ and_each_no_flags (count_of t) (sets_have (sets_of t) c) (length_sets_have t c)
