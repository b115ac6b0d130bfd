-- Characters that no position's set distinguishes lead to one state.
use Rattle.std.proofs.Common.{◌≡◌, ℕ, zero, suc, ◌+◌, ◌-◌, max, Bool, true, false, ◌&&◌, ◌||◌, List, [], ◌∷◌, ◌++◌, Some, None, refl, sym, ◌∙◌, ap, subst, arith, inl}
use Rattle.patterns.specs.CharSet.{has}
use Rattle.patterns.specs.Tree.{Tree, Trees, empty, one_of, at_start, at_end, in_turn, either, repeated, no_trees, tree}
use Rattle.patterns.specs.Decision.{is_empty}
use Rattle.list_laws.proofs.Lists.{in_left, in_right}
use Rattle.list_laws.specs.In.{IsIn}
use Rattle.word_states.specs.Position.{count_of, times, sets_of, sets_in}
use Rattle.word_states.specs.PatternState.{PatternState, done, reading, pattern_state}
use Rattle.state_laws.specs.Flow.{is_among, ends_here, next_copies, next_copies_on, reads_next, reads_next_in_turn, reads_next_of_one, state_with, next_state, is_accepted}
use Rattle.state_laws.specs.Laws.{SameStateOfSame, SameTruthOfSame}
use Rattle.state_laws.proofs.States.{state_goes_on, state_decides}

copies_alike : (next more : ℕ → Bool → List Bool) (one : ℕ → Bool → Bool) (count : ℕ)
    → ((base : ℕ) (b : Bool) → next base b ≡ more base b) → (k base : ℕ) (b : Bool)
    → next_copies next one count k base b ≡ next_copies more one count k base b
copies_alike next more one count e zero base b = refl
copies_alike next more one count e (suc k) base b =
    ap (λ z. z ++ next_copies next one count k (base + count) (one base b)) (e base b)
    ∙ ap (λ z. more base b ++ z) (copies_alike next more one count e k (base + count) (one base b))

copies_on_alike : (next more : ℕ → Bool → List Bool) (one : ℕ → Bool → Bool) (count : ℕ)
    → ((base : ℕ) (b : Bool) → next base b ≡ more base b) → (k base : ℕ) (b : Bool)
    → next_copies_on next one count k base b ≡ next_copies_on more one count k base b
copies_on_alike next more one count e zero base b = e base (b || one base false)
copies_on_alike next more one count e (suc k) base b =
    ap (λ z. z ++ next_copies_on next one count k (base + count) (one base b)) (e base b)
    ∙ ap (λ z. more base b ++ z) (copies_on_alike next more one count e k (base + count) (one base b))

module _ (first : Bool) (read : ℕ → Bool) (c d : ℕ) where
  abbrev AreAlike : List (List (ℕ × ℕ)) → Type 0
  AreAlike sets = (s : List (ℕ × ℕ)) → IsIn s sets → has s c ≡ has s d

  alike_once : (n : ℕ) (sets : List (List (ℕ × ℕ))) → AreAlike (times (suc n) sets) → AreAlike sets
  alike_once n sets f s i = f s (in_left s sets (times n sets) i)

  mutual
    reads_alike : (t : Tree) → AreAlike (sets_of t) → (base : ℕ) (b : Bool)
        → reads_next t first read c base b ≡ reads_next t first read d base b
    reads_alike empty f base b = refl
    reads_alike (one_of ranges) f base b = ap (λ x. (b && x) ∷ []) (f ranges (inl refl))
    reads_alike at_start f base b = refl
    reads_alike at_end f base b = refl
    reads_alike (in_turn ts) f base b = reads_alike_in_turn ts f base b
    reads_alike (either ts) f base b = reads_alike_of_one ts f base b
    reads_alike (repeated t low None) f base b =
        copies_on_alike (λ at some. reads_next t first read c at some) (λ at some. reads_next t first read d at some)
        (λ at some. ends_here t first false read at some) (count_of t)
        (reads_alike t
        (alike_once (max low 1 - 1) (sets_of t)
        (subst (λ n. AreAlike (times n (sets_of t))) (once low) f)))
        (low - 1) base b where
          once : (low : ℕ) → max low 1 ≡ suc (max low 1 - 1)
          once low = omega arith
    reads_alike (repeated t low (Some zero)) f base b = refl
    reads_alike (repeated t low (Some (suc high))) f base b =
        copies_alike (λ at some. reads_next t first read c at some) (λ at some. reads_next t first read d at some)
        (λ at some. ends_here t first false read at some) (count_of t)
        (reads_alike t (alike_once high (sets_of t) f)) (suc high) base b

    reads_alike_in_turn : (ts : Trees) → AreAlike (sets_in ts) → (base : ℕ) (b : Bool)
        → reads_next_in_turn ts first read c base b ≡ reads_next_in_turn ts first read d base b
    reads_alike_in_turn no_trees f base b = refl
    reads_alike_in_turn (tree t ts) f base b =
        ap (λ z. z ++ reads_next_in_turn ts first read c (base + count_of t) (ends_here t first false read base b))
        (reads_alike t (λ s i. f s (in_left s (sets_of t) (sets_in ts) i)) base b)
        ∙ ap (λ z. reads_next t first read d base b ++ z)
        (reads_alike_in_turn ts (λ s i. f s (in_right s (sets_of t) (sets_in ts) i)) (base + count_of t)
        (ends_here t first false read base b))

    reads_alike_of_one : (ts : Trees) → AreAlike (sets_in ts) → (base : ℕ) (b : Bool)
        → reads_next_of_one ts first read c base b ≡ reads_next_of_one ts first read d base b
    reads_alike_of_one no_trees f base b = refl
    reads_alike_of_one (tree t ts) f base b =
        ap (λ z. z ++ reads_next_of_one ts first read c (base + count_of t) b)
        (reads_alike t (λ s i. f s (in_left s (sets_of t) (sets_in ts) i)) base b)
        ∙ ap (λ z. reads_next t first read d base b ++ z)
        (reads_alike_of_one ts (λ s i. f s (in_right s (sets_of t) (sets_in ts) i)) (base + count_of t) b)

next_alike : (t : Tree) (first : Bool) (c d : ℕ) (state : PatternState)
    → ((s : List (ℕ × ℕ)) → IsIn s (sets_of t) → has s c ≡ has s d)
    → next_state t first c state ≡ next_state t first d state
next_alike t first c d done f = refl
next_alike t first c d (reading ps) f = ap (state_with t) (reads_alike first (is_among ps) c d t f 0 true)

-- characters that no set distinguishes lead to one state
pub same_state_of_same : SameStateOfSame
same_state_of_same t v w c d e s f =
    state_goes_on t v c
    ∙ ap (λ b. next_state t b c (pattern_state t v)) e
    ∙ ap (next_state t (is_empty w) c) s
    ∙ next_alike t (is_empty w) c d (pattern_state t w) f
    ∙ sym (state_goes_on t w d)

-- of words of one state, both empty or both not, the pattern matches both or neither
pub same_truth_of_same : SameTruthOfSame
same_truth_of_same t v w e s =
    state_decides t v
    ∙ ap (λ b. is_accepted t b (pattern_state t v)) e
    ∙ ap (is_accepted t (is_empty w)) s
    ∙ sym (state_decides t w)
