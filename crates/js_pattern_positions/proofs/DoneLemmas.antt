-- What ends where some positions were read ends where more were.
--
-- Key: `more_ends`, by going through trees and through copies.
use Rattle.std.proofs.Common.{◌≡◌, ℕ, zero, suc, ◌+◌, ◌<◌, ◌≤◌, ◌⊎◌, inl, inr, Bool, true, false, not, ◌&&◌, ◌||◌, nat_le, List, replicate, refl, sym, ◌∙◌, ap, arith}
use Rattle.std.proofs.lemmas.Bool.{cases_lt, true≢false}
use Rattle.patterns.specs.Tree.{Tree, Trees, empty, one_of, at_start, at_end, in_turn, either, repeated, no_trees, tree}
use Rattle.word_states.specs.Position.{count_of, copies}
use Rattle.state_laws.specs.Flow.{flag_at, ends_here, ends_here_in_turn, ends_here_of_one}
use Rattle.js_pattern_positions.specs.Walk.{Quiet, ends_after}
use Rattle.js_pattern_positions.specs.Done.{Needs}
use Rattle.js_pattern_positions.proofs.Through.{Implies, ends_repeated}

both_or : (a b c d : Bool) → Implies a b → Implies c d → Implies (a || c) (b || d)
both_or true true c d f g e = refl
both_or true false c d f g e = absurd (true≢false (sym (f refl)))
both_or false true c d f g e = refl
both_or false false c d f g e = g e

below_and : (a b c : Bool) → Implies a b → Implies (c && a) (c && b)
below_and a b true f e = f e
below_and a b false f e = e

above_and : (a b c : Bool) → Implies a b → Implies (a && c) (b && c)
above_and true true c f e = e
above_and true false c f e = absurd (true≢false (sym (f refl)))
above_and false b c f e = absurd (true≢false (sym e))

module _ (one two : ℕ → Bool → Bool) (more : (base : ℕ) (a b : Bool) → Implies a b → Implies (one base a) (two base b))
    (count low : ℕ) where
  more_after : (n i base : ℕ) (here there ends stops : Bool) → Implies here there → Implies ends stops
      → Implies (ends_after one count low n i base here ends) (ends_after two count low n i base there stops)
  more_after zero i base here there ends stops h e = e
  more_after (suc n) i base here there ends stops h e =
      let next = more base here there h in
      more_after n (suc i) (base + count) (one base here) (two base there)
      (ends || (nat_le low (suc i) && one base here)) (stops || (nat_le low (suc i) && two base there)) next
      (both_or ends stops (nat_le low (suc i) && one base here) (nat_le low (suc i) && two base there) e
      (below_and (one base here) (two base there) (nat_le low (suc i)) next))

module _ (first last : Bool) (read all : ℕ → Bool) (less : (p : ℕ) → Implies (read p) (all p)) where
  mutual
    pub more_ends : (t : Tree) (base : ℕ) (a b : Bool) → Implies a b
        → Implies (ends_here t first last read base a) (ends_here t first last all base b)
    more_ends empty base a b h e = h e
    more_ends (one_of ranges) base a b h e = less base e
    more_ends at_start base a b h e = above_and a b first h e
    more_ends at_end base a b h e = above_and a b last h e
    more_ends (in_turn ts) base a b h e = more_in_turn ts base a b h e
    more_ends (either ts) base a b h e = more_of_one ts base a b h e
    more_ends (repeated t low high) base a b h e =
        sym (ends_repeated first last all t low high base b)
        ∙ more_after (λ at some. ends_here t first last read at some) (λ at some. ends_here t first last all at some)
        (more_ends t) (count_of t) low (copies low high) 0 base a b (nat_le low 0 && a) (nat_le low 0 && b) h
        (below_and a b (nat_le low 0) h) (ends_repeated first last read t low high base a ∙ e)

    more_in_turn : (ts : Trees) (base : ℕ) (a b : Bool) → Implies a b
        → Implies (ends_here_in_turn ts first last read base a) (ends_here_in_turn ts first last all base b)
    more_in_turn no_trees base a b h e = h e
    more_in_turn (tree t ts) base a b h e =
        more_in_turn ts (base + count_of t) (ends_here t first last read base a) (ends_here t first last all base b)
        (more_ends t base a b h) e

    more_of_one : (ts : Trees) (base : ℕ) (a b : Bool) → Implies a b
        → Implies (ends_here_of_one ts first last read base a) (ends_here_of_one ts first last all base b)
    more_of_one no_trees base a b h e = e
    more_of_one (tree t ts) base a b h e =
        both_or (ends_here t first last read base a) (ends_here t first last all base b)
        (ends_here_of_one ts first last read (base + count_of t) a)
        (ends_here_of_one ts first last all (base + count_of t) b) (more_ends t base a b h)
        (more_of_one ts (base + count_of t) a b h) e

all_read : (n p : ℕ) → p < n → flag_at (replicate n true) p ≡ true
all_read zero p h = absurd (omega (arith, h))
all_read (suc n) zero h = refl
all_read (suc n) (suc p) h = all_read n p (omega (arith, h))

all_below : (n : ℕ) (read : ℕ → Bool) → Quiet read n → (p : ℕ) → Implies (read p) (flag_at (replicate n true) p)
all_below n read q p e = by (cases_lt p n) where
  by : (p < n) ⊎ (n ≤ p) → flag_at (replicate n true) p ≡ true
  by (inl h) = all_read n p h
  by (inr h) = absurd (true≢false (sym e ∙ q p h))

-- where no match ends though all of the first n positions were read, a match needs a later one
pub needs_is : (t : Tree) (n : ℕ) (flags : List Bool) (ends : Bool) → flags ≡ replicate n true
    → ends ≡ ends_here t false false (flag_at flags) 0 true → not ends ≡ true → Needs t n
needs_is t n flags ends f e stops positive read q = by (ends_here t false false read 0 true) refl where
  never : (x : Bool) → not x ≡ true → x ≡ true → true ≡ false
  never true h g = sym h
  never false h g = sym g

  by : (x : Bool) → ends_here t false false read 0 true ≡ x → false ≡ ends_here t false false read 0 true
  by false g = sym g
  by true g =
      absurd (true≢false (never ends stops (e ∙ ap (λ xs. ends_here t false false (flag_at xs) 0 true) f
      ∙ more_ends false false read (flag_at (replicate n true)) (all_below n read q) t 0 true true (λ h. h) g)))
