-- Lists of flags, joined position by position.
use Rattle.std.proofs.Common.{◌≡◌, ℕ, zero, suc, ◌+◌, ◌-◌, ◌*◌, max, Bool, false, ◌&&◌, ◌||◌, List, [], ◌∷◌, ◌++◌, length, Some, None, refl, sym, ◌∙◌, ap, ap₂, arith, length-append}
use Rattle.std.proofs.Math.Bool.{or-false, and-false, and-or_distrib_right}
use Rattle.patterns.specs.CharSet.{has}
use Rattle.patterns.specs.Tree.{Tree, Trees, empty, one_of, at_start, at_end, in_turn, either, repeated, no_trees, tree}
use Rattle.word_states.specs.Position.{count_of, count_in, copies, times, sets_of, sets_in}
use Rattle.state_laws.specs.Flow.{ends_here, next_copies, next_copies_on, flag_at}
use Rattle.state_laws.specs.FollowSets.{or_each, and_each, no_flags, sets_have, may_follow, may_follow_in_turn, may_follow_of_one}
use Rattle.state_laws.specs.UnionLaws.{FlagsJoin}

-- ---- what either list has
pub or_each_none : (xs : List Bool) → or_each xs [] ≡ xs
or_each_none [] = refl
or_each_none (x ∷ xs) = refl

pub or_each_append : (xs ys us vs : List Bool) → length xs ≡ length ys
    → or_each (xs ++ us) (ys ++ vs) ≡ or_each xs ys ++ or_each us vs
or_each_append [] [] us vs e = refl
or_each_append [] (y ∷ ys) us vs e = absurd (omega (arith, e))
or_each_append (x ∷ xs) [] us vs e = absurd (omega (arith, e))
or_each_append (x ∷ xs) (y ∷ ys) us vs e = ap (λ z. (x || y) ∷ z) (or_each_append xs ys us vs (omega (arith, e)))

pub or_each_no_flags : (xs : List Bool) (n : ℕ) → length xs ≡ n → or_each xs (no_flags n) ≡ xs
or_each_no_flags [] zero e = refl
or_each_no_flags [] (suc n) e = absurd (omega (arith, e))
or_each_no_flags (x ∷ xs) zero e = refl
or_each_no_flags (x ∷ xs) (suc n) e = ap₂ (λ y ys. y ∷ ys) (or-false x) (or_each_no_flags xs n (omega (arith, e)))

or_each_flag : (xs ys : List Bool) (p : ℕ) → flag_at (or_each xs ys) p ≡ (flag_at xs p || flag_at ys p)
or_each_flag [] ys p = refl
or_each_flag (x ∷ xs) [] p = sym (or-false (flag_at (x ∷ xs) p))
or_each_flag (x ∷ xs) (y ∷ ys) zero = refl
or_each_flag (x ∷ xs) (y ∷ ys) (suc p) = or_each_flag xs ys p

-- ---- what both lists have
pub and_each_append : (xs ys us vs : List Bool) → length xs ≡ length ys
    → and_each (xs ++ us) (ys ++ vs) ≡ and_each xs ys ++ and_each us vs
and_each_append [] [] us vs e = refl
and_each_append [] (y ∷ ys) us vs e = absurd (omega (arith, e))
and_each_append (x ∷ xs) [] us vs e = absurd (omega (arith, e))
and_each_append (x ∷ xs) (y ∷ ys) us vs e = ap (λ z. (x && y) ∷ z) (and_each_append xs ys us vs (omega (arith, e)))

pub and_each_or : (xs ys zs : List Bool)
    → and_each (or_each xs ys) zs ≡ or_each (and_each xs zs) (and_each ys zs)
and_each_or [] ys zs = refl
and_each_or (x ∷ xs) [] zs = sym (or_each_none (and_each (x ∷ xs) zs))
and_each_or (x ∷ xs) (y ∷ ys) [] = refl
and_each_or (x ∷ xs) (y ∷ ys) (z ∷ zs) = ap₂ (λ b bs. b ∷ bs) (and-or_distrib_right x y z) (and_each_or xs ys zs)

pub and_each_no_flags : (n : ℕ) (ys : List Bool) → length ys ≡ n → and_each (no_flags n) ys ≡ no_flags n
and_each_no_flags zero ys e = refl
and_each_no_flags (suc n) [] e = absurd (omega (arith, e))
and_each_no_flags (suc n) (y ∷ ys) e = ap (λ z. false ∷ z) (and_each_no_flags n ys (omega (arith, e)))

and_each_flag : (xs ys : List Bool) (p : ℕ) → flag_at (and_each xs ys) p ≡ (flag_at xs p && flag_at ys p)
and_each_flag [] ys p = refl
and_each_flag (x ∷ xs) [] p = sym (and-false (flag_at (x ∷ xs) p))
and_each_flag (x ∷ xs) (y ∷ ys) zero = refl
and_each_flag (x ∷ xs) (y ∷ ys) (suc p) = and_each_flag xs ys p

pub flags_join : FlagsJoin
flags_join xs ys p = (or_each_flag xs ys p, and_each_flag xs ys p)

-- ---- flags that are false
pub no_flags_append : (m n k : ℕ) → m + n ≡ k → no_flags m ++ no_flags n ≡ no_flags k
no_flags_append zero n k e = let f : n ≡ k = omega (arith, e) in ap no_flags f
no_flags_append (suc m) n zero e = absurd (omega (arith, e))
no_flags_append (suc m) n (suc k) e = ap (λ z. false ∷ z) (no_flags_append m n k (omega (arith, e)))

-- ---- one flag a position
pub length_copies : (next : ℕ → Bool → List Bool) (one : ℕ → Bool → Bool) (count : ℕ)
    → ((base : ℕ) (b : Bool) → length (next base b) ≡ count) → (n base : ℕ) (b : Bool)
    → length (next_copies next one count n base b) ≡ n * count
length_copies next one count f zero base b = omega arith
length_copies next one count f (suc n) base b =
    length-append (next base b) (next_copies next one count n (base + count) (one base b))
    ∙ omega (arith, f base b, length_copies next one count f n (base + count) (one base b))

pub length_copies_on : (next : ℕ → Bool → List Bool) (one : ℕ → Bool → Bool) (count : ℕ)
    → ((base : ℕ) (b : Bool) → length (next base b) ≡ count) → (n base : ℕ) (b : Bool)
    → length (next_copies_on next one count n base b) ≡ suc n * count
length_copies_on next one count f zero base b = omega (arith, f base (b || one base false))
length_copies_on next one count f (suc n) base b =
    length-append (next base b) (next_copies_on next one count n (base + count) (one base b))
    ∙ omega (arith, f base b, length_copies_on next one count f n (base + count) (one base b))

pub once : (low : ℕ) → suc (low - 1) ≡ max low 1
once low = omega arith

mutual
  pub length_follow : (t : Tree) (first : Bool) (read : ℕ → Bool) (base : ℕ) (b : Bool)
      → length (may_follow t first read base b) ≡ count_of t
  length_follow empty first read base b = refl
  length_follow (one_of ranges) first read base b = refl
  length_follow at_start first read base b = refl
  length_follow at_end first read base b = refl
  length_follow (in_turn ts) first read base b = length_follow_in_turn ts first read base b
  length_follow (either ts) first read base b = length_follow_of_one ts first read base b
  length_follow (repeated t low None) first read base b =
      length_copies_on (λ at some. may_follow t first read at some) (λ at some. ends_here t first false read at some)
      (count_of t) (length_follow t first read) (low - 1) base b
      ∙ ap (λ k. k * count_of t) (once low)
  length_follow (repeated t low (Some high)) first read base b =
      length_copies (λ at some. may_follow t first read at some) (λ at some. ends_here t first false read at some)
      (count_of t) (length_follow t first read) high base b

  length_follow_in_turn : (ts : Trees) (first : Bool) (read : ℕ → Bool) (base : ℕ) (b : Bool)
      → length (may_follow_in_turn ts first read base b) ≡ count_in ts
  length_follow_in_turn no_trees first read base b = refl
  length_follow_in_turn (tree t ts) first read base b =
      length-append (may_follow t first read base b)
      (may_follow_in_turn ts first read (base + count_of t) (ends_here t first false read base b))
      ∙ omega (
        arith,
        length_follow t first read base b,
        length_follow_in_turn ts first read (base + count_of t) (ends_here t first false read base b),
      )

  length_follow_of_one : (ts : Trees) (first : Bool) (read : ℕ → Bool) (base : ℕ) (b : Bool)
      → length (may_follow_of_one ts first read base b) ≡ count_in ts
  length_follow_of_one no_trees first read base b = refl
  length_follow_of_one (tree t ts) first read base b =
      length-append (may_follow t first read base b) (may_follow_of_one ts first read (base + count_of t) b)
      ∙ omega (arith, length_follow t first read base b, length_follow_of_one ts first read (base + count_of t) b)

-- ---- one set a position
pub sets_have_append : (xs ys : List (List (ℕ × ℕ))) (c : ℕ)
    → sets_have (xs ++ ys) c ≡ sets_have xs c ++ sets_have ys c
sets_have_append [] ys c = refl
sets_have_append (x ∷ xs) ys c = ap (λ z. has x c ∷ z) (sets_have_append xs ys c)

length_times : (sets : List (List (ℕ × ℕ))) (c m : ℕ) → length (sets_have sets c) ≡ m → (n : ℕ)
    → length (sets_have (times n sets) c) ≡ n * m
length_times sets c m e zero = omega arith
length_times sets c m e (suc n) =
    ap length (sets_have_append sets (times n sets) c)
    ∙ length-append (sets_have sets c) (sets_have (times n sets) c)
    ∙ omega (arith, e, length_times sets c m e n)

mutual
  pub length_sets_have : (t : Tree) (c : ℕ) → length (sets_have (sets_of t) c) ≡ count_of t
  length_sets_have empty c = refl
  length_sets_have (one_of ranges) c = refl
  length_sets_have at_start c = refl
  length_sets_have at_end c = refl
  length_sets_have (in_turn ts) c = length_sets_have_in ts c
  length_sets_have (either ts) c = length_sets_have_in ts c
  length_sets_have (repeated t low high) c =
      length_times (sets_of t) c (count_of t) (length_sets_have t c) (copies low high)

  length_sets_have_in : (ts : Trees) (c : ℕ) → length (sets_have (sets_in ts) c) ≡ count_in ts
  length_sets_have_in no_trees c = refl
  length_sets_have_in (tree t ts) c =
      ap length (sets_have_append (sets_of t) (sets_in ts) c)
      ∙ length-append (sets_have (sets_of t) c) (sets_have (sets_in ts) c)
      ∙ omega (arith, length_sets_have t c, length_sets_have_in ts c)
