-- Where nothing can begin and no position was read, no match ends, and no position reads.
use Rattle.std.proofs.Common.{◌≡◌, ℕ, zero, suc, ◌+◌, ◌*◌, Bool, true, false, ◌&&◌, ◌||◌, nat_eq, nat_le, if◌then◌else◌, List, length, ◌++◌, replicate, refl, sym, ◌∙◌, ap, ap₂, arith}
use Rattle.std.proofs.Math.Bool.{and-false, or-false}
use Rattle.std.proofs.lemmas.List.{replicate-append-replicate}
use Rattle.std.specs.Option.{is_none}
use Rattle.patterns.specs.Tree.{Tree, Trees, empty, one_of, at_start, at_end, in_turn, either, repeated, no_trees, tree}
use Rattle.word_states.specs.Position.{count_of, count_in, copies}
use Rattle.state_laws.specs.Flow.{ends_here, ends_here_in_turn, ends_here_of_one, reads_next, reads_next_in_turn, reads_next_of_one}
use Rattle.js_pattern_positions.specs.Walk.{Quiet, begins_with, ends_after, next_after}
use Rattle.js_pattern_positions.proofs.Through.{ends_repeated, reads_repeated}

later : (read : ℕ → Bool) (base count : ℕ) → Quiet read base → Quiet read (base + count)
later read base count q p h = q p (omega (arith, h))

module _ (read : ℕ → Bool) (one : ℕ → Bool → Bool) (count : ℕ)
    (still : (base : ℕ) → Quiet read base → one base false ≡ false) where
  pub ends_after-quiet : (low n i base : ℕ) (ends : Bool) → Quiet read base
      → ends_after one count low n i base false ends ≡ ends
  ends_after-quiet low zero i base ends q = refl
  ends_after-quiet low (suc n) i base ends q =
      ap (λ x. ends_after one count low n (suc i) (base + count) x (ends || (nat_le low (suc i) && x))) (still base q)
      ∙ ap (ends_after one count low n (suc i) (base + count) false)
      (ap (λ x. ends || x) (and-false (nat_le low (suc i))) ∙ or-false ends)
      ∙ ends_after-quiet low n (suc i) (base + count) ends (later read base count q)

  begins_with-quiet : (again : Bool) (n base : ℕ) → Quiet read base → begins_with again one n base false ≡ false
  begins_with-quiet again n base q = ap (λ x. if (again && nat_eq n 0) then x else false) (still base q)
      ∙ both (again && nat_eq n 0) where
        both : (x : Bool) → (if x then false else false) ≡ false
        both true = refl
        both false = refl

  -- copies of what is quiet read nothing
  pub next_after-quiet : (again : Bool) (next : ℕ → Bool → List Bool)
      → ((base : ℕ) → Quiet read base → next base false ≡ replicate count false)
      → (n base : ℕ) → Quiet read base → next_after again next one count n base false ≡ replicate (n * count) false
  next_after-quiet again next none zero base q = ap (λ k. replicate k false) (nothing count) where
    nothing : (c : ℕ) → 0 ≡ 0 * c
    nothing c = omega arith
  next_after-quiet again next none (suc n) base q =
      ap (λ x. next base x ++ next_after again next one count n (base + count) (one base false))
      (begins_with-quiet again n base q)
      ∙ ap₂ (λ x y. x ++ next_after again next one count n (base + count) y) (none base q) (still base q)
      ∙ ap (λ x. replicate count false ++ x)
      (next_after-quiet again next none n (base + count) (later read base count q))
      ∙ replicate-append-replicate count (n * count) false
      ∙ ap (λ k. replicate k false) (more count n) where
        more : (c n : ℕ) → c + n * c ≡ suc n * c
        more c n = omega arith

module _ (first : Bool) (read : ℕ → Bool) where
  module _ (last : Bool) where
    mutual
      pub ends-quiet : (t : Tree) (base : ℕ) → Quiet read base → ends_here t first last read base false ≡ false
      ends-quiet empty base q = refl
      ends-quiet (one_of ranges) base q = q base (omega arith)
      ends-quiet at_start base q = refl
      ends-quiet at_end base q = refl
      ends-quiet (in_turn ts) base q = ends_in_turn-quiet ts base q
      ends-quiet (either ts) base q = ends_of_one-quiet ts base q
      ends-quiet (repeated t low high) base q =
          sym (ends_repeated first last read t low high base false)
          ∙ ends_after-quiet read (λ at some. ends_here t first last read at some) (count_of t) (ends-quiet t)
          low (copies low high) 0 base (nat_le low 0 && false) q
          ∙ and-false (nat_le low 0)

      pub ends_in_turn-quiet : (ts : Trees) (base : ℕ) → Quiet read base
          → ends_here_in_turn ts first last read base false ≡ false
      ends_in_turn-quiet no_trees base q = refl
      ends_in_turn-quiet (tree t ts) base q =
          ap (ends_here_in_turn ts first last read (base + count_of t)) (ends-quiet t base q)
          ∙ ends_in_turn-quiet ts (base + count_of t) (later read base (count_of t) q)

      ends_of_one-quiet : (ts : Trees) (base : ℕ) → Quiet read base
          → ends_here_of_one ts first last read base false ≡ false
      ends_of_one-quiet no_trees base q = refl
      ends_of_one-quiet (tree t ts) base q =
          ap (λ x. x || ends_here_of_one ts first last read (base + count_of t) false) (ends-quiet t base q)
          ∙ ends_of_one-quiet ts (base + count_of t) (later read base (count_of t) q)

  module _ (c : ℕ) where
    mutual
      pub reads-quiet : (t : Tree) (base : ℕ) → Quiet read base
          → reads_next t first read c base false ≡ replicate (count_of t) false
      reads-quiet empty base q = refl
      reads-quiet (one_of ranges) base q = refl
      reads-quiet at_start base q = refl
      reads-quiet at_end base q = refl
      reads-quiet (in_turn ts) base q = reads_in_turn-quiet ts base q
      reads-quiet (either ts) base q = reads_of_one-quiet ts base q
      reads-quiet (repeated t low high) base q =
          sym (reads_repeated first read c t low high base false)
          ∙ next_after-quiet read (λ at some. ends_here t first false read at some) (count_of t) (ends-quiet false t)
          (is_none high) (λ at some. reads_next t first read c at some) (reads-quiet t) (copies low high) base q

      pub reads_in_turn-quiet : (ts : Trees) (base : ℕ) → Quiet read base
          → reads_next_in_turn ts first read c base false ≡ replicate (count_in ts) false
      reads_in_turn-quiet no_trees base q = refl
      reads_in_turn-quiet (tree t ts) base q =
          ap₂ (λ x y. x ++ reads_next_in_turn ts first read c (base + count_of t) y) (reads-quiet t base q)
          (ends-quiet false t base q)
          ∙ ap (λ x. replicate (count_of t) false ++ x)
          (reads_in_turn-quiet ts (base + count_of t) (later read base (count_of t) q))
          ∙ replicate-append-replicate (count_of t) (count_in ts) false

      reads_of_one-quiet : (ts : Trees) (base : ℕ) → Quiet read base
          → reads_next_of_one ts first read c base false ≡ replicate (count_in ts) false
      reads_of_one-quiet no_trees base q = refl
      reads_of_one-quiet (tree t ts) base q =
          ap (λ x. x ++ reads_next_of_one ts first read c (base + count_of t) false) (reads-quiet t base q)
          ∙ ap (λ x. replicate (count_of t) false ++ x)
          (reads_of_one-quiet ts (base + count_of t) (later read base (count_of t) q))
          ∙ replicate-append-replicate (count_of t) (count_in ts) false

-- no match of a quiet tree ends where `begins` is false, by an equation
pub ends-none : (first last : Bool) (read : ℕ → Bool) (t : Tree) (base : ℕ) (begins : Bool) → begins ≡ false
    → Quiet read base → false ≡ ends_here t first last read base begins
ends-none first last read t base begins e q =
    sym (ap (ends_here t first last read base) e ∙ ends-quiet first read last t base q)

pub reads-none : (first : Bool) (read : ℕ → Bool) (c : ℕ) (t : Tree) (flags after : List Bool) (begins : Bool)
    (count : ℕ) → begins ≡ false → Quiet read (length flags) → count ≡ count_of t → after ≡ flags
    ++ replicate count false
    → after ≡ flags ++ reads_next t first read c (length flags) begins
reads-none first read c t flags after begins count e q size f =
    f ∙ ap (λ k. flags ++ replicate k false) size
    ∙ sym (ap (λ z. flags ++ z) (ap (reads_next t first read c (length flags)) e
    ∙ reads-quiet first read c t (length flags) q))
