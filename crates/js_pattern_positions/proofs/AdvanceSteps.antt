-- Flags of what reads the next character, appended one tree or one copy after another.
use Rattle.std.proofs.Common.{◌≡◌, ℕ, zero, suc, ◌+◌, ◌-◌, ◌*◌, ◌<◌, ◌≤◌, Bool, false, ◌&&◌, ◌||◌, nat_eq, if◌then◌else◌, List, [], ◌∷◌, ◌++◌, length, replicate, get_or, Option, Some, None, refl, sym, ◌∙◌, ap, arith, length-append, append_assoc, map}
use Rattle.std.proofs.Math.Bool.{or_assoc}
use Rattle.std.specs.Option.{is_none}
use Rattle.patterns.specs.CharSet.{has}
use Rattle.patterns.specs.Tree.{Tree, Trees, empty, one_of, at_start, at_end, in_turn, either, repeated, no_trees, tree, trees_of}
use Rattle.word_states.specs.Position.{count_of, count_in, copies}
use Rattle.state_laws.specs.Flow.{ends_here, ends_here_in_turn, ends_here_of_one, reads_next, reads_next_in_turn, reads_next_of_one}
use Rattle.js_pattern.specs.declared.re.Re.{Re}
use Rattle.js_pattern.specs.View.{view}
use Rattle.js_pattern_positions.specs.Walk.{Quiet, begins_with, next_after}
use Rattle.js_pattern_positions.proofs.Items.{rest, rest-tree}
use Rattle.js_pattern_positions.proofs.Through.{reads_repeated, keeps, begins_once}
use Rattle.js_pattern_positions.proofs.Quiet.{ends-quiet, reads-quiet, reads_in_turn-quiet, next_after-quiet}
use Rattle.js_pattern_positions.proofs.EndsSteps.{one_less, nowhere}
use Rattle.state_laws.proofs.FollowSetsLemmas.{length_copies, length_copies_on}

nothing : (xs : List Bool) → length xs ≡ 0 → xs ≡ []
nothing [] e = refl
nothing (x ∷ xs) e = absurd (omega (arith, e))

module _ (first : Bool) (read : ℕ → Bool) (c : ℕ) where
  mutual
    pub length-reads : (t : Tree) (base : ℕ) (b : Bool) → length (reads_next t first read c base b) ≡ count_of t
    length-reads empty base b = refl
    length-reads (one_of ranges) base b = refl
    length-reads at_start base b = refl
    length-reads at_end base b = refl
    length-reads (in_turn ts) base b = length-reads_in_turn ts base b
    length-reads (either ts) base b = length-reads_of_one ts base b
    length-reads (repeated t low None) base b =
        length_copies_on (λ at some. reads_next t first read c at some)
        (λ at some. ends_here t first false read at some)
        (count_of t) (length-reads t) (low - 1) base b
        ∙ ap (λ k. k * count_of t) (omega arith)
    length-reads (repeated t low (Some high)) base b =
        length_copies (λ at some. reads_next t first read c at some) (λ at some. ends_here t first false read at some)
        (count_of t) (length-reads t) high base b

    pub length-reads_in_turn : (ts : Trees) (base : ℕ) (b : Bool)
        → length (reads_next_in_turn ts first read c base b) ≡ count_in ts
    length-reads_in_turn no_trees base b = refl
    length-reads_in_turn (tree t ts) base b =
        length-append (reads_next t first read c base b)
        (reads_next_in_turn ts first read c (base + count_of t) (ends_here t first false read base b))
        ∙ omega (
          arith,
          length-reads t base b,
          length-reads_in_turn ts (base + count_of t) (ends_here t first false read base b),
        )

    pub length-reads_of_one : (ts : Trees) (base : ℕ) (b : Bool)
        → length (reads_next_of_one ts first read c base b) ≡ count_in ts
    length-reads_of_one no_trees base b = refl
    length-reads_of_one (tree t ts) base b =
        length-append (reads_next t first read c base b) (reads_next_of_one ts first read c (base + count_of t) b)
        ∙ omega (arith, length-reads t base b, length-reads_of_one ts (base + count_of t) b)

  -- the flags of a tree are as many as its positions
  pub length-next : (t : Tree) (flags after : List Bool) (base : ℕ) (b : Bool)
      → after ≡ flags ++ reads_next t first read c base b → length after ≡ length flags + count_of t
  length-next t flags after base b e =
      ap length e ∙ length-append flags (reads_next t first read c base b)
      ∙ omega (arith, length-reads t base b)

  -- ---- a set of characters
  pub set-reads : (t : Tree) (ranges : List (ℕ × ℕ)) (flags after : List Bool) (begins within : Bool)
      → t ≡ one_of ranges → within ≡ has ranges c → after ≡ flags ++ (begins && within) ∷ []
      → after ≡ flags ++ reads_next t first read c (length flags) begins
  set-reads t ranges flags after begins within is e f =
      f ∙ ap (λ h. flags ++ (begins && h) ∷ []) e
      ∙ sym (ap (λ s. flags ++ reads_next s first read c (length flags) begins) is)

  pub set-ends : (t : Tree) (ranges : List (ℕ × ℕ)) (base at : ℕ) (begins one : Bool) → t ≡ one_of ranges
      → at ≡ base → one ≡ read at → one ≡ ends_here t first false read base begins
  set-ends t ranges base at begins one is a e =
      e ∙ ap read a ∙ sym (ap (λ s. ends_here s first false read base begins) is)

  -- ---- a list of trees, one more gone through
  module _ (items : List Re) (start : List Bool) (begins : Bool) where
    abbrev pub InTurn : ℕ → List Bool → Bool → Type 0
    InTurn i flags here =
        (length flags + count_in (rest items i) ≡ length start + count_in (trees_of (map view items)))
        × (flags ++ reads_next_in_turn (rest items i) first read c (length flags) here
        ≡ start ++ reads_next_in_turn (trees_of (map view items)) first read c (length start) begins)
        × (ends_here_in_turn (rest items i) first false read (length flags) here
        ≡ ends_here_in_turn (trees_of (map view items)) first false read (length start) begins)

    abbrev pub OfOne : ℕ → List Bool → Bool → Type 0
    OfOne i flags ends =
        (length flags + count_in (rest items i) ≡ length start + count_in (trees_of (map view items)))
        × (flags ++ reads_next_of_one (rest items i) first read c (length flags) begins
        ≡ start ++ reads_next_of_one (trees_of (map view items)) first read c (length start) begins)
        × ((ends || ends_here_of_one (rest items i) first false read (length flags) begins)
        ≡ ends_here_of_one (trees_of (map view items)) first false read (length start) begins)

    pub in_turn-next : (i : ℕ) (x : Re) (flags after : List Bool) (here one : Bool) → i < length items
        → x ≡ get_or items i x → after ≡ flags ++ reads_next (view x) first read c (length flags) here
        → one ≡ ends_here (view x) first false read (length flags) here
        → InTurn i flags here → InTurn (i + 1) after one
    in_turn-next i x flags after here one within is f e (count, reads, ends) =
        let split = rest-tree items i x within is in
        let longer = length-next (view x) flags after (length flags) here f in (
          omega (arith, longer, count, ap count_in split),
          (ap (λ z. z ++ reads_next_in_turn (rest items (i + 1)) first read c (length after) one) f
              ∙ append_assoc flags (reads_next (view x) first read c (length flags) here)
              (reads_next_in_turn (rest items (i + 1)) first read c (length after) one)
              ∙ ap (λ k. flags ++ (reads_next (view x) first read c (length flags) here
              ++ reads_next_in_turn (rest items (i + 1)) first read c k one)) longer
              ∙ ap (λ o. flags ++ (reads_next (view x) first read c (length flags) here
              ++ reads_next_in_turn (rest items (i + 1)) first read c (length flags + count_of (view x)) o)) e
              ∙ sym (ap (λ ts. flags ++ reads_next_in_turn ts first read c (length flags) here) split)
              ∙ reads),
          (ap (λ k. ends_here_in_turn (rest items (i + 1)) first false read k one) longer
              ∙ ap (ends_here_in_turn (rest items (i + 1)) first false read (length flags + count_of (view x))) e
              ∙ sym (ap (λ ts. ends_here_in_turn ts first false read (length flags) here) split)
              ∙ ends),
        )

    pub of_one-next : (i : ℕ) (x : Re) (flags after : List Bool) (ends one : Bool) → i < length items
        → x ≡ get_or items i x → after ≡ flags ++ reads_next (view x) first read c (length flags) begins
        → one ≡ ends_here (view x) first false read (length flags) begins
        → OfOne i flags ends → OfOne (i + 1) after (ends || one)
    of_one-next i x flags after ends one within is f e (count, reads, ended) =
        let split = rest-tree items i x within is in
        let longer = length-next (view x) flags after (length flags) begins f in (
          omega (arith, longer, count, ap count_in split),
          (ap (λ z. z ++ reads_next_of_one (rest items (i + 1)) first read c (length after) begins) f
              ∙ append_assoc flags (reads_next (view x) first read c (length flags) begins)
              (reads_next_of_one (rest items (i + 1)) first read c (length after) begins)
              ∙ ap (λ k. flags ++ (reads_next (view x) first read c (length flags) begins
              ++ reads_next_of_one (rest items (i + 1)) first read c k begins)) longer
              ∙ sym (ap (λ ts. flags ++ reads_next_of_one ts first read c (length flags) begins) split)
              ∙ reads),
          (or_assoc ends one (ends_here_of_one (rest items (i + 1)) first false read (length after) begins)
              ∙ ap (λ k. ends || (one || ends_here_of_one (rest items (i + 1)) first false read k begins)) longer
              ∙ ap (λ o. ends || (o || ends_here_of_one (rest items (i + 1)) first false read
              (length flags + count_of (view x)) begins)) e
              ∙ sym (ap (λ ts. ends || ends_here_of_one ts first false read (length flags) begins) split)
              ∙ ended),
        )

    pub in_turn-room : (i : ℕ) (x : Re) (flags : List Bool) (here : Bool) → i < length items → x ≡ get_or items i x
        → InTurn i flags here
        → length flags + count_of (view x) ≤ length start + count_in (trees_of (map view items))
    in_turn-room i x flags here within is (count, reads, ends) =
        omega (arith, count, ap count_in (rest-tree items i x within is))

    pub of_one-room : (i : ℕ) (x : Re) (flags : List Bool) (here : Bool) → i < length items → x ≡ get_or items i x
        → OfOne i flags here
        → length flags + count_of (view x) ≤ length start + count_in (trees_of (map view items))
    of_one-room i x flags here within is (count, reads, ends) =
        omega (arith, count, ap count_in (rest-tree items i x within is))

    pub in_turn-within : (i : ℕ) (flags : List Bool) (here : Bool) → InTurn i flags here
        → length flags ≤ length start + count_in (trees_of (map view items))
    in_turn-within i flags here (count, reads, ends) = omega (arith, count)

    pub in_turn-stopped : (i k : ℕ) (flags after : List Bool) (here : Bool) → here ≡ false
        → Quiet read (length flags) → length flags + k ≡ length start + count_in (trees_of (map view items))
        → after ≡ flags ++ replicate k false → InTurn i flags here
        → after ≡ start ++ reads_next_in_turn (trees_of (map view items)) first read c (length start) begins
    in_turn-stopped i k flags after here e q size f (count, reads, ends) =
        f ∙ ap (λ n. flags ++ replicate n false) (omega (arith, size, count))
        ∙ sym (ap (λ z. flags ++ z) (ap (reads_next_in_turn (rest items i) first read c (length flags)) e
        ∙ reads_in_turn-quiet first read c (rest items i) (length flags) q))
        ∙ reads

  -- ---- copies, one more gone through
  module _ (t : Tree) (low : ℕ) (high : Option ℕ) (start : List Bool) (begins : Bool) where
    abbrev pub Reads : ℕ → List Bool → Bool → Type 0
    Reads n flags here =
        flags ++ next_after (is_none high) (λ at some. reads_next t first read c at some)
        (λ at some. ends_here t first false read at some) (count_of t) n (length flags) here
        ≡ start ++ reads_next (repeated t low high) first read c (length start) begins

    pub reads-init : (n : ℕ) → n ≡ copies low high → Reads (n - 0) start begins
    reads-init n e =
        ap (λ k. start ++ next_after (is_none high) (λ at some. reads_next t first read c at some)
        (λ at some. ends_here t first false read at some) (count_of t) k (length start) begins)
        (all n (copies low high) e)
        ∙ ap (λ z. start ++ z) (reads_repeated first read c t low high (length start) begins) where
          all : (n m : ℕ) → n ≡ m → n - 0 ≡ m
          all n m e = omega (arith, e)

    abbrev Next : ℕ → ℕ → Bool → List Bool
    Next k base here =
        next_after (is_none high) (λ at some. reads_next t first read c at some)
        (λ at some. ends_here t first false read at some) (count_of t) k base here

    -- the copy begins where the one before ends, or where it ends itself
    abbrev pub Begins : ℕ → ℕ → Bool → Bool → Type 0
    Begins left base here some =
        some ≡ begins_with (is_none high) (λ at some. ends_here t first false read at some) left base here

    pub begins-is : (left base at : ℕ) (again here some : Bool) → again ≡ (is_none high && nat_eq left 0) → at ≡ base
        → some ≡ (if again then here || ends_here t first false read at false else here) → Begins left base here some
    begins-is left base at again here some e a f =
        f ∙ ap (λ k. if again then here || ends_here t first false read k false else here) a
        ∙ ap (λ x. if x then here || ends_here t first false read base false else here) e

    pub one-is : (left base : ℕ) (here some one : Bool) → Begins left base here some
        → one ≡ ends_here t first false read base some → one ≡ ends_here t first false read base here
    one-is left base here some one e f =
        f ∙ ap (ends_here t first false read base) e
        ∙ begins_once (is_none high) (λ at some. ends_here t first false read at some) (keeps first false read t) left
        base here

    pub reads-next : (n i : ℕ) (flags after : List Bool) (here some one : Bool) → i < n
        → Begins (n - (i + 1)) (length flags) here some
        → after ≡ flags ++ reads_next t first read c (length flags) some
        → one ≡ ends_here t first false read (length flags) some
        → Reads (n - i) flags here → Reads (n - (i + 1)) after one
    reads-next n i flags after here some one within b f e reads =
        let longer = length-next t flags after (length flags) some f in
        ap (λ z. z ++ Next (n - (i + 1)) (length after) one) f
        ∙ append_assoc flags (reads_next t first read c (length flags) some) (Next (n - (i + 1)) (length after) one)
        ∙ ap (λ k. flags ++ (reads_next t first read c (length flags) some ++ Next (n - (i + 1)) k one)) longer
        ∙ ap (λ o. flags ++ (reads_next t first read c (length flags) some
        ++ Next (n - (i + 1)) (length flags + count_of t) o))
        (one-is (n - (i + 1)) (length flags) here some one b e)
        ∙ ap (λ s. flags ++ (reads_next t first read c (length flags) s
        ++ Next (n - (i + 1)) (length flags + count_of t) (ends_here t first false read (length flags) here))) b
        ∙ sym (ap (λ k. flags ++ Next k (length flags) here) (one_less n i within))
        ∙ reads

    pub reads-stopped : (k m : ℕ) (flags after : List Bool) (here : Bool) → here ≡ false → Quiet read (length flags)
        → m ≡ k * count_of t → after ≡ flags ++ replicate m false → Reads k flags here
        → after ≡ start ++ reads_next (repeated t low high) first read c (length start) begins
    reads-stopped k m flags after here e q size f reads =
        f ∙ ap (λ n. flags ++ replicate n false) size
        ∙ sym (ap (λ z. flags ++ z) (ap (Next k (length flags)) e
        ∙ next_after-quiet read (λ at some. ends_here t first false read at some) (count_of t)
        (ends-quiet first read false t) (is_none high) (λ at some. reads_next t first read c at some)
        (reads-quiet first read c t) k (length flags) q))
        ∙ reads

    no_reads : count_of t ≡ 0 → (base : ℕ) (b : Bool) → reads_next t first read c base b ≡ []
    no_reads e base b = nothing (reads_next t first read c base b) (length-reads t base b ∙ e)

    nothing_next : count_of t ≡ 0 → (k base : ℕ) (b : Bool) → Next k base b ≡ []
    nothing_next e zero base b = refl
    nothing_next e (suc k) base b =
        ap (λ z. z ++ Next k (base + count_of t) (ends_here t first false read base b))
        (no_reads e base (begins_with (is_none high) (λ at some. ends_here t first false read at some) k base b))
        ∙ nothing_next e k (base + count_of t) (ends_here t first false read base b)

    pub reads-nowhere : (n i : ℕ) (flags after : List Bool) (here some : Bool)
        → length flags + (n - i) * count_of t ≡ length start + n * count_of t → length after ≡ length start
        → after ≡ flags ++ reads_next t first read c (length flags) some → Reads (n - i) flags here
        → after ≡ start ++ reads_next (repeated t low high) first read c (length start) begins
    reads-nowhere n i flags after here some left back f reads =
        let longer = length-next t flags after (length flags) some f in
        let none = nowhere (length start) n (count_of t) i (length flags) left (sym back ∙ longer) in
        f ∙ ap (λ z. flags ++ z) (no_reads none.1 (length flags) some)
        ∙ sym (ap (λ z. flags ++ z) (nothing_next none.1 (n - i) (length flags) here))
        ∙ reads
