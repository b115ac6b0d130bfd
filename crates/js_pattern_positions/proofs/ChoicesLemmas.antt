-- Copies of a choice of sets.
--
-- Key: `choices-reads` and `choices-ends`, what the bits of one copy make of all copies.
use Rattle.std.proofs.Common.{◌≡◌, ℕ, zero, suc, ◌+◌, ◌-◌, ◌*◌, ◌/◌, ◌%◌, ◌^◌, ◌<◌, ◌≤◌, Bool, true, false, ◌&&◌, ◌||◌, eqb, nat_eq, nat_le, if◌then◌else◌, List, [], ◌∷◌, ◌++◌, length, replicate, get_or, map, Option, refl, sym, ◌∙◌, ap, ap₂, subst, arith, length-append, append_assoc, append-nil}
use mir.Val.{bool_byte}
use Rattle.std.specs.Prelude.{slice_index}
use Rattle.std.specs.Int.{bit_at}
use Rattle.std.specs.Option.{is_none}
use Rattle.std.proofs.Math.Bool.{or_assoc, or-false}
use Rattle.std.proofs.lemmas.Bool.{lt-leb, le-leb}
use Rattle.std.proofs.lemmas.List.{length-replicate, replicate-append-replicate}
use Rattle.std.proofs.lemmas.Nat.{pow-add, shl_whole}
use Rattle.std.proofs.lemmas.Nat.Bits.{bit_at_cat_low, bit_at_cat_high}
use Rattle.patterns.specs.CharSet.{has}
use Rattle.patterns.specs.Tree.{Trees, one_of, either, repeated, tree, trees_of}
use Rattle.word_states.specs.Position.{count_in, copies}
use Rattle.state_laws.specs.Flow.{ends_here, ends_here_of_one, reads_next, reads_next_of_one}
use Rattle.js_pattern.specs.declared.re.Re.{Re}
use Rattle.js_pattern.specs.View.{view}
use Rattle.js_pattern_positions.specs.Bits.{bit_of, flags_of}
use Rattle.js_pattern_positions.specs.Walk.{Quiet, begins_with, ends_after, next_after, some_in}
use Rattle.js_pattern_positions.specs.Choices.{IsSetThat, IsChoice, chosen, choices_begun}
use Rattle.js_pattern_positions.proofs.Items.{rest, rest-tree}
use Rattle.js_pattern_positions.proofs.BitsLemmas.{length-flags_of, flags_of-none, flags_of-more, flags_of-same, bit_at-mod, bit_at-div}
use Rattle.js_pattern_positions.proofs.CopiesLemmas.{some_in-split, some_in-zero, next_after-same}
use Rattle.js_pattern_positions.proofs.Quiet.{next_after-quiet}
use Rattle.js_pattern_positions.proofs.EndsSteps.{one_less}
use Rattle.js_pattern_positions.proofs.Through.{ends_repeated, reads_repeated}

-- ---- the flags of one number
pub bit_of-one : (x p : ℕ) → p < 64 → bit_of (x ∷ []) p ≡ eqb (bit_at x p) 1
bit_of-one x p l =
    let row : p / 64 ≡ 0 = omega (arith, l) in
    let place : p % 64 ≡ p = omega (arith, l) in
    ap₂ (λ q r. eqb (bit_at (slice_index (x ∷ []) q) r) 1) row place

pub flags_of-split : (x a b : ℕ) → a + b ≤ 64
    → flags_of (x ∷ []) (a + b) ≡ flags_of ((x % 2 ^ a) ∷ []) a ++ flags_of ((x / 2 ^ a) ∷ []) b
flags_of-split x a zero h =
    let still : a + 0 ≡ a = omega arith in
    ap (flags_of (x ∷ [])) still
    ∙ flags_of-same (x ∷ []) ((x % 2 ^ a) ∷ []) a
    (λ p l. bit_of-one x p (omega (arith, l, h)) ∙ ap (λ b. eqb b 1) (sym (bit_at-mod x a p l))
    ∙ sym (bit_of-one (x % 2 ^ a) p (omega (arith, l, h))))
    ∙ sym (append-nil (flags_of ((x % 2 ^ a) ∷ []) a))
    ∙ ap (λ z. flags_of ((x % 2 ^ a) ∷ []) a ++ z) (sym (flags_of-none ((x / 2 ^ a) ∷ [])))
flags_of-split x a (suc b) h =
    let more : a + suc b ≡ a + b + 1 = omega arith in
    let next : b + 1 ≡ suc b = omega arith in
    ap (flags_of (x ∷ [])) more ∙ flags_of-more (x ∷ []) (a + b)
    ∙ ap₂ (λ fs f. fs ++ f ∷ []) (flags_of-split x a b (omega (arith, h)))
    (bit_of-one x (a + b) (omega (arith, h)) ∙ ap (λ z. eqb z 1) (sym (bit_at-div x a b))
    ∙ sym (bit_of-one (x / 2 ^ a) b (omega (arith, h))))
    ∙ append_assoc (flags_of ((x % 2 ^ a) ∷ []) a) (flags_of ((x / 2 ^ a) ∷ []) b) (bit_of ((x / 2 ^ a) ∷ []) b ∷ [])
    ∙ ap (λ z. flags_of ((x % 2 ^ a) ∷ []) a ++ z)
    (sym (flags_of-more ((x / 2 ^ a) ∷ []) b) ∙ ap (flags_of ((x / 2 ^ a) ∷ [])) next)

pub length-chosen : (bits size : ℕ) (b : Bool) → length (chosen bits size b) ≡ size
length-chosen bits size true = length-flags_of (bits ∷ []) size
length-chosen bits size false = length-replicate size false

byte_small : (b : Bool) → bool_byte b < 2
byte_small true = omega arith
byte_small false = omega arith

byte_bit : (b : Bool) → eqb (bit_at (bool_byte b) 0) 1 ≡ b
byte_bit true = refl
byte_bit false = refl

double : (i : ℕ) → 2 ^ (i + 1) ≡ 2 * 2 ^ i
double i = omega (arith, pow-add 2 i 1)

pub one_more-small : (bits i : ℕ) (within : Bool) → bits < 2 ^ i → bits + bool_byte within * 2 ^ i < 2 ^ (i + 1)
one_more-small bits i true h = omega (arith, double i, h)
one_more-small bits i false h = omega (arith, double i, h)

-- one bit more
chosen-more : (bits i : ℕ) (within b : Bool) → i < 64 → bits < 2 ^ i
    → chosen (bits + bool_byte within * 2 ^ i) (i + 1) b ≡ chosen bits i b ++ (b && within) ∷ []
chosen-more bits i within false l h =
    sym (replicate-append-replicate i 1 false)
chosen-more bits i within true l h =
    let turn : bits + bool_byte within * 2 ^ i ≡ bool_byte within * 2 ^ i + bits = omega arith in
    let none : i - i ≡ 0 = omega arith in
    ap (λ x. flags_of (x ∷ []) (i + 1)) turn
    ∙ flags_of-more ((bool_byte within * 2 ^ i + bits) ∷ []) i
    ∙ ap₂ (λ fs f. fs ++ f ∷ [])
    (flags_of-same ((bool_byte within * 2 ^ i + bits) ∷ []) (bits ∷ []) i
    (λ p k. bit_of-one (bool_byte within * 2 ^ i + bits) p (omega (arith, k, l))
    ∙ ap (λ x. eqb x 1) (bit_at_cat_low (bool_byte within) i bits p k)
    ∙ sym (bit_of-one bits p (omega (arith, k, l)))))
    (bit_of-one (bool_byte within * 2 ^ i + bits) i l
    ∙ ap (λ x. eqb x 1) (bit_at_cat_high (bool_byte within) i bits i h (omega arith)
    ∙ ap (bit_at (bool_byte within)) none)
    ∙ byte_bit within)

-- ---- the sets of a list, one more gone through
module _ (items : List Re) (c : ℕ) where
  abbrev pub Partly : ℕ → ℕ → Type 0
  Partly i bits =
      (bits < 2 ^ i)
      × (i + count_in (rest items i) ≡ count_in (trees_of (map view items)))
      × ((first : Bool) (read : ℕ → Bool) (base : ℕ) (b : Bool)
      → chosen bits i b ++ reads_next_of_one (rest items i) first read c (base + i) b
      ≡ reads_next_of_one (trees_of (map view items)) first read c base b)
      × ((first last : Bool) (read : ℕ → Bool) (base : ℕ) (b : Bool)
      → (some_in read i base || ends_here_of_one (rest items i) first last read (base + i) b)
      ≡ ends_here_of_one (trees_of (map view items)) first last read base b)

  pub partly-init : Partly 0 0
  partly-init = (
    omega arith,
    omega arith,
    (λ first read base b.
        let still : base + 0 ≡ base = omega arith in
        ap₂ (λ z k. z ++ reads_next_of_one (trees_of (map view items)) first read c k b) (none b) still),
    (λ first last read base b.
        let still : base + 0 ≡ base = omega arith in
        ap (λ k. ends_here_of_one (trees_of (map view items)) first last read k b) still),
  ) where
    none : (b : Bool) → chosen 0 0 b ≡ []
    none true = flags_of-none (0 ∷ [])
    none false = refl

  pub partly-next : (i bits : ℕ) (x : Re) (within : Bool) → i < length items → i < 64 → x ≡ get_or items i x
      → IsSetThat within (view x) c → Partly i bits → Partly (i + 1) (bits + bool_byte within * 2 ^ i)
  partly-next i bits x within h l is (ranges, e, f) (small, count, reads, ends) =
      let split : rest items i ≡ tree (one_of ranges) (rest items (i + 1)) =
      rest-tree items i x h is ∙ ap (λ t. tree t (rest items (i + 1))) e in (
        one_more-small bits i within small,
        omega (arith, count, ap count_in split),
        (λ first read base b.
            let next : base + (i + 1) ≡ base + i + 1 = omega arith in
            ap₂ (λ z k. z ++ reads_next_of_one (rest items (i + 1)) first read c k b)
            (chosen-more bits i within b l small) next
            ∙ append_assoc (chosen bits i b) ((b && within) ∷ [])
            (reads_next_of_one (rest items (i + 1)) first read c (base + i + 1) b)
            ∙ ap (λ w. chosen bits i b
            ++ (b && w) ∷ reads_next_of_one (rest items (i + 1)) first read c (base + i + 1) b) f
            ∙ ap (λ ts. chosen bits i b ++ reads_next_of_one ts first read c (base + i) b) (sym split)
            ∙ reads first read base b),
        (λ first last read base b.
            let next : base + (i + 1) ≡ base + i + 1 = omega arith in
            ap₂ (λ z k. z || ends_here_of_one (rest items (i + 1)) first last read k b)
            (some_in-split read i 1 base ∙ ap (λ z. some_in read i base || z) (or-false (read (base + i)))) next
            ∙ or_assoc (some_in read i base) (read (base + i))
            (ends_here_of_one (rest items (i + 1)) first last read (base + i + 1) b)
            ∙ ap (λ ts. some_in read i base || ends_here_of_one ts first last read (base + i) b) (sym split)
            ∙ ends first last read base b),
      )

  pub partly-shifted : (i place bits has : ℕ) (x : Re) (within : Bool) → i < length items → length items ≤ 64
      → place ≡ i → x ≡ get_or items i x → has ≡ bool_byte within → IsSetThat within (view x) c → Partly i bits
      → Partly (i + 1) (bits + (has * 2 ^ place) % 2 ^ 64)
  partly-shifted i place bits has x within h few p is e set before =
      let shifted : (bool_byte within * 2 ^ i) % 2 ^ 64 ≡ bool_byte within * 2 ^ i =
      shl_whole (bool_byte within) 1 i 64 (byte_small within) (omega (arith, h, few)) in
      let added : bits + bool_byte within * 2 ^ i ≡ bits + (has * 2 ^ place) % 2 ^ 64 =
      ap (λ k. bits + k) (sym shifted) ∙ ap₂ (λ a k. bits + (a * 2 ^ k) % 2 ^ 64) (sym e) (sym p) in
      subst (Partly (i + 1)) added (partly-next i bits x within h (omega (arith, h, few)) is set before)

-- ---- copies, one more gone through
module _ (again : Bool) (bits size : ℕ) (read : ℕ → Bool) where
  abbrev Next : ℕ → ℕ → Bool → List Bool
  Next n base here = choices_begun again bits size read n base here

  begins-last : (left base : ℕ) (last here was : Bool) → last ≡ (again && nat_eq left 0) → was ≡ some_in read size base
      → (here || (last && was)) ≡ begins_with again (λ at some. some_in read size at) left base here
  begins-last left base last here was e f =
      by last here was
      ∙ ap (λ x. if last then here || x else here) f
      ∙ ap (λ x. if x then here || some_in read size base else here) e where
        by : (last here was : Bool) → (here || (last && was)) ≡ (if last then here || was else here)
        by true here was = refl
        by false here was = or-false here

  pub choices-next : (n i : ℕ) (flags after whole : List Bool) (last here was : Bool) → i < n
      → last ≡ (again && nat_eq (n - (i + 1)) 0) → was ≡ some_in read size (length flags)
      → after ≡ flags ++ chosen bits size (here || (last && was))
      → flags ++ Next (n - i) (length flags) here ≡ whole
      → after ++ Next (n - (i + 1)) (length after) was ≡ whole
  choices-next n i flags after whole last here was h e f g all =
      let some = here || (last && was) in
      let longer : length after ≡ length flags + size =
      ap length g ∙ length-append flags (chosen bits size some)
      ∙ ap (λ k. length flags + k) (length-chosen bits size some) in
      ap (λ z. z ++ Next (n - (i + 1)) (length after) was) g
      ∙ append_assoc flags (chosen bits size some) (Next (n - (i + 1)) (length after) was)
      ∙ ap₂ (λ k w. flags ++ (chosen bits size some ++ Next (n - (i + 1)) k w)) longer f
      ∙ ap (λ s. flags ++ (chosen bits size s
      ++ Next (n - (i + 1)) (length flags + size) (some_in read size (length flags))))
      (begins-last (n - (i + 1)) (length flags) last here was e f)
      ∙ sym (ap (λ k. flags ++ Next k (length flags) here) (one_less n i h))
      ∙ all

  pub choices-stopped : (k : ℕ) (flags after whole : List Bool) (here : Bool) → here ≡ false
      → Quiet read (length flags) → after ≡ flags ++ replicate (k * size) false
      → flags ++ Next k (length flags) here ≡ whole → after ≡ whole
  choices-stopped k flags after whole here e q g all =
      g
      ∙ sym (ap (λ z. flags ++ z) (ap (Next k (length flags)) e
      ∙ next_after-quiet read (λ at some. some_in read size at) size
      (λ base r. some_in-zero read size base (λ i l. r (base + i) (omega arith)))
      again (λ at some. chosen bits size some) (λ base r. refl) k (length flags) q))
      ∙ all

-- ---- all copies of a choice
module _ (ts : Trees) (c size bits : ℕ) (choice : IsChoice ts c size bits) (first : Bool) (read : ℕ → Bool) (low : ℕ)
    (high : Option ℕ) where
  pub choices-reads : (n : ℕ) (flags after : List Bool) (begins : Bool) → n ≡ copies low high
      → after ≡ flags ++ choices_begun (is_none high) bits size read n (length flags) begins
      → after ≡ flags ++ reads_next (repeated (either ts) low high) first read c (length flags) begins
  choices-reads n flags after begins e f =
      f ∙ ap (λ k. flags ++ choices_begun (is_none high) bits size read k (length flags) begins) e
      ∙ ap (λ z. flags ++ z)
      (next_after-same (is_none high) (λ at some. chosen bits size some)
      (λ at some. reads_next (either ts) first read c at some) (λ at some. some_in read size at)
      (λ at some. ends_here (either ts) first false read at some) size
      (λ base b. choice.reads first read base b) (λ base b. choice.ends first false read base b)
      (copies low high) (length flags) begins
      ∙ ap (λ k. next_after (is_none high) (λ at some. reads_next (either ts) first read c at some)
      (λ at some. ends_here (either ts) first false read at some) k (copies low high) (length flags) begins)
      (sym choice.counted)
      ∙ reads_repeated first read c (either ts) low high (length flags) begins)

-- ---- where a match can end after some of the copies, if where a copy ends depends on its positions alone
module _ (one : ℕ → Bool → Bool) (size : ℕ) (read : ℕ → Bool)
    (by_reads : (base : ℕ) (b : Bool) → one base b ≡ some_in read size base) (low : ℕ) where
  ends_after-any : (n i base : ℕ) (here ends : Bool) → low ≤ i + 1
      → ends_after one size low n i base here ends ≡ (ends || some_in read (n * size) base)
  ends_after-any zero i base here ends h =
      let none : 0 ≡ zero * size = omega arith in
      sym (or-false ends) ∙ ap (λ k. ends || some_in read k base) none
  ends_after-any (suc n) i base here ends h =
      let more : size + n * size ≡ suc n * size = omega arith in
      ends_after-any n (suc i) (base + size) (one base here) (ends || (nat_le low (suc i) && one base here))
      (omega (arith, h))
      ∙ ap₂ (λ x y. (ends || (x && y)) || some_in read (n * size) (base + size))
      (le-leb low (suc i) (omega (arith, h))) (by_reads base here)
      ∙ or_assoc ends (some_in read size base) (some_in read (n * size) (base + size))
      ∙ ap (λ z. ends || z) (sym (some_in-split read size (n * size) base))
      ∙ ap (λ k. ends || some_in read k base) more

  ends_after-skipped : (s n i base : ℕ) (here ends : Bool) → i + s + 1 ≡ low
      → ends_after one size low n i base here ends
      ≡ (ends || some_in read ((n - s) * size) (base + s * size))
  ends_after-skipped zero n i base here ends h =
      let all : n ≡ n - 0 = omega arith in
      let still : base ≡ base + zero * size = omega arith in
      ends_after-any n i base here ends (omega (arith, h))
      ∙ ap₂ (λ k p. ends || some_in read (k * size) p) all still
  ends_after-skipped (suc s) zero i base here ends h =
      let none : 0 ≡ (0 - suc s) * size = omega (arith, ap (λ k. k * size) (nothing s)) in
      sym (or-false ends) ∙ ap (λ k. ends || some_in read k (base + suc s * size)) none where
        nothing : (s : ℕ) → 0 ≡ 0 - suc s
        nothing s = omega arith
  ends_after-skipped (suc s) (suc n) i base here ends h =
      let less : n - s ≡ suc n - suc s = omega arith in
      let next : base + size + s * size ≡ base + suc s * size = omega arith in
      ap (ends_after one size low n (suc i) (base + size) (one base here))
      (ap (λ x. ends || (x && one base here)) (lt-leb low (suc i) (omega (arith, h))) ∙ or-false ends)
      ∙ ends_after-skipped s n (suc i) (base + size) (one base here) ends (omega (arith, h))
      ∙ ap₂ (λ k p. ends || some_in read (k * size) p) less next

  ends_after-all : (n s base : ℕ) (begins ends : Bool) → s ≡ low - 1
      → ends_after one size low n 0 base begins ends
      ≡ (ends || some_in read ((n - s) * size) (base + s * size))
  ends_after-all n s base begins ends e = by low refl where
    by : (l : ℕ) → l ≡ low → ends_after one size low n 0 base begins ends
        ≡ (ends || some_in read ((n - s) * size) (base + s * size))
    by zero f =
        let all : n ≡ n - s = omega (arith, e, f) in
        let none : 0 ≡ s = omega (arith, e, f) in
        let still : base ≡ base + 0 * size = omega arith in
        ends_after-any n 0 base begins ends (omega (arith, f))
        ∙ ap₂ (λ k p. ends || some_in read (k * size) p) all (still ∙ ap (λ k. base + k * size) none)
    by (suc l) f = ends_after-skipped s n 0 base begins ends (omega (arith, e, f))

module _ (ts : Trees) (c size bits : ℕ) (choice : IsChoice ts c size bits) (first last : Bool) (read : ℕ → Bool)
    (low : ℕ) (high : Option ℕ) where
  pub choices-ends : (n s base : ℕ) (begins ends : Bool) → n ≡ copies low high → s ≡ low - 1
      → ends ≡ (nat_le low 0 && begins)
      → (ends || some_in read ((n - s) * size) (base + s * size))
      ≡ ends_here (repeated (either ts) low high) first last read base begins
  choices-ends n s base begins ends e f g =
      sym (ends_after-all (λ at some. ends_here (either ts) first last read at some) size read
      (λ at b. sym (choice.ends first last read at b)) low n s base begins ends f)
      ∙ ap₂ (λ k x. ends_after
      (λ at some. ends_here (either ts) first last read at some) size low k 0 base begins x) e g
      ∙ ap (λ k. ends_after (λ at some. ends_here (either ts) first last read at some) k low (copies low high) 0 base
      begins (nat_le low 0 && begins)) (sym choice.counted)
      ∙ ends_repeated first last read (either ts) low high base begins
