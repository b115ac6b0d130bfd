-- Flags kept as the bits of words.
--
-- Key: `words_are`, the words are determined by the flags, so that equal flags are equal words.
use Rattle.std.proofs.Common.{◌≡◌, ℕ, zero, suc, ◌+◌, ◌*◌, ◌/◌, ◌%◌, ◌^◌, ◌<◌, ◌≤◌, ◌≢◌, inl, inr, Bool, true, false, if◌then◌else◌, ◌&&◌, eqb, List, [], ◌∷◌, map, length, replicate, get_or, set, refl, sym, ◌∙◌, ap, ap₂, subst, arith, ext_get_or, get_or-set_same, get_or-set_other, eq-eqb}
use Rattle.std.specs.Prelude.{slice_index}
use Rattle.std.specs.Bool.{beq}
use Rattle.std.specs.Cmp.Lexicographic.{pointwise}
use Rattle.std.specs.Int.{bit_at}
use Rattle.std.specs.List.{range_with_len}
use Rattle.std.proofs.lemmas.Bool.{and_from, and_parts, eqb-true, cases_eq}
use Rattle.std.proofs.lemmas.List.{length-set}
use Rattle.std.proofs.lemmas.List.FromFn.{length-map-range_with_len, get_or-map-range_with_len}
use Rattle.std.proofs.lemmas.Nat.{mod_below}
use Rattle.std.proofs.lemmas.Nat.Bits.{bit_at-zero, bit_at_lowest, bit_at-suc, bit_at-lt, same_from_bits_below}
use Rattle.std.proofs.lemmas.Slice.Eq.{slice_eq-Decides}
use Rattle.std.specs.Cmp.{unsigned_Decides}
use Rattle.js_pattern_positions.specs.Bits.{bit_of, flags_of}
use Rattle.js_pattern_positions.proofs.BitsLemmas.{length-flags_of, flag_at-get_or, get_or-flags_of, bit_of-set_same, bit_of-set_other, positive, bit_at-mod, bit_at-div, flag_at-bit}
use Rattle.js_cells.specs.FlagWords.{number_of, words_of, flags_decide}
use Rattle.list_laws.proofs.Booleans.{same_test}

-- one flag is written

module _ (words : List ℕ) (len place word : ℕ) (room : length words ≡ len / 64 + 1) (within : place < len)
    (others : (i : ℕ) → i < 64 → i ≢ place % 64 → bit_at word i ≡ bit_at (slice_index words (place / 64)) i) where
  abbrev written : List ℕ
  written = set words (place / 64) word

  pub flags_of-set : (flag : Bool) → eqb (bit_at word (place % 64)) 1 ≡ flag
      → flags_of written len ≡ set (flags_of words len) place flag
  flags_of-set flag here =
      ext_get_or false _ _
      (length-flags_of written len ∙ sym (length-flags_of words len) ∙ sym (length-set (flags_of words len) place flag))
      (λ p l. let m : p < len = rw length-flags_of at l in get_or-flags_of written len p m ∙ at p m) where
        at : (p : ℕ) → p < len → bit_of written p ≡ get_or (set (flags_of words len) place flag) p false
        at p m =
            elim (cases_eq p place) as (λ _. bit_of written p ≡ get_or (set (flags_of words len) place flag) p false) [
              | inl e ↦
                  ap (bit_of written) e ∙ bit_of-set_same words place word (omega (arith, room, within)) ∙ here
                  ∙ sym (ap (λ k. get_or (set (flags_of words len) place flag) k false) e
                  ∙ get_or-set_same (flags_of words len) place flag false
                  (omega (arith, within, length-flags_of words len)))
              | inr n ↦
                  bit_of-set_other words place p word (omega (arith, room, within)) n others
                  ∙ sym (get_or-set_other (flags_of words len) place p flag false n ∙ get_or-flags_of words len p m)
            ]

  pub clear-set : ((p : ℕ) → len ≤ p → bit_of words p ≡ false) → (p : ℕ) → len ≤ p → bit_of written p ≡ false
  clear-set none p l =
      bit_of-set_other words place p word (omega (arith, room, within)) (λ e. omega (arith, e, l, within)) others
      ∙ none p l

  pub small-set : word < 2 ^ 64 → ((k : ℕ) → slice_index words k < 2 ^ 64) → (k : ℕ) → slice_index written k < 2 ^ 64
  small-set low small k = elim (cases_eq k (place / 64)) as (λ _. slice_index written k < 2 ^ 64) [
    | inl e ↦
        let here : slice_index written k ≡ word =
        ap (slice_index written) e ∙ get_or-set_same words (place / 64) word 0 (omega (arith, room, within)) in
        omega (arith, here, low)
    | inr n ↦
        let other : slice_index written k ≡ slice_index words k = get_or-set_other words (place / 64) k word 0 n in
        let before = small k in omega (arith, other, before)
  ]

pub small-zeros : (n k : ℕ) → slice_index (replicate n 0) k < 2 ^ 64
small-zeros zero k = omega arith
small-zeros (suc n) zero = omega arith
small-zeros (suc n) (suc k) = small-zeros n k

-- the words by the flags

bit_at-number : (bs : List Bool) (i : ℕ) → bit_at (number_of bs) i ≡ (if get_or bs i false then 1 else 0)
bit_at-number [] zero = bit_at-zero 0
bit_at-number [] (suc i) = bit_at-zero (suc i)
bit_at-number (b ∷ bs) zero = bit_at_lowest (number_of (b ∷ bs)) ∙ lowest b (number_of bs) where
  lowest : (b : Bool) (n : ℕ) → ((if b then 1 else 0) + 2 * n) % 2 ≡ (if b then 1 else 0)
  lowest true n = omega arith
  lowest false n = omega arith
bit_at-number (b ∷ bs) (suc i) =
    bit_at-suc (number_of (b ∷ bs)) i ∙ ap (λ n. bit_at n i) (half b (number_of bs)) ∙ bit_at-number bs i where
      half : (b : Bool) (n : ℕ) → ((if b then 1 else 0) + 2 * n) / 2 ≡ n
      half true n = omega arith
      half false n = omega arith

bit_back : (bit : ℕ) → bit < 2 → (if eqb bit 1 then 1 else 0) ≡ bit
bit_back zero l = refl
bit_back (suc zero) l = refl
bit_back (suc (suc bit)) l = absurd (omega (arith, l))

module _ (words : List ℕ) (len : ℕ) (long : length words ≡ len / 64 + 1)
    (none : (p : ℕ) → len ≤ p → bit_of words p ≡ false) where
  -- a bit of a word is a flag
  flag-bit : (k i p : ℕ) → k ≡ p / 64 → i ≡ p % 64
      → (if get_or (flags_of words len) p false then 1 else 0) ≡ bit_at (slice_index words k) i
  flag-bit k i p row place =
      ap (λ b. if b then 1 else 0)
      (sym (flag_at-get_or (flags_of words len) p) ∙ flag_at-bit words len len (omega arith) none p)
      ∙ bit_back (bit_at (slice_index words (p / 64)) (p % 64)) (bit_at-lt (slice_index words (p / 64)) (p % 64))
      ∙ sym (ap₂ (λ q r. bit_at (slice_index words q) r) row place)

  number_bit : (k i : ℕ) → i < 64
      → bit_at (number_of (flags_of words len)) (64 * k + i) ≡ bit_at (slice_index words k) i
  number_bit k i l =
      bit_at-number (flags_of words len) (64 * k + i)
      ∙ flag-bit k i (64 * k + i) (omega (arith, l)) (omega (arith, l))

  -- words are determined by their flags
  pub words_are : ((k : ℕ) → slice_index words k < 2 ^ 64) → words_of (flags_of words len) ≡ words
  unfolding words_of
  words_are small =
      let n = number_of (flags_of words len) in
      let f : ℕ → ℕ = λ k. n / 2 ^ (64 * k) % 2 ^ 64 in
      let count : length (flags_of words len) / 64 + 1 ≡ length words =
      ap (λ m. m / 64 + 1) (length-flags_of words len) ∙ sym long in
      let longs = length-map-range_with_len f 0 (length (flags_of words len) / 64 + 1) in
      ext_get_or 0 _ _ (longs ∙ count)
      (λ k l.
      let m : k < length (flags_of words len) / 64 + 1 = omega (arith, l, longs) in
      get_or-map-range_with_len f 0 (length (flags_of words len) / 64 + 1) k k 0 m (omega arith)
      ∙ same_from_bits_below 64 (f k) (get_or words k 0) (mod_below (n / 2 ^ (64 * k)) (2 ^ 64) (positive 64))
      (small k)
      (λ i low.
      bit_at-mod (n / 2 ^ (64 * k)) 64 i low ∙ bit_at-div n (64 * k) i ∙ number_bit k i low))

-- words are equal where the flags are

-- lengths and words are equal exactly where the lists of flags are
pub same_words : (xs ys : List ℕ) (m n : ℕ) → length xs ≡ m / 64 + 1 → length ys ≡ n / 64 + 1
    → ((p : ℕ) → m ≤ p → bit_of xs p ≡ false) → ((p : ℕ) → n ≤ p → bit_of ys p ≡ false)
    → ((k : ℕ) → slice_index xs k < 2 ^ 64) → ((k : ℕ) → slice_index ys k < 2 ^ 64)
    → (eqb m n && pointwise eqb xs ys) ≡ pointwise beq (flags_of xs m) (flags_of ys n)
same_words xs ys m n a b c d f g =
    same_test (eqb m n && pointwise eqb xs ys) (pointwise beq (flags_of xs m) (flags_of ys n))
    (λ h.
    let (p, q) = and_parts (eqb m n) (pointwise eqb xs ys) h in
    (flags_decide (flags_of xs m) (flags_of ys n)).1
    (ap₂ flags_of ((slice_eq-Decides unsigned_Decides xs ys (pointwise eqb xs ys) refl).0 q) (eqb-true m n p)))
    (λ h.
    let e = (flags_decide (flags_of xs m) (flags_of ys n)).0 h in
    let lens : m ≡ n = sym (length-flags_of xs m) ∙ ap length e ∙ length-flags_of ys n in
    and_from (eqb m n) (pointwise eqb xs ys) (eq-eqb m n lens)
    ((slice_eq-Decides unsigned_Decides xs ys (pointwise eqb xs ys) refl).1
    (sym (words_are xs m a c f) ∙ ap words_of e ∙ words_are ys n b d g)))
