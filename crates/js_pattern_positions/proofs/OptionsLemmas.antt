-- Copies of a set that may be left out.
--
-- Key: `options-reads` and `options-ends`, what the copies make of a state.
use Rattle.std.proofs.Common.{◌≡◌, ℕ, zero, suc, ◌+◌, ◌-◌, ◌/◌, ◌^◌, ◌<◌, ◌≤◌, Bool, true, false, ◌&&◌, ◌||◌, eqb, nat_le, List, [], ◌∷◌, ◌++◌, length, replicate, Some, refl, sym, ◌∙◌, ap, ap₂, arith, ext_get_or, append_assoc, length-append, leb-true}
use Rattle.std.proofs.Math.Bool.{or_assoc, or-false, and-true, and-false}
use Rattle.std.proofs.lemmas.Bool.{le-leb}
use Rattle.std.proofs.lemmas.List.{length-replicate, get_or-replicate, replicate-append-replicate}
use Rattle.std.proofs.lemmas.Nat.Bits.{bit_at_ones, ones_shr}
use Rattle.patterns.specs.Tree.{Tree, repeated}
use Rattle.word_states.specs.Position.{count_of}
use Rattle.state_laws.specs.Flow.{ends_here, reads_next}
use Rattle.js_pattern_positions.specs.Bits.{flags_of}
use Rattle.js_pattern_positions.specs.Walk.{ends_after, next_after, some_in}
use Rattle.js_pattern_positions.specs.Choices.{IsOptionThat, options_begun}
use Rattle.js_pattern_positions.proofs.BitsLemmas.{positive, length-flags_of, get_or-flags_of}
use Rattle.js_pattern_positions.proofs.RunSteps.{next_after-none}
use Rattle.js_pattern_positions.proofs.ChoicesLemmas.{bit_of-one}
use Rattle.js_pattern_positions.proofs.CopiesLemmas.{next_after-same}
use Rattle.js_pattern_positions.proofs.Through.{ends_repeated, reads_repeated}

-- ---- ones
pub flags_of-ones : (count : ℕ) → count ≤ 64 → flags_of (((2 ^ 64 - 1) / 2 ^ (64 - count)) ∷ []) count
    ≡ replicate count true
flags_of-ones count h =
    let back : 64 - (64 - count) ≡ count = omega (arith, h) in
    ap (λ x. flags_of (x ∷ []) count) (ones_shr 64 (64 - count) (omega arith) ∙ ap (λ k. 2 ^ k - 1) back)
    ∙ ext_get_or false _ _ (length-flags_of ((2 ^ count - 1) ∷ []) count ∙ sym (length-replicate count true))
    (λ p l. let within : p < count = rw length-flags_of at l in
    get_or-flags_of ((2 ^ count - 1) ∷ []) count p within
    ∙ bit_of-one (2 ^ count - 1) p (omega (arith, within, h))
    ∙ ap (λ x. eqb x 1) (bit_at_ones count p within)
    ∙ sym (get_or-replicate count p true false within))

pub ones-small : (count : ℕ) → 0 < count → count ≤ 64 → (2 ^ 64 - 1) / 2 ^ (64 - count) < 2 ^ count
ones-small count some h =
    let back : 64 - (64 - count) ≡ count = omega (arith, h) in
    let is : (2 ^ 64 - 1) / 2 ^ (64 - count) ≡ 2 ^ count - 1 =
    ones_shr 64 (64 - count) (omega arith) ∙ ap (λ k. 2 ^ k - 1) back in
    omega (arith, is, positive count)

pub replicate-next : (x : Bool) (flags after : List Bool) (part left : ℕ) → part ≤ left
    → after ≡ flags ++ replicate part x → after ++ replicate (left - part) x ≡ flags ++ replicate left x
replicate-next x flags after part left h e =
    let all : part + (left - part) ≡ left = omega (arith, h) in
    ap (λ z. z ++ replicate (left - part) x) e
    ∙ append_assoc flags (replicate part x) (replicate (left - part) x)
    ∙ ap (λ z. flags ++ z) (replicate-append-replicate part (left - part) x)
    ∙ ap (λ k. flags ++ replicate k x) all

-- ---- copies, one more gone through
pub options-all : (read : ℕ → Bool) (n base : ℕ) (here : Bool) → here ≡ true
    → options_begun read n base here ≡ replicate n true
options-all read n base here e = ap (options_begun read n base) e ∙ all read n base where
  all : (read : ℕ → Bool) (n base : ℕ) → options_begun read n base true ≡ replicate n true
  all read zero base = refl
  all read (suc n) base = ap (λ z. true ∷ z) (all read n (base + 1))

pub options-next : (read : ℕ → Bool) (left : ℕ) (flags after : List Bool) (here was : Bool) → 0 < left → here ≡ false
    → after ≡ flags ++ replicate 1 false → was ≡ read (length flags)
    → after ++ options_begun read (left - 1) (length after) was ≡ flags ++ options_begun read left (length flags) here
options-next read zero flags after here was some e f g = absurd (omega (arith, some))
options-next read (suc left) flags after here was some e f g =
    let less : suc left - 1 ≡ left = omega arith in
    let longer : length after ≡ length flags + 1 = ap length f ∙ length-append flags (false ∷ []) in
    ap (λ k. after ++ options_begun read k (length after) was) less
    ∙ ap (λ z. z ++ options_begun read left (length after) was) f
    ∙ append_assoc flags (false ∷ []) (options_begun read left (length after) was)
    ∙ ap₂ (λ k w. flags ++ false ∷ options_begun read left k w) longer g
    ∙ sym (ap (λ b. flags ++ options_begun read (suc left) (length flags) b) e)

-- ---- all copies
module _ (t : Tree) (c : ℕ) (within : Bool) (set : IsOptionThat within t c) (first : Bool) (read : ℕ → Bool)
    (low n : ℕ) where
  option-next : (at : ℕ) (b : Bool) → reads_next t first read c at b ≡ (b && within) ∷ []
  option-next at b =
      ap (λ s. reads_next s first read c at b) set.1 ∙ ap (λ w. (b && w) ∷ []) (sym set.2)

  option-one : (last : Bool) (at : ℕ) (b : Bool) → ends_here t first last read at b ≡ (b || read at)
  option-one last at b = ap (λ s. ends_here s first last read at b) set.1

  option-count : count_of t ≡ 1
  option-count = ap count_of set.1

  options-whole : (flags : List Bool) (begins : Bool)
      → next_after false (λ at some. (some && within) ∷ []) (λ at some. some || read at) 1 n (length flags) begins
      ≡ reads_next (repeated t low (Some n)) first read c (length flags) begins
  options-whole flags begins =
      sym (next_after-same false (λ at some. reads_next t first read c at some) (λ at some. (some && within) ∷ [])
      (λ at some. ends_here t first false read at some) (λ at some. some || read at) 1 option-next (option-one false) n
      (length flags) begins)
      ∙ ap (λ k. next_after false (λ at some. reads_next t first read c at some)
      (λ at some. ends_here t first false read at some) k n (length flags) begins) (sym option-count)
      ∙ reads_repeated first read c t low (Some n) (length flags) begins

  pub options-reads_some : (flags after : List Bool) (begins : Bool) → within ≡ true
      → after ≡ flags ++ options_begun read n (length flags) begins
      → after ≡ flags ++ reads_next (repeated t low (Some n)) first read c (length flags) begins
  options-reads_some flags after begins e f =
      f ∙ ap (λ z. flags ++ z)
      (sym (next_after-same false (λ at some. (some && within) ∷ []) (λ at some. some ∷ []) (λ at some. some || read at)
      (λ at some. some || read at) 1 (λ at b. ap (λ w. (b && w) ∷ []) e ∙ ap (λ x. x ∷ []) (and-true b))
      (λ at b. refl) n
      (length flags) begins)
      ∙ options-whole flags begins)

  pub options-reads_none : (flags after : List Bool) (begins : Bool) → within ≡ false
      → after ≡ flags ++ replicate n false
      → after ≡ flags ++ reads_next (repeated t low (Some n)) first read c (length flags) begins
  options-reads_none flags after begins e f =
      f ∙ ap (λ z. flags ++ z)
      (sym (next_after-none false (λ at some. some || read at) n (length flags) begins)
      ∙ sym (next_after-same false (λ at some. (some && within) ∷ []) (λ at some. false ∷ [])
      (λ at some. some || read at) (λ at some. some || read at) 1
      (λ at b. ap (λ w. (b && w) ∷ []) e ∙ ap (λ x. x ∷ []) (and-false b)) (λ at b. refl) n (length flags) begins)
      ∙ options-whole flags begins)

  -- what ends after a copy ends after each later one
  ends_after-options : (one : ℕ → Bool → Bool) → ((at : ℕ) (b : Bool) → one at b ≡ (b || read at))
      → (k i base : ℕ) (here ends : Bool) → ends ≡ (nat_le low i && here)
      → ends_after one 1 low k i base here ends ≡ (nat_le low (i + k) && (here || some_in read k base))
  ends_after-options one h zero i base here ends e =
      let still : i ≡ i + 0 = omega arith in
      e ∙ ap₂ (λ j x. nat_le low j && x) still (sym (or-false here))
  ends_after-options one h (suc k) i base here ends e =
      let next : suc i + k ≡ i + suc k = omega arith in
      ends_after-options one h k (suc i) (base + 1) (one base here) (ends || (nat_le low (suc i) && one base here))
      (ap₂ (λ x y. x || (nat_le low (suc i) && y)) e (h base here)
      ∙ later (nat_le low i) (nat_le low (suc i)) here (read base) (more low i)
      ∙ ap (λ y. nat_le low (suc i) && y) (sym (h base here)))
      ∙ ap₂ (λ j x. nat_le low j && (x || some_in read k (base + 1))) next (h base here)
      ∙ ap (λ x. nat_le low (i + suc k) && x) (or_assoc here (read base) (some_in read k (base + 1))) where
        more : (low i : ℕ) → nat_le low i ≡ true → nat_le low (suc i) ≡ true
        more low i e = le-leb low (suc i) (omega (arith, leb-true low i e))

        later : (x y here was : Bool) → (x ≡ true → y ≡ true)
            → ((x && here) || (y && (here || was))) ≡ (y && (here || was))
        later true true true was h = refl
        later true true false was h = refl
        later true false here was h = absurd (cc (h refl))
        later false y here was h = refl

  pub options-ends : (last : Bool) (base : ℕ) (begins : Bool)
      → (nat_le low n && (begins || some_in read n base))
      ≡ ends_here (repeated t low (Some n)) first last read base begins
  options-ends last base begins =
      let all : 0 + n ≡ n = omega arith in
      sym (ends_after-options (λ at some. ends_here t first last read at some) (option-one last) n 0 base begins
      (nat_le low 0 && begins) refl
      ∙ ap (λ j. nat_le low j && (begins || some_in read n base)) all)
      ∙ ap (λ k. ends_after (λ at some. ends_here t first last read at some) k low n 0 base begins
      (nat_le low 0 && begins))
      (sym option-count)
      ∙ ends_repeated first last read t low (Some n) base begins
