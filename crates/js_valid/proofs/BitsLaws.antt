-- Verdicts kept as the bits of words.
use Rattle.std.proofs.Common.{◌≡◌, ℕ, ◌+◌, ◌*◌, ◌/◌, ◌%◌, ◌^◌, ◌<◌, ◌≤◌, ◌≢◌, inl, inr, Bool, false, eqb, List, length, get_or, set, sym, ◌∙◌, ap, arith, ext_get_or, get_or-set_same, get_or-set_other}
use Rattle.std.specs.Prelude.{bit_and, slice_index}
use Rattle.std.specs.Int.{bit_at}
use Rattle.std.proofs.lemmas.Bool.{cases_eq}
use Rattle.std.proofs.lemmas.List.{get_or_read}
use Rattle.std.proofs.lemmas.List.FromFn.{length-map-range_with_len, get_or-map-range_with_len}
use Rattle.std.proofs.lemmas.Nat.Bits.{shr_and_one}
use Rattle.js_valid.specs.Bits.{bit_of, flags_of}
use Rattle.js_valid.specs.Parts.{flag}

pub length-flags_of : (words : List ℕ) (len : ℕ) → length (flags_of words len) ≡ len
unfolding flags_of
length-flags_of words len = length-map-range_with_len (bit_of words) 0 len

pub flag-flags_of : (words : List ℕ) (len p : ℕ) → p < len → flag (flags_of words len) p ≡ bit_of words p
unfolding flags_of
flag-flags_of words len p h = get_or-map-range_with_len (bit_of words) 0 len p p false h (omega arith)

-- the test `(word >> place) & 1 == 1`
pub bit_read : (words : List ℕ) (len p word : ℕ) → p < len → len ≤ 64 * length words
    → word ≡ get_or words (p / 64) word
    → eqb (bit_and (word / 2 ^ (p % 64)) 1) 1 ≡ flag (flags_of words len) p
bit_read words len p word within room read =
    ap (λ x. eqb x 1) (shr_and_one word (p % 64))
    ∙ ap (λ x. eqb (bit_at x (p % 64)) 1) (get_or_read words (p / 64) word (omega arith) read 0)
    ∙ sym (flag-flags_of words len p within)

-- one bit of one word
bit_of-set_same : (words : List ℕ) (n word : ℕ) → n < 64 * length words
    → bit_of (set words (n / 64) word) n ≡ eqb (bit_at word (n % 64)) 1
bit_of-set_same words n word h =
    ap (λ x. eqb (bit_at x (n % 64)) 1) (get_or-set_same words (n / 64) word 0 (omega arith))

bit_of-set_other : (words : List ℕ) (n p word : ℕ) → n < 64 * length words → p ≢ n
    → ((i : ℕ) → i < 64 → i ≢ n % 64 → bit_at word i ≡ bit_at (slice_index words (n / 64)) i)
    → bit_of (set words (n / 64) word) p ≡ bit_of words p
bit_of-set_other words n p word within apart h =
    elim (cases_eq (p / 64) (n / 64)) as (λ _. bit_of (set words (n / 64) word) p ≡ bit_of words p) [
      | inl row ↦
          ap (λ x. eqb (bit_at (get_or (set words (n / 64) word) x 0) (p % 64)) 1) row
          ∙ ap (λ x. eqb (bit_at x (p % 64)) 1) (get_or-set_same words (n / 64) word 0 (omega arith))
          ∙ ap (λ x. eqb x 1) (h (p % 64) (omega arith) (λ e. apart (omega (arith, e, row))))
          ∙ ap (λ x. eqb (bit_at (get_or words x 0) (p % 64)) 1) (sym row)
      | inr other ↦ ap (λ x. eqb (bit_at x (p % 64)) 1) (get_or-set_other words (n / 64) (p / 64) word 0 other)
    ]

-- the first n bits are those of the table
abbrev pub HasBits : List ℕ → List Bool → ℕ → Type 0
HasBits words table n = (k : ℕ) → k < n → bit_of words k ≡ flag table k

pub bits-more : (words : List ℕ) (table : List Bool) (n word : ℕ) (b : Bool) → n < 64 * length words
    → HasBits words table n → eqb (bit_at word (n % 64)) 1 ≡ b → b ≡ flag table n
    → ((i : ℕ) → i < 64 → i ≢ n % 64 → bit_at word i ≡ bit_at (slice_index words (n / 64)) i)
    → HasBits (set words (n / 64) word) table (n + 1)
bits-more words table n word b room has here is others k less =
    elim (cases_eq k n) as (λ _. bit_of (set words (n / 64) word) k ≡ flag table k) [
      | inl same ↦
          ap (bit_of (set words (n / 64) word)) same ∙ bit_of-set_same words n word room ∙ here ∙ is
          ∙ ap (flag table) (sym same)
      | inr other ↦
          bit_of-set_other words n k word room other others
          ∙ has k (omega (arith, less, other))
    ]

pub bits-all : (words : List ℕ) (table : List Bool) (n : ℕ) → length table ≤ n → HasBits words table n
    → flags_of words (length table) ≡ table
bits-all words table n end has =
    ext_get_or false _ _ (length-flags_of words (length table))
    (λ p l. let within : p < length table = rw length-flags_of at l in
    flag-flags_of words (length table) p within ∙ has p (omega (arith, within, end)))
