-- Words of positions, as they are fed to a hasher.
--
-- Key: `is_word`, a word is determined by the positions whose bits it has; `fed-all`, words past the last position feed
-- nothing, so that it doesn't matter how many are looked at.
use Rattle.std.proofs.Common.{◌≡◌, ℕ, zero, suc, ◌+◌, ◌*◌, ◌/◌, ◌%◌, ◌^◌, ◌<◌, ◌≤◌, ◌≢◌, inl, inr, Bool, true, false, ◌||◌, eqb, ne_eqb, List, [], ◌∷◌, ◌++◌, if◌then◌else◌, refl, sym, ◌∙◌, ap, ap₂, append-nil, arith}
use Rattle.std.specs.Int.{bit_at}
use Rattle.std.specs.List.{fold}
use Rattle.std.specs.Hash as fed
use Rattle.std.proofs.lemmas.Bool.{cases_lt}
use Rattle.std.proofs.lemmas.List.Sums.{fold-append}
use Rattle.std.proofs.lemmas.Nat.Bits.{bit_at-lt, bit_at-suc, bit_at_lowest, same_from_bits_below}
use Rattle.word_states.specs.PatternState.{numbers_from}
use Rattle.state_laws.specs.Flow.{flag_at, is_among}
use Rattle.js_nfa.specs.Fed.{word_from, word_at, word_count, fed_word, fed_words, fed_places}
use Rattle.js_pattern_positions.specs.Walk.{Quiet}
use Rattle.js_pattern_positions.proofs.FlagsLemmas.{among-flag}
use Rattle.js_pattern_positions.proofs.BitsLemmas.{same_bit}
use Rattle.js_pattern_positions.proofs.SetLemmas.{HasBits, IsWord}

-- ---- a word by its bits
word-bits : (ps : List ℕ) (place n : ℕ) → HasBits (word_from ps place n) place n (is_among ps)
word-bits ps place zero i l = absurd (omega (arith, l))
word-bits ps place (suc n) zero l =
    let here : place ≡ place + 0 = omega arith in
    ap (λ x. eqb x 1) (bit_at_lowest (word_from ps place (suc n)))
    ∙ lowest (is_among ps place) (word_from ps (suc place) n)
    ∙ ap (is_among ps) here where
      lowest : (b : Bool) (w : ℕ) → eqb (((if b then 1 else 0) + 2 * w) % 2) 1 ≡ b
      lowest true w = let odd : (1 + 2 * w) % 2 ≡ 1 = omega arith in ap (λ x. eqb x 1) odd
      lowest false w = let even : (0 + 2 * w) % 2 ≡ 0 = omega arith in ap (λ x. eqb x 1) even
word-bits ps place (suc n) (suc i) l =
    let next : suc place + i ≡ place + suc i = omega arith in
    ap (λ x. eqb x 1)
    (bit_at-suc (word_from ps place (suc n)) i
    ∙ ap (λ w. bit_at w i) (half (is_among ps place) (word_from ps (suc place) n)))
    ∙ word-bits ps (suc place) n i (omega (arith, l))
    ∙ ap (is_among ps) next where
      half : (b : Bool) (w : ℕ) → ((if b then 1 else 0) + 2 * w) / 2 ≡ w
      half true w = omega arith
      half false w = omega arith

word-small : (ps : List ℕ) (place n : ℕ) → word_from ps place n < 2 ^ n
word-small ps place zero = omega arith
word-small ps place (suc n) = small (is_among ps place) (word_from ps (suc place) n) (word-small ps (suc place) n) where
  small : (b : Bool) (w : ℕ) → w < 2 ^ n → (if b then 1 else 0) + 2 * w < 2 ^ suc n
  small true w l = omega (arith, l)
  small false w l = omega (arith, l)

word-none : (ps : List ℕ) (place n : ℕ) → ((i : ℕ) → i < n → is_among ps (place + i) ≡ false)
    → word_from ps place n ≡ 0
word-none ps place zero h = refl
word-none ps place (suc n) h =
    let here : place ≡ place + 0 = omega arith in
    let next : (i : ℕ) → suc place + i ≡ place + suc i = λ i. omega arith in
    ap₂ (λ b w. (if b then 1 else 0) + 2 * w) (ap (is_among ps) here ∙ h 0 (omega arith))
    (word-none ps (suc place) n (λ i l. ap (is_among ps) (next i) ∙ h (suc i) (omega (arith, l))))

-- a word is determined by the positions whose bits it has
pub is_word : (flags : List Bool) (k word : ℕ) → IsWord word flags k → word < 2 ^ 64
    → word ≡ word_at (numbers_from 0 flags) k
unfolding word_at
is_word flags k word bits small =
    let ps = numbers_from 0 flags in
    let own = word_from ps (64 * k) 64 in
    same_from_bits_below 64 word own small (word-small ps (64 * k) 64)
    (λ i l. same_bit (bit_at word i) (bit_at own i) (bit_at-lt word i) (bit_at-lt own i)
    (bits i l ∙ sym (among-flag flags (64 * k + i)) ∙ sym (word-bits ps (64 * k) 64 i l)))

-- ---- one more word is fed
module _ {S : Type 0} (write : S → List ℕ → S) where
  pub feed-word : (s t u : S) (k word : ℕ) → word ≢ 0 → t ≡ fold write s (fed.usize k)
      → u ≡ fold write t (fed.u64 word) → u ≡ fold write s (fed_word k word)
  feed-word s t u k word some e f =
      f ∙ ap (λ z. fold write z (fed.u64 word)) e
      ∙ sym (fold-append write s (fed.usize k) (fed.u64 word))
      ∙ sym (ap (λ b. fold write s (if b then [] else fed.usize k ++ fed.u64 word)) (ne_eqb word 0 some))

  pub skip-word : (s u : S) (k word : ℕ) → word ≡ 0 → u ≡ s → u ≡ fold write s (fed_word k word)
  skip-word s u k word none e = e ∙ sym (ap (λ w. fold write s (fed_word k w)) none)

  pub fed-more : (start s u : S) (ps : List ℕ) (k word : ℕ) → word ≡ word_at ps k
      → s ≡ fold write start (fed_words ps k) → u ≡ fold write s (fed_word k word)
      → u ≡ fold write start (fed_words ps (k + 1))
  fed-more start s u ps k word own e f =
      let more : suc k ≡ k + 1 = omega arith in
      f ∙ ap (λ z. fold write z (fed_word k word)) e
      ∙ sym (fold-append write start (fed_words ps k) (fed_word k word))
      ∙ ap (λ w. fold write start (fed_words ps k ++ fed_word k w)) own
      ∙ ap (λ j. fold write start (fed_words ps j)) more

-- ---- words past the last position
abbrev HasNoneFrom : List ℕ → ℕ → Type 0
HasNoneFrom ps n = (k : ℕ) → n ≤ k → word_at ps k ≡ 0

none-further : (ps : List ℕ) (m n : ℕ) → HasNoneFrom ps m → m ≤ n → fed_words ps n ≡ fed_words ps m
none-further ps m zero none l = let same : zero ≡ m = omega (arith, l) in ap (fed_words ps) same
none-further ps m (suc n) none l = elim (cases_lt n m) as (λ _. fed_words ps (suc n) ≡ fed_words ps m) [
  | inl low ↦ let same : suc n ≡ m = omega (arith, l, low) in ap (fed_words ps) same
  | inr high ↦
      ap (λ w. fed_words ps n ++ fed_word n w) (none n high)
      ∙ append-nil (fed_words ps n) ∙ none-further ps m n none high
]

past : (ps : List ℕ) (p : ℕ) → word_count ps ≤ p / 64 → is_among ps p ≡ false
past [] p h = refl
past (q ∷ ps) p h =
    ap₂ (λ x y. x || y) (ne_eqb p q (λ e. omega (arith, e, h))) (past ps p (omega (arith, h)))

none-counted : (ps : List ℕ) → HasNoneFrom ps (word_count ps)
unfolding word_at
none-counted ps k h = word-none ps (64 * k) 64 (λ i l. past ps (64 * k + i) (omega (arith, h, l)))

none-quiet : (flags : List Bool) (n : ℕ) → Quiet (flag_at flags) (64 * n) → HasNoneFrom (numbers_from 0 flags) n
unfolding word_at
none-quiet flags n quiet k h =
    word-none (numbers_from 0 flags) (64 * k) 64
    (λ i l. among-flag flags (64 * k + i) ∙ quiet (64 * k + i) (omega (arith, h)))

-- what is fed of enough words is what is fed of the positions
pub fed-all : (flags : List Bool) (n : ℕ) → Quiet (flag_at flags) (64 * n)
    → fed_words (numbers_from 0 flags) n ≡ fed_places (numbers_from 0 flags)
fed-all flags n quiet =
    let ps = numbers_from 0 flags in
    elim (cases_lt n (word_count ps)) as (λ _. fed_words ps n ≡ fed_places ps) [
      | inl low ↦ sym (none-further ps n (word_count ps) (none-quiet flags n quiet) (omega (arith, low)))
      | inr high ↦ none-further ps (word_count ps) n (none-counted ps) high
    ]
