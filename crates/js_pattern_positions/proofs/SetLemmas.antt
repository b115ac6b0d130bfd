-- Sets of positions, word by word.
--
-- Key: `merged-step`, one more word of two sets makes the flags of 64 more positions.
use Rattle.std.proofs.Common.{◌≡◌, ℕ, zero, suc, ◌+◌, ◌-◌, ◌*◌, ◌/◌, ◌%◌, ◌^◌, ◌<◌, ◌≤◌, ◌≢◌, inl, inr, Bool, true, false, ◌&&◌, ◌||◌, eqb, List, [], ◌∷◌, length, get_or, set, min, max, refl, sym, ◌∙◌, ap, ap₂, arith, w64, ext_get_or, get_or-set_same, get_or-set_other, length-set}
use lib.Count.{count_trailing_zeros}
use Rattle.std.specs.Prelude.{bit_and, bit_or, slice_index}
use Rattle.std.specs.Int.{bit_at}
use Rattle.std.proofs.lemmas.Bool.{cases_lt}
use Rattle.std.proofs.lemmas.Nat.{and_le_l}
use Rattle.std.proofs.lemmas.Nat.Bits.{bit_at-zero, bit_at-trailing_zeros, same_from_bits_below, bit_at-lt, bit_at_or, bit_at_and}
use Rattle.std.proofs.Math.Bool.{or-false, or-true}
use Rattle.state_laws.specs.Flow.{flag_at}
use Rattle.state_laws.specs.FollowSets.{or_each, and_each}
use Rattle.state_laws.proofs.FollowSetsLemmas.{flags_join}
use Rattle.js_pattern_positions.specs.Marks.{Marks}
use Rattle.js_pattern_positions.specs.Bits.{bit_of, flags_of}
use Rattle.js_pattern_positions.specs.Both.{some_both}
use Rattle.js_pattern_positions.specs.Walk.{Quiet}
use Rattle.js_pattern_positions.proofs.FlagsLemmas.{flag_at-beyond}
use Rattle.js_pattern_positions.proofs.BitsLemmas.{NoBits, length-flags_of, flag_at-get_or, flag_at-bit}

-- ---- lists of flags
same_flags : (xs ys : List Bool) → length xs ≡ length ys → ((p : ℕ) → flag_at xs p ≡ flag_at ys p) → xs ≡ ys
same_flags xs ys e h = ext_get_or false xs ys e (λ p l. sym (flag_at-get_or xs p) ∙ h p ∙ flag_at-get_or ys p)

length-or_each : (xs ys : List Bool) → length (or_each xs ys) ≡ max (length xs) (length ys)
length-or_each [] ys = omega arith
length-or_each (x ∷ xs) [] = omega arith
length-or_each (x ∷ xs) (y ∷ ys) = omega (arith, length-or_each xs ys)

length-and_each : (xs ys : List Bool) → length (and_each xs ys) ≡ min (length xs) (length ys)
length-and_each [] ys = omega arith
length-and_each (x ∷ xs) [] = omega arith
length-and_each (x ∷ xs) (y ∷ ys) = omega (arith, length-and_each xs ys)

-- ---- a set as a contract sees it
pub length_seen : (words : List ℕ) (len : ℕ) (s : Marks)
    → record { flags = flags_of words len; room = 64 * length words } ≡ s → length s.flags ≡ len
length_seen words len s e = sym (ap (λ (s : Marks). length s.flags) e) ∙ length-flags_of words len

-- ---- one bit of two words
pub bit_of_or : (a b i : ℕ) → eqb (bit_at (bit_or a b) i) 1 ≡ (eqb (bit_at a i) 1 || eqb (bit_at b i) 1)
bit_of_or a b i =
    ap (λ x. eqb x 1) (bit_at_or a b i)
    ∙ either (bit_at a i) (bit_at b i) (bit_at-lt a i) (bit_at-lt b i) where
      either : (x y : ℕ) → x < 2 → y < 2 → eqb (max x y) 1 ≡ (eqb x 1 || eqb y 1)
      either zero zero lx ly = refl
      either zero (suc zero) lx ly = refl
      either (suc zero) zero lx ly = refl
      either (suc zero) (suc zero) lx ly = refl
      either (suc (suc x)) y lx ly = absurd (omega (arith, lx))
      either zero (suc (suc y)) lx ly = absurd (omega (arith, ly))
      either (suc zero) (suc (suc y)) lx ly = absurd (omega (arith, ly))

pub bit_of_and : (a b i : ℕ) → eqb (bit_at (bit_and a b) i) 1 ≡ (eqb (bit_at a i) 1 && eqb (bit_at b i) 1)
bit_of_and a b i =
    ap (λ x. eqb x 1) (bit_at_and a b i)
    ∙ both (bit_at a i) (bit_at b i) (bit_at-lt a i) (bit_at-lt b i) where
      both : (x y : ℕ) → x < 2 → y < 2 → eqb (min x y) 1 ≡ (eqb x 1 && eqb y 1)
      both zero zero lx ly = refl
      both zero (suc zero) lx ly = refl
      both (suc zero) zero lx ly = refl
      both (suc zero) (suc zero) lx ly = refl
      both (suc (suc x)) y lx ly = absurd (omega (arith, lx))
      both zero (suc (suc y)) lx ly = absurd (omega (arith, ly))
      both (suc zero) (suc (suc y)) lx ly = absurd (omega (arith, ly))

-- ---- a word of a set
abbrev pub HasBits : (word from count : ℕ) → (read : ℕ → Bool) → Type 0
HasBits word from count read = (i : ℕ) → i < count → eqb (bit_at word i) 1 ≡ read (from + i)

abbrev pub IsWord : ℕ → List Bool → ℕ → Type 0
IsWord word flags index = HasBits word (64 * index) 64 (flag_at flags)

module _ (words : List ℕ) (len top : ℕ) (below : top ≤ len) (none : NoBits words top) where
  pub word-read : (index word : ℕ) → word ≡ slice_index words index → IsWord word (flags_of words len) index
  word-read index word read i l =
      let row : index ≡ (64 * index + i) / 64 = omega (arith, l) in
      let place : i ≡ (64 * index + i) % 64 = omega (arith, l) in
      ap (λ w. eqb (bit_at w i) 1) read
      ∙ ap₂ (λ q r. eqb (bit_at (slice_index words q) r) 1) row place
      ∙ sym (flag_at-bit words len top below none (64 * index + i))

  pub word-past : (index : ℕ) → length words ≤ index → IsWord 0 (flags_of words len) index
  word-past index past = word-read index 0 (sym (beyond words index past)) where
    beyond : (ws : List ℕ) (k : ℕ) → length ws ≤ k → slice_index ws k ≡ 0
    beyond [] k h = refl
    beyond (w ∷ ws) zero h = absurd (omega (arith, h))
    beyond (w ∷ ws) (suc k) h = beyond ws k (omega (arith, h))

-- ---- the words of a set changed by those of another
abbrev pub Merged : (both : Bool → Bool → Bool) (old new : List ℕ) (flags : List Bool) (index : ℕ) → Type 0
Merged both old new flags index =
    (length new ≡ length old)
    × ((p : ℕ) → p < 64 * index → bit_of new p ≡ both (bit_of old p) (flag_at flags p))
    × ((p : ℕ) → 64 * index ≤ p → bit_of new p ≡ bit_of old p)

bit_of-same_word : (words : List ℕ) (index word p : ℕ) → index < length words → p / 64 ≡ index
    → bit_of (set words index word) p ≡ eqb (bit_at word (p % 64)) 1
bit_of-same_word words index word p within row =
    ap (λ x. eqb (bit_at (get_or (set words index word) x 0) (p % 64)) 1) row
    ∙ ap (λ x. eqb (bit_at x (p % 64)) 1) (get_or-set_same words index word 0 within)

bit_of-other_word : (words : List ℕ) (index word p : ℕ) → p / 64 ≢ index
    → bit_of (set words index word) p ≡ bit_of words p
bit_of-other_word words index word p other =
    ap (λ x. eqb (bit_at x (p % 64)) 1) (get_or-set_other words index (p / 64) word 0 other)

module _ (one : ℕ → ℕ → ℕ) (both : Bool → Bool → Bool)
    (each : (a b i : ℕ) → eqb (bit_at (one a b) i) 1 ≡ both (eqb (bit_at a i) 1) (eqb (bit_at b i) 1)) where
  pub merged-step : (old new : List ℕ) (flags : List Bool) (index word : ℕ) → index < length new
      → IsWord word flags index → Merged both old new flags index
      → Merged both old (set new index (one (slice_index new index) word)) flags (index + 1)
  merged-step old new flags index word within w (size, before, after) = (
    length-set new index _ ∙ size,
    (λ p l. elim (cases_lt p (64 * index)) as (λ _. bit_of next p ≡ both (bit_of old p) (flag_at flags p)) [
      | inl low ↦ elsewhere p (λ e. omega (arith, e, low)) ∙ before p low
      | inr high ↦ here p (omega (arith, l, high)) high
    ]),
    (λ p h. elsewhere p (λ e. omega (arith, e, h)) ∙ after p (omega (arith, h))),
  ) where
    next : List ℕ
    next = set new index (one (slice_index new index) word)

    elsewhere : (p : ℕ) → p / 64 ≢ index → bit_of next p ≡ bit_of new p
    elsewhere p other = bit_of-other_word new index (one (slice_index new index) word) p other

    here : (p : ℕ) → p / 64 ≡ index → 64 * index ≤ p → bit_of next p ≡ both (bit_of old p) (flag_at flags p)
    here p row high =
        let place : 64 * index + p % 64 ≡ p = omega (arith, row) in
        bit_of-same_word new index (one (slice_index new index) word) p within row
        ∙ each (slice_index new index) word (p % 64)
        ∙ ap₂ both
        (ap (λ k. eqb (bit_at (slice_index new k) (p % 64)) 1) (sym row) ∙ after p high)
        (w (p % 64) (omega arith) ∙ ap (flag_at flags) place)

-- no bit is set in the words that were changed, from one of them on
abbrev pub NoneBetween : (words : List ℕ) (used index : ℕ) → Type 0
NoneBetween words used index = (p : ℕ) → 64 * used ≤ p → p < 64 * index → bit_of words p ≡ false

pub none_between-step : (words : List ℕ) (used index word : ℕ) → index < length words → word ≡ 0
    → NoneBetween words used index → NoneBetween (set words index word) used (index + 1)
none_between-step words used index word within e none p h l =
    elim (cases_lt p (64 * index)) as (λ _. bit_of (set words index word) p ≡ false) [
      | inl low ↦ bit_of-other_word words index word p (λ r. omega (arith, r, low)) ∙ none p h low
      | inr high ↦
          bit_of-same_word words index word p within (omega (arith, high, l))
          ∙ ap (λ w. eqb (bit_at w (p % 64)) 1) e
          ∙ ap (λ x. eqb x 1) (bit_at-zero (p % 64))
    ]

abbrev pub Joined : (old new : List ℕ) (flags : List Bool) (index : ℕ) → Type 0
Joined = Merged (λ a b. a || b)

abbrev pub Met : (old new : List ℕ) (flags : List Bool) (index : ℕ) → Type 0
Met = Merged (λ a b. a && b)

module _ (old new : List ℕ) (flags : List Bool) (len top count index : ℕ) (below : top ≤ len) (none : NoBits old top)
    (ended : count ≤ index) where
  module _ (last : ℕ) (quiet : Quiet (flag_at flags) (64 * count)) (past : Quiet (flag_at flags) last)
      (joined : Joined old new flags index) where
    joined-bit : (p : ℕ) → bit_of new p ≡ (bit_of old p || flag_at flags p)
    joined-bit p = elim (cases_lt p (64 * index)) as (λ _. bit_of new p ≡ (bit_of old p || flag_at flags p)) [
      | inl low ↦ joined.1 p low
      | inr high ↦
          joined.2 p high
          ∙ sym (or-false (bit_of old p))
          ∙ ap (λ x. bit_of old p || x) (sym (quiet p (omega (arith, high, ended))))
    ]

    pub no_bits-joined : NoBits new (max top last)
    no_bits-joined p h =
        joined-bit p ∙ ap₂ (λ x y. x || y) (none p (omega (arith, h))) (past p (omega (arith, h)))

    pub flags_of-joined : (m : ℕ) → m ≡ max len (length flags) → last ≤ length flags
        → flags_of new m ≡ or_each (flags_of old len) flags
    flags_of-joined m e within =
        same_flags _ _
        (length-flags_of new m ∙ omega (arith, e, length-or_each (flags_of old len) flags, length-flags_of old len))
        (λ p. flag_at-bit new m (max top last) (omega (arith, e, below, within)) no_bits-joined p
        ∙ joined-bit p
        ∙ ap (λ x. x || flag_at flags p) (sym (flag_at-bit old len top below none p))
        ∙ sym ((flags_join (flags_of old len) flags p).0))

  module _ (quiet : Quiet (flag_at (flags_of old len)) (64 * count)) (met : Met old new flags index) where
    met-bit : (p : ℕ) → bit_of new p ≡ (bit_of old p && flag_at flags p)
    met-bit p = elim (cases_lt p (64 * index)) as (λ _. bit_of new p ≡ (bit_of old p && flag_at flags p)) [
      | inl low ↦ met.1 p low
      | inr high ↦
          let empty = sym (flag_at-bit old len top below none p) ∙ quiet p (omega (arith, high, ended)) in
          met.2 p high ∙ empty ∙ ap (λ x. x && flag_at flags p) (sym empty)
    ]

    no_bits-met : NoBits new top
    no_bits-met p h = met-bit p ∙ ap (λ x. x && flag_at flags p) (none p h)

    pub no_bits-used : (used low : ℕ) → NoneBetween new used index → low ≡ min top (64 * used) → NoBits new low
    no_bits-used used low between e p h = elim (cases_lt p top) as (λ _. bit_of new p ≡ false) [
      | inr high ↦ no_bits-met p high
      | inl within ↦ elim (cases_lt p (64 * index)) as (λ _. bit_of new p ≡ false) [
        | inl before ↦ between p (omega (arith, e, h, within)) before
        | inr after ↦
            met.2 p after
            ∙ sym (flag_at-bit old len top below none p)
            ∙ quiet p (omega (arith, after, ended))
      ]
    ]

    pub flags_of-met : len ≡ length flags → flags_of new len ≡ and_each (flags_of old len) flags
    flags_of-met e =
        same_flags _ _
        (length-flags_of new len ∙ omega (arith, e, length-and_each (flags_of old len) flags, length-flags_of old len))
        (λ p. flag_at-bit new len top below no_bits-met p
        ∙ met-bit p
        ∙ ap (λ x. x && flag_at flags p) (sym (flag_at-bit old len top below none p))
        ∙ sym ((flags_join (flags_of old len) flags p).1))

-- ---- the first bit of a word
module _ (word from count : ℕ) (read : ℕ → Bool) (bits : HasBits word from count read) where
  from_place : (p : ℕ) → from ≤ p → p < from + count → eqb (bit_at word (p - from)) 1 ≡ read p
  from_place p h l =
      let back : from + (p - from) ≡ p = omega (arith, h) in
      bits (p - from) (omega (arith, h, l)) ∙ ap read back

  pub none_in_word : word ≡ 0 → (p : ℕ) → from ≤ p → p < from + count → read p ≡ false
  none_in_word e p h l =
      sym (from_place p h l)
      ∙ ap (λ w. eqb (bit_at w (p - from)) 1) e
      ∙ ap (λ x. eqb x 1) (bit_at-zero (p - from))

  module _ (some : 0 < word) (fits : word < 2 ^ 64) (above : (i : ℕ) → count ≤ i → bit_at word i ≡ 0) where
    first_within : count_trailing_zeros 64 word < count
    first_within = elim (cases_lt (count_trailing_zeros 64 word) count) as (λ _. count_trailing_zeros 64 word < count) [
      | inl l ↦ l
      | inr h ↦
          absurd (omega (arith, (bit_at-trailing_zeros w64 word some fits).1, above (count_trailing_zeros 64 word) h))
    ]

    pub first_in_word : read (from + count_trailing_zeros 64 word) ≡ true
    first_in_word =
        sym (bits (count_trailing_zeros 64 word) first_within)
        ∙ ap (λ x. eqb x 1) ((bit_at-trailing_zeros w64 word some fits).1)

-- ---- positions in both of two sets
abbrev pub InBoth : (xs ys : List Bool) → ℕ → Bool
InBoth xs ys p = flag_at xs p && flag_at ys p

both_first : (a b : Bool) → (a && b) ≡ true → a ≡ true
both_first true b e = refl
both_first false b e = e

both_kept : (a b : Bool) → (a && b) ≡ a → a ≡ true → b ≡ true
both_kept true b e f = e
both_kept false b e f = absurd (cc f)

pub flag-within : (xs : List Bool) (p : ℕ) → flag_at xs p ≡ true → p < length xs
flag-within xs p e = elim (cases_lt p (length xs)) as (λ _. p < length xs) [
  | inl l ↦ l
  | inr h ↦ absurd (cc (sym e ∙ flag_at-beyond xs p h))
]

pub both-within : (xs ys : List Bool) (p : ℕ) → InBoth xs ys p ≡ true → p < length xs
both-within xs ys p e = flag-within xs p (both_first (flag_at xs p) (flag_at ys p) e)

pub some_both-true : (ours theirs : ℕ → Bool) (n p : ℕ) → p < n → (ours p && theirs p) ≡ true
    → true ≡ some_both ours theirs n
some_both-true ours theirs zero p l e = absurd (omega (arith, l))
some_both-true ours theirs (suc n) p l e = elim (cases_lt p n) as (λ _. true ≡ some_both ours theirs (suc n)) [
  | inl low ↦ ap (λ x. x || (ours n && theirs n)) (some_both-true ours theirs n p low e)
  | inr high ↦
      let here : p ≡ n = omega (arith, l, high) in
      sym (or-true (some_both ours theirs n))
      ∙ ap (λ x. some_both ours theirs n || x) (sym e ∙ ap (λ k. ours k && theirs k) here)
]

pub some_both-false : (ours theirs : ℕ → Bool) (n : ℕ) → ((p : ℕ) → p < n → (ours p && theirs p) ≡ false)
    → false ≡ some_both ours theirs n
some_both-false ours theirs zero h = refl
some_both-false ours theirs (suc n) h =
    ap₂ (λ x y. x || y) (some_both-false ours theirs n (λ p l. h p (omega (arith, l)))) (sym (h n (omega arith)))

module _ (a b index : ℕ) (xs ys : List Bool) (ours : IsWord a xs index) (theirs : IsWord b ys index) where
  pub both_words : HasBits (bit_and a b) (64 * index) 64 (InBoth xs ys)
  both_words i l = bit_of_and a b i ∙ ap₂ (λ x y. x && y) (ours i l) (theirs i l)

  -- a word within another is what it has in common with that one
  pub within_word : a < 2 ^ 64 → ((p : ℕ) → flag_at xs p ≡ true → flag_at ys p ≡ true) → bit_and a b ≡ a
  within_word fits h =
      same_from_bits_below 64 (bit_and a b) a (omega (arith, fits, and_le_l a b)) fits
      (λ i l. bit_at_and a b i
      ∙ least (bit_at a i) (bit_at b i) (bit_at-lt a i) (bit_at-lt b i)
      (λ e. theirs i l ∙ h (64 * index + i) (sym (ours i l) ∙ e))) where
        least : (x y : ℕ) → x < 2 → y < 2 → (eqb x 1 ≡ true → eqb y 1 ≡ true) → min x y ≡ x
        least zero y lx ly h = omega arith
        least (suc zero) zero lx ly h = absurd (cc (h refl))
        least (suc zero) (suc y) lx ly h = omega arith
        least (suc (suc x)) y lx ly h = absurd (omega (arith, lx))

  pub within_flags : bit_and a b ≡ a → (p : ℕ) → 64 * index ≤ p → p < 64 * index + 64
      → flag_at xs p ≡ true → flag_at ys p ≡ true
  within_flags e p h l =
      both_kept (flag_at xs p) (flag_at ys p)
      (sym (from_place (bit_and a b) (64 * index) 64 (InBoth xs ys) both_words p h l)
      ∙ ap (λ w. eqb (bit_at w (p - 64 * index)) 1) e
      ∙ from_place a (64 * index) 64 (flag_at xs) ours p h l)
