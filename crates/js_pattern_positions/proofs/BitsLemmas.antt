-- Flags kept as the bits of words.
--
-- Key: `flags_of-push`, one more flag is one bit of one word.
use Rattle.std.proofs.Common.{◌≡◌, ℕ, zero, suc, ◌+◌, ◌-◌, ◌*◌, ◌/◌, ◌%◌, ◌^◌, ◌<◌, ◌≤◌, ◌≢◌, inl, inr, Bool, true, false, if◌then◌else◌, eqb, List, [], ◌∷◌, ◌++◌, length, replicate, get_or, set, max, refl, sym, ◌∙◌, ap, ap₂, arith, ext_get_or, get_or-set_same, get_or-set_other, append-nil, append_assoc}
use mir.Val.{bool_byte}
use Rattle.std.specs.Prelude.{bit_and, bit_or, slice_index}
use Rattle.std.specs.Int.{bit_at}
use Rattle.std.proofs.lemmas.Bool.{cases_eq, cases_lt}
use Rattle.std.proofs.lemmas.List.{length-replicate, get_or-replicate, get_or_read}
use Rattle.std.proofs.lemmas.List.FromFn.{length-map-range_with_len, get_or-map-range_with_len, map-range_with_len_more}
use Rattle.std.proofs.lemmas.Nat.{and_mask, div-add-mod', mod_below, shl_below}
use Rattle.std.proofs.Math.Pow.{pow_mono}
use Rattle.std.proofs.lemmas.Nat.Bits.{shr_and_one, bit_at-zero, bit_at-lt, bit_at_or, bit_at_above, bit_at_cat_low, bit_at_cat_high, ones_shr}
use Rattle.state_laws.specs.Flow.{flag_at}
use Rattle.js_pattern_positions.specs.Marks.{Marks}
use Rattle.js_pattern_positions.specs.Bits.{bit_of, flags_of}
use Rattle.js_pattern_positions.specs.Walk.{Quiet}
use Rattle.js_pattern_positions.proofs.FlagsLemmas.{flag_at-beyond}

-- ---- length and flags
pub length-flags_of : (words : List ℕ) (len : ℕ) → length (flags_of words len) ≡ len
unfolding flags_of
length-flags_of words len = length-map-range_with_len (bit_of words) 0 len

pub flag_at-get_or : (xs : List Bool) (p : ℕ) → flag_at xs p ≡ get_or xs p false
flag_at-get_or [] p = refl
flag_at-get_or (b ∷ bs) zero = refl
flag_at-get_or (b ∷ bs) (suc p) = flag_at-get_or bs p

pub get_or-flags_of : (words : List ℕ) (len p : ℕ) → p < len → get_or (flags_of words len) p false ≡ bit_of words p
unfolding flags_of
get_or-flags_of words len p h = get_or-map-range_with_len (bit_of words) 0 len p p false h (omega arith)

pub flag_at-flags_of : (words : List ℕ) (len p : ℕ) → p < len → flag_at (flags_of words len) p ≡ bit_of words p
flag_at-flags_of words len p h = flag_at-get_or (flags_of words len) p ∙ get_or-flags_of words len p h

pub flags_of-none : (words : List ℕ) → flags_of words 0 ≡ []
unfolding flags_of
flags_of-none words = refl

pub flags_of-more : (words : List ℕ) (len : ℕ) → flags_of words (len + 1) ≡ flags_of words len ++ bit_of words len ∷ []
unfolding flags_of
flags_of-more words len = map-range_with_len_more (bit_of words) 0 len len (omega arith)

-- ---- equal flags
pub flags_of-same : (xs ys : List ℕ) (len : ℕ) → ((p : ℕ) → p < len → bit_of xs p ≡ bit_of ys p)
    → flags_of xs len ≡ flags_of ys len
flags_of-same xs ys len h =
    ext_get_or false _ _ (length-flags_of xs len ∙ sym (length-flags_of ys len))
    (λ p l. let within : p < len = rw length-flags_of at l in
    get_or-flags_of xs len p within ∙ h p within ∙ sym (get_or-flags_of ys len p within))

-- the test `(word >> place) & 1 == 1`
pub bit_read : (words : List ℕ) (len p word : ℕ) → p < len → len ≤ 64 * length words
    → word ≡ get_or words (p / 64) word
    → eqb (bit_and (word / 2 ^ (p % 64)) 1) 1 ≡ flag_at (flags_of words len) p
bit_read words len p word within room read =
    ap (λ x. eqb x 1) (shr_and_one word (p % 64))
    ∙ ap (λ x. eqb (bit_at x (p % 64)) 1) (get_or_read words (p / 64) word (omega arith) read 0)
    ∙ sym (flag_at-flags_of words len p within)

-- ---- words of zeros
pub flags_of-zeros : (n len : ℕ) → len ≤ 64 * n → flags_of (replicate n 0) len ≡ replicate len false
flags_of-zeros n len room =
    ext_get_or false _ _ (length-flags_of _ len ∙ sym (length-replicate len false))
    (λ p l. let within : p < len = rw length-flags_of at l in
    get_or-flags_of (replicate n 0) len p within
    ∙ ap (λ x. eqb (bit_at x (p % 64)) 1) (get_or-replicate n (p / 64) 0 0 (omega arith))
    ∙ ap (λ x. eqb x 1) (bit_at-zero (p % 64))
    ∙ sym (get_or-replicate len p false false within))

-- ---- one bit of one word
pub bit_of-set_same : (words : List ℕ) (n word : ℕ) → n < 64 * length words
    → bit_of (set words (n / 64) word) n ≡ eqb (bit_at word (n % 64)) 1
bit_of-set_same words n word h =
    ap (λ x. eqb (bit_at x (n % 64)) 1) (get_or-set_same words (n / 64) word 0 (omega arith))

pub bit_of-set_other : (words : List ℕ) (n p word : ℕ) → n < 64 * length words → p ≢ n
    → ((i : ℕ) → i < 64 → i ≢ n % 64 → bit_at word i ≡ bit_at (slice_index words (n / 64)) i)
    → bit_of (set words (n / 64) word) p ≡ bit_of words p
bit_of-set_other words n p word within apart h =
    elim (cases_eq (p / 64) (n / 64)) as (λ _. bit_of (set words (n / 64) word) p ≡ bit_of words p) [
      | inl row ↦
          ap (λ x. eqb (bit_at (get_or (set words (n / 64) word) x 0) (p % 64)) 1) row
          ∙ ap (λ x. eqb (bit_at x (p % 64)) 1) (get_or-set_same words (n / 64) word 0 (omega arith))
          ∙ ap (λ x. eqb x 1) (h (p % 64) (omega arith) (λ e. apart (omega (arith, e, row))))
          ∙ ap (λ x. eqb (bit_at (get_or words x 0) (p % 64)) 1) (sym row)
      | inr other ↦ ap (λ x. eqb (bit_at x (p % 64)) 1) (get_or-set_other words (n / 64) (p / 64) word 0 other)
    ]

pub flags_of-push : (words : List ℕ) (len word : ℕ) (flag : Bool) → len < 64 * length words
    → eqb (bit_at word (len % 64)) 1 ≡ flag
    → ((i : ℕ) → i < 64 → i ≢ len % 64 → bit_at word i ≡ bit_at (slice_index words (len / 64)) i)
    → flags_of (set words (len / 64) word) (len + 1) ≡ flags_of words len ++ flag ∷ []
flags_of-push words len word flag room here others =
    flags_of-more _ len
    ∙ ap₂ (λ fs f. fs ++ f ∷ [])
    (flags_of-same _ words len (λ p l. bit_of-set_other words len p word room (omega arith) others))
    (bit_of-set_same words len word room ∙ here)

-- ---- a set as a contract sees it
pub has_room : (words : List ℕ) (len : ℕ) (s : Marks)
    → record { flags = flags_of words len; room = 64 * length words } ≡ s
    → length s.flags < s.room → len < 64 * length words
has_room words len s e h =
    omega (arith, length-flags_of words len, ap (λ (s : Marks). length s.flags) e, ap Marks.room e, h)

-- ---- one bit
pub same_bit : (x y : ℕ) → x < 2 → y < 2 → eqb x 1 ≡ eqb y 1 → x ≡ y
same_bit zero zero lx ly e = refl
same_bit zero (suc zero) lx ly e = absurd (cc e)
same_bit zero (suc (suc y)) lx ly e = absurd (omega (arith, ly))
same_bit (suc zero) zero lx ly e = absurd (cc e)
same_bit (suc zero) (suc zero) lx ly e = refl
same_bit (suc zero) (suc (suc y)) lx ly e = absurd (omega (arith, ly))
same_bit (suc (suc x)) y lx ly e = absurd (omega (arith, lx))

-- ---- bits that aren't set
abbrev pub NoBits : List ℕ → ℕ → Type 0
NoBits words top = (p : ℕ) → top ≤ p → bit_of words p ≡ false

pub no_bits-zeros : (n : ℕ) → NoBits (replicate n 0) 0
no_bits-zeros n p h =
    ap (λ x. eqb (bit_at x (p % 64)) 1) (get_or-zeros n (p / 64))
    ∙ ap (λ x. eqb x 1) (bit_at-zero (p % 64)) where
      get_or-zeros : (n k : ℕ) → slice_index (replicate n 0) k ≡ 0
      get_or-zeros zero k = refl
      get_or-zeros (suc n) zero = refl
      get_or-zeros (suc n) (suc k) = get_or-zeros n k

pub no_bits-push : (words : List ℕ) (len top word : ℕ) (flag : Bool) → len < 64 * length words → top ≤ len
    → eqb (bit_at word (len % 64)) 1 ≡ flag
    → ((i : ℕ) → i < 64 → i ≢ len % 64 → bit_at word i ≡ bit_at (slice_index words (len / 64)) i)
    → NoBits words top → NoBits (set words (len / 64) word) (if flag then len + 1 else top)
no_bits-push words len top word true room below here others none p h =
    bit_of-set_other words len p word room (λ e. omega (arith, e, h)) others ∙ none p (omega (arith, h, below))
no_bits-push words len top word false room below here others none p h =
    elim (cases_eq p len) as (λ _. bit_of (set words (len / 64) word) p ≡ false) [
      | inl now ↦ ap (bit_of (set words (len / 64) word)) now ∙ bit_of-set_same words len word room ∙ here
      | inr other ↦ bit_of-set_other words len p word room other others ∙ none p h
    ]

pub top-raised : (flag : Bool) (len top one new : ℕ) → top ≤ len → one ≡ bool_byte flag
    → new ≡ max top ((len + 1) * one) → new ≡ (if flag then len + 1 else top)
top-raised true len top one new h e f =
    let g : new ≡ max top ((len + 1) * 1) = f ∙ ap (λ k. max top ((len + 1) * k)) e in
    omega (arith, g, h)
top-raised false len top one new h e f =
    let g : new ≡ max top ((len + 1) * 0) = f ∙ ap (λ k. max top ((len + 1) * k)) e in
    omega (arith, g, h)

pub top-push : (flag : Bool) (len top : ℕ) → top ≤ len → (if flag then len + 1 else top) ≤ len + 1
top-push true len top h = omega arith
top-push false len top h = omega (arith, h)

pub flags_of-none_more : (words : List ℕ) (count len top : ℕ) → top ≤ len → NoBits words top
    → flags_of words (len + count) ≡ flags_of words len ++ replicate count false
flags_of-none_more words zero len top below none =
    let still : len + 0 ≡ len = omega arith in
    ap (flags_of words) still ∙ sym (append-nil (flags_of words len))
flags_of-none_more words (suc count) len top below none =
    let more : len + suc count ≡ len + 1 + count = omega arith in
    ap (flags_of words) more
    ∙ flags_of-none_more words count (len + 1) top (omega (arith, below)) none
    ∙ ap (λ fs. fs ++ replicate count false)
    (flags_of-more words len ∙ ap (λ f. flags_of words len ++ f ∷ []) (none len below))
    ∙ append_assoc (flags_of words len) (false ∷ []) (replicate count false)

pub no_bits-quiet : (words : List ℕ) (len top at : ℕ) → top ≤ at → NoBits words top
    → Quiet (flag_at (flags_of words len)) at
no_bits-quiet words len top at below none p h =
    elim (cases_lt p len) as (λ _. flag_at (flags_of words len) p ≡ false) [
      | inl within ↦ flag_at-flags_of words len p within ∙ none p (omega (arith, h, below))
      | inr past ↦ flag_at-beyond _ p (omega (arith, past, length-flags_of words len))
    ]

-- ---- so many bits of one word, as a number
pub positive : (k : ℕ) → 0 < 2 ^ k
positive k = let least : 2 ^ 0 ≤ 2 ^ k = pow_mono {i = 0} {j = k} (omega arith) in omega (arith, least)

pub bit_at-mod : (n k i : ℕ) → i < k → bit_at (n % 2 ^ k) i ≡ bit_at n i
bit_at-mod n k i h =
    sym (bit_at_cat_low (n / 2 ^ k) k (n % 2 ^ k) i h) ∙ ap (λ m. bit_at m i) (div-add-mod' n (2 ^ k))

pub bit_at-div : (n k i : ℕ) → bit_at (n / 2 ^ k) i ≡ bit_at n (k + i)
bit_at-div n k i =
    let back : i ≡ k + i - k = omega arith in
    ap (bit_at (n / 2 ^ k)) back
    ∙ sym (bit_at_cat_high (n / 2 ^ k) k (n % 2 ^ k) (k + i) (mod_below n (2 ^ k) (positive k)) (omega arith))
    ∙ ap (λ m. bit_at m (k + i)) (div-add-mod' n (2 ^ k))

-- `word & (MAX >> (64 - count))`
cut : (n count : ℕ) → count ≤ 64 → bit_and n ((2 ^ 64 - 1) / 2 ^ (64 - count)) ≡ n % 2 ^ count
cut n count h =
    let back : 64 - (64 - count) ≡ count = omega (arith, h) in
    ap (bit_and n) (ones_shr 64 (64 - count) (omega arith) ∙ ap (λ k. 2 ^ k - 1) back)
    ∙ and_mask n count

pub cut-small : (n count : ℕ) → count ≤ 64 → bit_and n ((2 ^ 64 - 1) / 2 ^ (64 - count)) < 2 ^ count
cut-small n count h =
    let below = mod_below n (2 ^ count) (positive count) in omega (arith, cut n count h, below)

module _ (words : List ℕ) (len top : ℕ) (below : top ≤ len) (none : NoBits words top) where
  -- the flags are the bits, and none is set past the last flag
  pub flag_at-bit : (p : ℕ) → flag_at (flags_of words len) p ≡ bit_of words p
  flag_at-bit p = elim (cases_lt p len) as (λ _. flag_at (flags_of words len) p ≡ bit_of words p) [
    | inl within ↦ flag_at-flags_of words len p within
    | inr past ↦
        flag_at-beyond _ p (omega (arith, past, length-flags_of words len)) ∙ sym (none p (omega (arith, past, below)))
  ]

  pub bits-read : (from count i word : ℕ) → from % 64 + count ≤ 64 → i < count → word ≡ slice_index words (from / 64)
      → eqb (bit_at (bit_and (word / 2 ^ (from % 64)) ((2 ^ 64 - 1) / 2 ^ (64 - count))) i) 1
      ≡ flag_at (flags_of words len) (from + i)
  bits-read from count i word one h read =
      let row : from / 64 ≡ (from + i) / 64 = omega (arith, one, h) in
      let place : from % 64 + i ≡ (from + i) % 64 = omega (arith, one, h) in
      ap (λ x. eqb (bit_at x i) 1) (cut (word / 2 ^ (from % 64)) count (omega (arith, one)))
      ∙ ap (λ x. eqb x 1) (bit_at-mod (word / 2 ^ (from % 64)) count i h ∙ bit_at-div word (from % 64) i
      ∙ ap (λ w. bit_at w (from % 64 + i)) read)
      ∙ ap₂ (λ q r. eqb (bit_at (slice_index words q) r) 1) row place
      ∙ sym (flag_at-bit (from + i))

  pub bits-past : (from i : ℕ) → length words ≤ from / 64 → eqb (bit_at 0 i) 1 ≡ flag_at (flags_of words len) (from + i)
  bits-past from i past =
      ap (λ x. eqb x 1) (bit_at-zero i ∙ sym (bit_at-zero ((from + i) % 64)))
      ∙ ap (λ w. eqb (bit_at w ((from + i) % 64)) 1) (sym (beyond words ((from + i) / 64) (omega (arith, past))))
      ∙ sym (flag_at-bit (from + i)) where
        beyond : (ws : List ℕ) (k : ℕ) → length ws ≤ k → slice_index ws k ≡ 0
        beyond [] k h = refl
        beyond (w ∷ ws) zero h = absurd (omega (arith, h))
        beyond (w ∷ ws) (suc k) h = beyond ws k (omega (arith, h))

  pub free-above : (i : ℕ) → len % 64 ≤ i → i < 64 → eqb (bit_at (slice_index words (len / 64)) i) 1 ≡ false
  free-above i h l =
      let row : len / 64 ≡ (len / 64 * 64 + i) / 64 = omega (arith, l) in
      let place : i ≡ (len / 64 * 64 + i) % 64 = omega (arith, l) in
      ap₂ (λ q r. eqb (bit_at (slice_index words q) r) 1) row place
      ∙ none (len / 64 * 64 + i) (omega (arith, h, below))

pub bit_unset : (bit : ℕ) → bit < 2 → eqb bit 1 ≡ false → bit ≡ 0
bit_unset zero h e = refl
bit_unset (suc zero) h e = absurd (cc e)
bit_unset (suc (suc bit)) h e = absurd (omega (arith, h))

-- ---- bits added to a word that has none from a place on
module _ (word place bits : ℕ) (fits : bits * 2 ^ place < 2 ^ 64) where
  whole : (bits * 2 ^ place) % 2 ^ 64 ≡ bits * 2 ^ place + 0
  whole = omega (arith, fits)

  pub bit_at-added_below : (i : ℕ) → i < place
      → bit_at (bit_or word ((bits * 2 ^ place) % 2 ^ 64)) i ≡ bit_at word i
  bit_at-added_below i h =
      let none : bit_at ((bits * 2 ^ place) % 2 ^ 64) i ≡ 0 =
      ap (λ x. bit_at x i) whole ∙ bit_at_cat_low bits place 0 i h ∙ bit_at-zero i in
      let either = bit_at_or word ((bits * 2 ^ place) % 2 ^ 64) i in omega (arith, either, none)

  pub bit_at-added_above : (i : ℕ) → place ≤ i → eqb (bit_at word i) 1 ≡ false
      → bit_at (bit_or word ((bits * 2 ^ place) % 2 ^ 64)) i ≡ bit_at bits (i - place)
  bit_at-added_above i h free =
      let some : bit_at ((bits * 2 ^ place) % 2 ^ 64) i ≡ bit_at bits (i - place) =
      ap (λ x. bit_at x i) whole ∙ bit_at_cat_high bits place 0 i (positive place) h in
      let none = bit_unset (bit_at word i) (bit_at-lt word i) free in
      let either = bit_at_or word ((bits * 2 ^ place) % 2 ^ 64) i in omega (arith, either, none, some)

pub added-fits : (bits count place : ℕ) → bits < 2 ^ count → place + count ≤ 64 → bits * 2 ^ place < 2 ^ 64
added-fits bits count place small one =
    let below = shl_below bits count place small in
    let most : 2 ^ (count + place) ≤ 2 ^ 64 = pow_mono {i = count + place} {j = 64} (omega (arith, one)) in
    omega (arith, below, most)

module _ (words : List ℕ) (len word bits count : ℕ) (room : len + count ≤ 64 * length words) (some : 0 < count)
    (one : len % 64 + count ≤ 64) (small : bits < 2 ^ count)
    (lower : (i : ℕ) → i < len % 64 → bit_at word i ≡ bit_at (slice_index words (len / 64)) i)
    (upper : (i : ℕ) → len % 64 ≤ i → i < 64 → bit_at word i ≡ bit_at bits (i - len % 64)) where
  abbrev Longer : List ℕ
  Longer = set words (len / 64) word

  bit_of-here : (p : ℕ) → p / 64 ≡ len / 64 → bit_of Longer p ≡ eqb (bit_at word (p % 64)) 1
  bit_of-here p row =
      ap (λ x. eqb (bit_at (get_or Longer x 0) (p % 64)) 1) row
      ∙ ap (λ x. eqb (bit_at x (p % 64)) 1) (get_or-set_same words (len / 64) word 0 (omega (arith, room, some)))

  bit_of-elsewhere : (p : ℕ) → p / 64 ≢ len / 64 → bit_of Longer p ≡ bit_of words p
  bit_of-elsewhere p other =
      ap (λ x. eqb (bit_at x (p % 64)) 1) (get_or-set_other words (len / 64) (p / 64) word 0 other)

  bit_of-before : (p : ℕ) → p < len → bit_of Longer p ≡ bit_of words p
  bit_of-before p l = elim (cases_eq (p / 64) (len / 64)) as (λ _. bit_of Longer p ≡ bit_of words p) [
    | inl row ↦
        bit_of-here p row ∙ ap (λ x. eqb x 1) (lower (p % 64) (omega (arith, l, row)))
        ∙ ap (λ x. eqb (bit_at (get_or words x 0) (p % 64)) 1) (sym row)
    | inr other ↦ bit_of-elsewhere p other
  ]

  bit_of-added : (i : ℕ) → i < count → bit_of Longer (len + i) ≡ bit_of (bits ∷ []) i
  bit_of-added i l =
      let row : (len + i) / 64 ≡ len / 64 = omega (arith, l, one) in
      let place : (len + i) % 64 - len % 64 ≡ i % 64 = omega (arith, l, one) in
      let first : 0 ≡ i / 64 = omega (arith, l, one) in
      bit_of-here (len + i) row
      ∙ ap (λ x. eqb x 1) (upper ((len + i) % 64) (omega (arith, l, one)) (omega arith))
      ∙ ap₂ (λ q r. eqb (bit_at (slice_index (bits ∷ []) q) r) 1) first place

  pub no_bits-push_bits : NoBits words len → NoBits Longer (len + count)
  no_bits-push_bits none p h = elim (cases_eq (p / 64) (len / 64)) as (λ _. bit_of Longer p ≡ false) [
    | inl row ↦
        bit_of-here p row
        ∙ ap (λ x. eqb x 1) (upper (p % 64) (omega (arith, h, row)) (omega arith)
        ∙ bit_at_above bits count (p % 64 - len % 64) small (omega (arith, h, row)))
    | inr other ↦ bit_of-elsewhere p other ∙ none p (omega (arith, h))
  ]

  added : (n : ℕ) → n ≤ count → flags_of Longer (len + n) ≡ flags_of words len ++ flags_of (bits ∷ []) n
  added zero h =
      let still : len + 0 ≡ len = omega arith in
      ap (flags_of Longer) still ∙ flags_of-same Longer words len bit_of-before
      ∙ sym (append-nil (flags_of words len))
      ∙ ap (λ z. flags_of words len ++ z) (sym (flags_of-none (bits ∷ [])))
  added (suc n) h =
      let more : len + suc n ≡ len + n + 1 = omega arith in
      let next : n + 1 ≡ suc n = omega arith in
      ap (flags_of Longer) more ∙ flags_of-more Longer (len + n)
      ∙ ap₂ (λ fs f. fs ++ f ∷ []) (added n (omega (arith, h))) (bit_of-added n (omega (arith, h)))
      ∙ append_assoc (flags_of words len) (flags_of (bits ∷ []) n) (bit_of (bits ∷ []) n ∷ [])
      ∙ ap (λ z. flags_of words len ++ z)
      (sym (flags_of-more (bits ∷ []) n) ∙ ap (flags_of (bits ∷ [])) next)

  pub flags_of-push_bits : flags_of Longer (len + count) ≡ flags_of words len ++ flags_of (bits ∷ []) count
  flags_of-push_bits = added count (omega arith)

pub has_room_for : (words : List ℕ) (len count : ℕ) (s : Marks)
    → record { flags = flags_of words len; room = 64 * length words } ≡ s
    → length s.flags + count ≤ s.room → len + count ≤ 64 * length words
has_room_for words len count s e h =
    omega (arith, length-flags_of words len, ap (λ (s : Marks). length s.flags) e, ap Marks.room e, h)

pub has_one_word : (words : List ℕ) (len count : ℕ) (s : Marks)
    → record { flags = flags_of words len; room = 64 * length words } ≡ s
    → length s.flags % 64 + count ≤ 64 → len % 64 + count ≤ 64
has_one_word words len count s e h =
    let same : length s.flags ≡ len =
    sym (ap (λ (s : Marks). length s.flags) e) ∙ length-flags_of words len in
    omega (arith, ap (λ k. k % 64) same, h)
