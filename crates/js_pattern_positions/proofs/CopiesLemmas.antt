-- Copies of a set, one after another, by the bits of words.
--
-- Key: `flags_of-copies`, the flags of the copies in one word are the bits that were read before, moved on by one
-- place.
use Rattle.std.proofs.Common.{◌≡◌, ℕ, zero, suc, ◌+◌, ◌-◌, ◌*◌, ◌/◌, ◌%◌, ◌^◌, ◌<◌, ◌≤◌, Bool, true, false, not, ◌&&◌, ◌||◌, eqb, nat_eq, if◌then◌else◌, List, [], ◌∷◌, ◌++◌, length, replicate, get_or, refl, sym, ◌∙◌, ap, ap₂, arith, ext_get_or, ne_eqb, eqb-true, length-append, append_assoc}
use mir.Val.{bool_byte}
use Rattle.std.specs.Prelude.{slice_index}
use Rattle.std.specs.Int.{bit_at}
use Rattle.std.proofs.Math.Bool.{or_assoc}
use Rattle.std.proofs.lemmas.Nat.Bits.{bit_at-zero, bit_at-lt, bit_at_cat_low, bit_at_cat_high, same_from_bits_below}
use Rattle.js_pattern_positions.specs.Bits.{bit_of, flags_of}
use Rattle.js_pattern_positions.specs.Walk.{Quiet, begins_with, next_after, some_in, copies_begun}
use Rattle.js_pattern_positions.proofs.BitsLemmas.{positive, bit_unset, length-flags_of, get_or-flags_of}
use Rattle.js_pattern_positions.proofs.Quiet.{next_after-quiet}

-- ---- one of some positions
pub some_in-split : (read : ℕ → Bool) (a b base : ℕ)
    → some_in read (a + b) base ≡ (some_in read a base || some_in read b (base + a))
some_in-split read zero b base =
    let none : zero + b ≡ b = omega arith in
    let still : base ≡ base + 0 = omega arith in
    ap (λ k. some_in read k base) none ∙ ap (some_in read b) still
some_in-split read (suc a) b base =
    let more : suc a + b ≡ suc (a + b) = omega arith in
    let next : base + 1 + a ≡ base + suc a = omega arith in
    ap (λ k. some_in read k base) more
    ∙ ap (λ x. read base || x) (some_in-split read a b (base + 1))
    ∙ sym (or_assoc (read base) (some_in read a (base + 1)) (some_in read b (base + 1 + a)))
    ∙ ap (λ k. some_in read (suc a) base || some_in read b k) next

some_in-parts : (read : ℕ → Bool) (part left base : ℕ) → part ≤ left
    → (some_in read part base || some_in read (left - part) (base + part)) ≡ some_in read left base
some_in-parts read part left base h =
    let all : part + (left - part) ≡ left = omega (arith, h) in
    sym (some_in-split read part (left - part) base) ∙ ap (λ k. some_in read k base) all

pub some_in-found : (read : ℕ → Bool) (part left base : ℕ) (one : Bool) → part ≤ left
    → one ≡ some_in read part base → one ≡ true → true ≡ some_in read left base
some_in-found read part left base one h e f =
    ap (λ x. x || some_in read (left - part) (base + part)) (sym f ∙ e) ∙ some_in-parts read part left base h

pub some_in-later : (read : ℕ → Bool) (part left base : ℕ) (one : Bool) → part ≤ left
    → one ≡ some_in read part base → one ≡ false
    → some_in read (left - part) (base + part) ≡ some_in read left base
some_in-later read part left base one h e f =
    ap (λ x. x || some_in read (left - part) (base + part)) (sym f ∙ e) ∙ some_in-parts read part left base h

some_in-none : (read : ℕ → Bool) (n base : ℕ) → some_in read n base ≡ false → (i : ℕ) → i < n
    → read (base + i) ≡ false
some_in-none read zero base e i h = absurd (omega (arith, h))
some_in-none read (suc n) base e zero h =
    let still : base + 0 ≡ base = omega arith in ap read still ∙ first (read base) (some_in read n (base + 1)) e where
      first : (a b : Bool) → (a || b) ≡ false → a ≡ false
      first true b f = f
      first false b f = refl
some_in-none read (suc n) base e (suc i) h =
    let next : base + suc i ≡ base + 1 + i = omega arith in
    ap read next
    ∙ some_in-none read n (base + 1) (second (read base) (some_in read n (base + 1)) e) i (omega (arith, h)) where
      second : (a b : Bool) → (a || b) ≡ false → b ≡ false
      second true b f = absurd (cc f)
      second false b f = f

pub some_in-zero : (read : ℕ → Bool) (n base : ℕ) → ((i : ℕ) → i < n → read (base + i) ≡ false)
    → some_in read n base ≡ false
some_in-zero read zero base h = refl
some_in-zero read (suc n) base h =
    let still : base ≡ base + 0 = omega arith in
    ap (λ x. x || some_in read n (base + 1)) (ap read still ∙ h 0 (omega arith))
    ∙ some_in-zero read n (base + 1)
    (λ i l. let next : base + 1 + i ≡ base + suc i = omega arith in ap read next ∙ h (suc i) (omega (arith, l)))

-- a word of flags is 0 where none is set
pub some_in-bits : (read : ℕ → Bool) (count from bits : ℕ)
    → ((i : ℕ) → i < count → eqb (bit_at bits i) 1 ≡ read (from + i)) → bits < 2 ^ count
    → not (nat_eq bits 0) ≡ some_in read count from
some_in-bits read count from bits h small = by (nat_eq bits 0) refl (some_in read count from) refl where
  by : (zeros : Bool) → nat_eq bits 0 ≡ zeros → (some : Bool) → some_in read count from ≡ some
      → not (nat_eq bits 0) ≡ some_in read count from
  by true e true f =
      let z : bits ≡ 0 = eqb-true bits 0 e in
      absurd (cc (sym f ∙ some_in-zero read count from
      (λ i l. sym (h i l) ∙ ap (λ x. eqb (bit_at x i) 1) z ∙ ap (λ x. eqb x 1) (bit_at-zero i))))
  by true e false f = ap not e ∙ sym f
  by false e true f = ap not e ∙ sym f
  by false e false f =
      let z : bits ≡ 0 = same_from_bits_below count bits 0 small (positive count)
      (λ i l. bit_unset (bit_at bits i) (bit_at-lt bits i) (h i l ∙ some_in-none read count from f i l)
      ∙ sym (bit_at-zero i)) in
      absurd (cc (sym e ∙ ap (λ x. nat_eq x 0) z))

-- ---- copies, of each of which the same is said
pub next_after-same : (again : Bool) (next same : ℕ → Bool → List Bool) (one also : ℕ → Bool → Bool) (count : ℕ)
    → ((base : ℕ) (b : Bool) → next base b ≡ same base b) → ((base : ℕ) (b : Bool) → one base b ≡ also base b)
    → (n base : ℕ) (here : Bool)
    → next_after again next one count n base here ≡ next_after again same also count n base here
next_after-same again next same one also count h k zero base here = refl
next_after-same again next same one also count h k (suc n) base here =
    ap₂ (λ x y. x ++ y)
    (ap (λ x. next base (if again && nat_eq n 0 then here || x else here)) (k base false)
    ∙ h base (begins_with again also n base here))
    (ap (next_after again next one count n (base + count)) (k base here)
    ∙ next_after-same again next same one also count h k n (base + count) (also base here))

-- ---- copies of a set
module _ (read : ℕ → Bool) where
  abbrev pub moved : (n base : ℕ) → Bool → List Bool
  moved n base here = copies_begun false read n base here

  pub length-moved : (n base : ℕ) (here : Bool) → length (moved n base here) ≡ n
  length-moved zero base here = refl
  length-moved (suc n) base here = ap suc (length-moved n (base + 1) (read base))

  moved-later : (n base i : ℕ) (here : Bool) → i < n → get_or (moved (suc n) base here) (suc i) false ≡ read (base + i)
  moved-later zero base i here h = absurd (omega (arith, h))
  moved-later (suc n) base zero here h = let still : base ≡ base + 0 = omega arith in ap read still
  moved-later (suc n) base (suc i) here h =
      let next : base + 1 + i ≡ base + suc i = omega arith in
      moved-later n (base + 1) i (read base) (omega (arith, h)) ∙ ap read next

  pub moved-split : (a b base : ℕ) (here : Bool) → 0 < a
      → moved (a + b) base here ≡ moved a base here ++ moved b (base + a) (read (base + a - 1))
  moved-split zero b base here h = absurd (omega (arith, h))
  moved-split (suc zero) b base here h =
      let more : suc zero + b ≡ suc b = omega arith in
      let last : base ≡ base + 1 - 1 = omega arith in
      ap (λ k. moved k base here) more ∙ ap (λ k. here ∷ moved b (base + 1) (read k)) last
  moved-split (suc (suc a)) b base here h =
      let more : suc (suc a) + b ≡ suc (suc a + b) = omega arith in
      let next : base + 1 + suc a ≡ base + suc (suc a) = omega arith in
      ap (λ k. moved k base here) more
      ∙ ap (λ z. here ∷ z) (moved-split (suc a) b (base + 1) (read base) (omega arith))
      ∙ ap (λ k. here ∷ (moved (suc a) (base + 1) (read base) ++ moved b k (read (k - 1)))) next

  pub moved-next : (flags after : List Bool) (part left : ℕ) (here next : Bool) → 0 < part → part ≤ left
      → after ≡ flags ++ moved part (length flags) here → next ≡ read (length flags + part - 1)
      → after ++ moved (left - part) (length after) next ≡ flags ++ moved left (length flags) here
  moved-next flags after part left here next some within e f =
      let all : part + (left - part) ≡ left = omega (arith, within) in
      let longer : length after ≡ length flags + part =
      ap length e ∙ length-append flags (moved part (length flags) here)
      ∙ ap (λ k. length flags + k) (length-moved part (length flags) here) in
      ap (λ z. z ++ moved (left - part) (length after) next) e
      ∙ append_assoc flags (moved part (length flags) here) (moved (left - part) (length after) next)
      ∙ ap₂ (λ k x. flags ++ (moved part (length flags) here ++ moved (left - part) k x)) longer f
      ∙ ap (λ z. flags ++ z) (sym (moved-split part (left - part) (length flags) here some))
      ∙ ap (λ k. flags ++ moved k (length flags) here) all

  pub moved-quiet : (n base : ℕ) (here : Bool) → here ≡ false → Quiet read base
      → moved n base here ≡ replicate n false
  moved-quiet n base here e q =
      let once : n * 1 ≡ n = omega arith in
      ap (moved n base) e
      ∙ next_after-quiet read (λ at some. read at) 1 (λ at r. r at (omega arith)) false (λ at some. some ∷ [])
      (λ at r. refl) n base q
      ∙ ap (λ k. replicate k false) once

  -- the flags of the copies are the bits that were read, moved on by one place
  pub flags_of-copies : (count base bits first : ℕ) (begins : Bool) → 0 < count → count ≤ 64
      → ((i : ℕ) → i < count - 1 → eqb (bit_at bits i) 1 ≡ read (base + i)) → first ≡ bool_byte begins
      → flags_of ((bits * 2 + first) ∷ []) count ≡ moved count base begins
  flags_of-copies zero base bits first begins some one h e = absurd (omega (arith, some))
  flags_of-copies (suc count) base bits first begins some one h e =
      ext_get_or false _ _ (length-flags_of ((bits * 2 + first) ∷ []) (suc count)
      ∙ sym (length-moved (suc count) base begins))
      (λ p l. let within : p < suc count = rw length-flags_of at l in
      get_or-flags_of ((bits * 2 + first) ∷ []) (suc count) p within ∙ each p within) where
        inside : (p : ℕ) → p < 64 → bit_of ((bits * 2 + first) ∷ []) p ≡ eqb (bit_at (bits * 2 ^ 1 + first) p) 1
        inside p l =
            let row : p / 64 ≡ 0 = omega (arith, l) in
            let place : p % 64 ≡ p = omega (arith, l) in
            ap₂ (λ q r. eqb (bit_at (slice_index ((bits * 2 + first) ∷ []) q) r) 1) row place

        lowest : (b : Bool) → eqb (bit_at (bool_byte b) 0) 1 ≡ b
        lowest true = refl
        lowest false = refl

        least : (b : Bool) → bool_byte b < 2 ^ 1
        least true = omega arith
        least false = omega arith

        each : (p : ℕ) → p < suc count → bit_of ((bits * 2 + first) ∷ []) p
            ≡ get_or (moved (suc count) base begins) p false
        each zero l =
            inside 0 (omega arith)
            ∙ ap (λ x. eqb x 1) (bit_at_cat_low bits 1 first 0 (omega arith) ∙ ap (λ f. bit_at f 0) e)
            ∙ lowest begins
        each (suc p) l =
            let back : suc p - 1 ≡ p = omega arith in
            let small = least begins in
            inside (suc p) (omega (arith, l, one))
            ∙ ap (λ x. eqb x 1) (bit_at_cat_high bits 1 first (suc p) (omega (arith, e, small)) (omega arith)
            ∙ ap (bit_at bits) back)
            ∙ h p (omega (arith, l))
            ∙ sym (moved-later count base p begins (omega (arith, l)))

-- the last copy may come again and again
pub copies_begun-again : (read : ℕ → Bool) (n base : ℕ) (here : Bool)
    → copies_begun true read (suc n) base here
    ≡ copies_begun false read n base here
    ++ ((if nat_eq n 0 then here else read (base + n - 1)) || read (base + n)) ∷ []
copies_begun-again read zero base here =
    let still : base ≡ base + 0 = omega arith in ap (λ k. (here || read k) ∷ []) still
copies_begun-again read (suc n) base here =
    let next : base + 1 + n ≡ base + suc n = omega arith in
    ap (λ x. (if x then here || read base else here) ∷ copies_begun true read (suc n) (base + 1) (read base))
    (ne_eqb (suc n) 0 (omega arith))
    ∙ ap (λ z. here ∷ z) (copies_begun-again read n (base + 1) (read base))
    ∙ ap (λ k. here ∷ (copies_begun false read n (base + 1) (read base)
    ++ ((if nat_eq n 0 then read base else read (k - 1)) || read k) ∷ [])) next
    ∙ ap (λ x. here ∷ (copies_begun false read n (base + 1) (read base) ++ (x || read (base + suc n)) ∷ []))
    (last n ∙ sym (ap (λ x. if x then here else read (base + suc n - 1)) (ne_eqb (suc n) 0 (omega arith)))) where
      last : (n : ℕ) → (if nat_eq n 0 then read base else read (base + suc n - 1)) ≡ read (base + suc n - 1)
      last zero = let one : base ≡ base + 1 - 1 = omega arith in ap read one
      last (suc n) =
          ap (λ x. if x then read base else read (base + suc (suc n) - 1)) (ne_eqb (suc n) 0 (omega arith))

-- the last copy's flag, where flags of other positions come before the copies
pub copies-last : (read : ℕ → Bool) (count last : ℕ) (begins here was : Bool) (flags part after : List Bool) → 0 < count
    → last ≡ length flags + (count - 1) → here ≡ (if nat_eq count 1 then begins else read (last - 1)) → was ≡ read last
    → part ≡ flags ++ copies_begun false read (count - 1) (length flags) begins
    → after ≡ part ++ (here || was) ∷ []
    → after ≡ flags ++ copies_begun true read count (length flags) begins
copies-last read zero last begins here was flags part after some at e f g h = absurd (omega (arith, some))
copies-last read (suc n) last begins here was flags part after some at e f g h =
    let one : suc n - 1 ≡ n = omega arith in
    let place : last ≡ length flags + n = omega (arith, at) in
    h ∙ ap (λ z. z ++ (here || was) ∷ []) (g ∙ ap (λ k. flags ++ copies_begun false read k (length flags) begins) one)
    ∙ append_assoc flags (copies_begun false read n (length flags) begins) ((here || was) ∷ [])
    ∙ ap₂ (λ x y. flags ++ (copies_begun false read n (length flags) begins ++ (x || y) ∷ []))
    (e ∙ ap₂ (λ x k. if x then begins else read (k - 1)) (tests n) place)
    (f ∙ ap read place)
    ∙ ap (λ z. flags ++ z) (sym (copies_begun-again read n (length flags) begins)) where
      tests : (n : ℕ) → nat_eq (suc n) 1 ≡ nat_eq n 0
      tests zero = refl
      tests (suc n) = ne_eqb (suc (suc n)) 1 (omega arith) ∙ sym (ne_eqb (suc n) 0 (omega arith))
