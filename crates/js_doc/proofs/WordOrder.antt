-- Texts in the order of their bytes are in the order of their characters.
use Rattle.std.proofs.Common.{◌≡◌, ◌⊎◌, inl, inr, ℕ, ◌+◌, ◌/◌, ◌%◌, ◌<◌, ◌≤◌, List, [], ◌∷◌, ◌++◌, true, Ordering, Less, Equal, Greater, nat_cmp, chars, IsUtf8, refl, sym, ap, ap₂, ◌∙◌, arith}
use Rattle.std.proofs.lemmas.Bool.{cases_lt, cases_order, lt-ltb, le-ltb}
use Rattle.std.proofs.lemmas.Bool.Decides.{nat_tests}
use Rattle.std.proofs.lemmas.Cmp.{nat_list_cmp_total}
use Rattle.std.specs.Cmp.Lexicographic.{slice_cmp}
use Rattle.std.specs.Ordering.{ordering_reverse}
use Rattle.std.proofs.lemmas.Str.{encode_ascii, encodes-chars}
use Rattle.std.specs.Char.{encode_utf8}
use Rattle.std.specs.Str.{encode_utf8_all}
use Rattle.documents.specs.Tests.{comes_before}
use Rattle.documents.proofs.NameOrder.{smaller_first, same_first}

abbrev order : List ℕ → List ℕ → Ordering
order xs ys = slice_cmp nat_cmp xs ys

nat_cmp_less : (x y : ℕ) → x < y → nat_cmp x y ≡ Less
nat_cmp_less x y h = grind (arith, nat_tests)

nat_cmp_same : (x : ℕ) → nat_cmp x x ≡ Equal
nat_cmp_same x = grind (arith, nat_tests)

less_here : (x y : ℕ) (xs ys : List ℕ) → x < y → order (x ∷ xs) (y ∷ ys) ≡ Less
less_here x y xs ys h = rw (nat_cmp_less x y h) refl

less_later : (x y : ℕ) (xs ys : List ℕ) → x ≡ y → order xs ys ≡ Less → order (x ∷ xs) (y ∷ ys) ≡ Less
less_later x y xs ys same h = rw (same, nat_cmp_same) h

same_later : (x y : ℕ) (xs ys : List ℕ) → x ≡ y → order (x ∷ xs) (y ∷ ys) ≡ order xs ys
same_later x y xs ys same = rw (same, nat_cmp_same) refl

greater_here : (x y : ℕ) (xs ys : List ℕ) → y < x → order (x ∷ xs) (y ∷ ys) ≡ Greater
greater_here x y xs ys h = let greater : nat_cmp x y ≡ Greater = grind (arith, nat_tests) in rw greater refl

-- the first bytes that differ are in order
abbrev Lower : List ℕ → List ℕ → Type 0
Lower [] ys = ⊥
Lower (x ∷ xs) [] = ⊥
Lower (x ∷ xs) (y ∷ ys) = (x < y) ⊎ ((x ≡ y) × Lower xs ys)

Lower-order : (xs ys more other : List ℕ) → Lower xs ys → order (xs ++ more) (ys ++ other) ≡ Less
Lower-order [] ys more other h = absurd h
Lower-order (x ∷ xs) [] more other h = absurd h
Lower-order (x ∷ xs) (y ∷ ys) more other (inl h) = less_here x y (xs ++ more) (ys ++ other) h
Lower-order (x ∷ xs) (y ∷ ys) more other (inr h) =
    less_later x y (xs ++ more) (ys ++ other) h.0 (Lower-order xs ys more other h.1)

-- numbers by their digits to the base 64
digits2 : (a b : ℕ) → a < b → (a / 64 < b / 64) ⊎ ((a / 64 ≡ b / 64) × (a % 64 < b % 64))
digits2 a b h = elim (cases_lt (a / 64) (b / 64)) [ inl l ↦ inl l | inr g ↦ inr (omega arith, omega arith) ]

thousands : (a : ℕ) → a / 4096 ≡ a / 64 / 64
thousands a = omega arith

millions : (a : ℕ) → a / 262144 ≡ a / 4096 / 64
millions a = omega arith

-- the bytes of a character, by its size
bytes2 : (c : ℕ) → 128 ≤ c → c < 2048 → encode_utf8 c ≡ (192 + c / 64) ∷ (128 + c % 64) ∷ []
unfolding encode_utf8
bytes2 c low high = rw (le-ltb c 128 low, lt-ltb c 2048 high) refl

bytes3 : (c : ℕ) → 2048 ≤ c → c < 65536
    → encode_utf8 c ≡ (224 + c / 4096) ∷ (128 + c / 64 % 64) ∷ (128 + c % 64) ∷ []
unfolding encode_utf8
bytes3 c low high = let a : 128 ≤ c =
    omega arith in rw (le-ltb c 128 a, le-ltb c 2048 low, lt-ltb c 65536 high) refl

bytes4 : (c : ℕ) → 65536 ≤ c
    → encode_utf8 c ≡ (240 + c / 262144) ∷ (128 + c / 4096 % 64) ∷ (128 + c / 64 % 64) ∷ (128 + c % 64) ∷ []
unfolding encode_utf8
bytes4 c low =
    let a : 128 ≤ c = omega arith in
    let b : 2048 ≤ c = omega arith in
    rw (le-ltb c 128 a, le-ltb c 2048 b, le-ltb c 65536 low) refl

-- the first byte determines the size
abbrev BeginsFrom : ℕ → ℕ → Type 0
BeginsFrom k c = (first : ℕ) × (rest : List ℕ) × (encode_utf8 c ≡ first ∷ rest) × (k ≤ first)

begins4 : (c : ℕ) → 65536 ≤ c → BeginsFrom 240 c
begins4 c h = (_, _, bytes4 c h, omega arith)

begins3 : (c : ℕ) → 2048 ≤ c → BeginsFrom 224 c
begins3 c h = elim (cases_lt c 65536) [
  | inl l ↦ (_, _, bytes3 c h l, omega arith)
  | inr g ↦ (_, _, bytes4 c g, omega arith)
]

begins2 : (c : ℕ) → 128 ≤ c → BeginsFrom 192 c
begins2 c h = elim (cases_lt c 2048) [
  | inl l ↦ (_, _, bytes2 c h l, omega arith)
  | inr g ↦ let b = begins3 c g in (b.0, b.1, b.2, omega (arith, b.3))
]

-- two characters of one size
lower1 : (a b : ℕ) → a < b → b < 128 → Lower (encode_utf8 a) (encode_utf8 b)
lower1 a b h high =
    let small : a < 128 = omega arith in
    rw (encode_ascii a small, encode_ascii b high) (inl h)

lower2 : (a b : ℕ) → a < b → 128 ≤ a → b < 2048 → Lower (encode_utf8 a) (encode_utf8 b)
lower2 a b h low high =
    let p : a < 2048 = omega arith in
    let q : 128 ≤ b = omega arith in
    let ds : Lower ((192 + a / 64) ∷ (128 + a % 64) ∷ []) ((192 + b / 64) ∷ (128 + b % 64) ∷ []) =
    elim (digits2 a b h) [
      | inl l ↦ inl (omega (arith, l))
      | inr e ↦ inr (omega (arith, e.0), inl (omega (arith, e.1)))
    ] in
    rw (bytes2 a low p, bytes2 b q high) ds

lower3 : (a b : ℕ) → a < b → 2048 ≤ a → b < 65536 → Lower (encode_utf8 a) (encode_utf8 b)
lower3 a b h low high =
    let p : a < 65536 = omega arith in
    let q : 2048 ≤ b = omega arith in
    let ds : Lower ((224 + a / 4096) ∷ (128 + a / 64 % 64) ∷ (128 + a % 64) ∷ [])
    ((224 + b / 4096) ∷ (128 + b / 64 % 64) ∷ (128 + b % 64) ∷ []) =
    elim (digits2 a b h) [
      | inl l ↦ elim (digits2 (a / 64) (b / 64) l) [
        | inl m ↦ inl (omega (arith, m, thousands a, thousands b))
        | inr e ↦ inr (omega (arith, e.0, thousands a, thousands b), inl (omega (arith, e.1)))
      ]
      | inr e ↦ inr (
        omega (arith, e.0, thousands a, thousands b),
        inr (omega (arith, e.0), inl (omega (arith, e.1))),
      )
    ] in
    rw (bytes3 a low p, bytes3 b q high) ds

lower4 : (a b : ℕ) → a < b → 65536 ≤ a → Lower (encode_utf8 a) (encode_utf8 b)
lower4 a b h low =
    let q : 65536 ≤ b = omega arith in
    let ds : Lower ((240 + a / 262144) ∷ (128 + a / 4096 % 64) ∷ (128 + a / 64 % 64) ∷ (128 + a % 64) ∷ [])
    ((240 + b / 262144) ∷ (128 + b / 4096 % 64) ∷ (128 + b / 64 % 64) ∷ (128 + b % 64) ∷ []) =
    elim (digits2 a b h) [
      | inl l ↦ elim (digits2 (a / 64) (b / 64) l) [
        | inl m ↦ elim (digits2 (a / 64 / 64) (b / 64 / 64) m) [
          | inl n ↦ inl (omega (arith, n, thousands a, thousands b, millions a, millions b))
          | inr e ↦ inr (
            omega (arith, e.0, thousands a, thousands b, millions a, millions b),
            inl (omega (arith, e.1, thousands a, thousands b)),
          )
        ]
        | inr e ↦ inr (
          omega (arith, e.0, thousands a, thousands b, millions a, millions b),
          inr (omega (arith, e.0, thousands a, thousands b), inl (omega (arith, e.1))),
        )
      ]
      | inr e ↦
          inr (
            omega (arith, e.0, thousands a, thousands b, millions a, millions b),
            inr (
              omega (arith, e.0, thousands a, thousands b),
              inr (omega (arith, e.0), inl (omega (arith, e.1))),
            ),
          )
    ] in
    rw (bytes4 a low, bytes4 b q) ds

-- two characters of two sizes
lower_first : (x y : ℕ) (xs ys us vs : List ℕ) → xs ≡ x ∷ us → ys ≡ y ∷ vs → x < y → Lower xs ys
lower_first x y xs ys us vs p q h = rw (p, q) (inl h)

-- the smaller character has the lower bytes
lower : (a b : ℕ) → a < b → Lower (encode_utf8 a) (encode_utf8 b)
lower a b h = elim (cases_lt b 128) [
  | inl b1 ↦ lower1 a b h b1
  | inr b2 ↦ elim (cases_lt a 128) [
    | inl a1 ↦ let f = begins2 b b2 in lower_first a f.0 _ _ _ _ (encode_ascii a a1) f.2 (omega (arith, f.3))
    | inr a2 ↦ elim (cases_lt b 2048) [
      | inl b2 ↦ lower2 a b h a2 b2
      | inr b3 ↦ elim (cases_lt a 2048) [
        | inl small ↦ let f =
            begins3 b b3 in lower_first _ f.0 _ _ _ _ (bytes2 a a2 small) f.2 (omega (arith, f.3))
        | inr a3 ↦ elim (cases_lt b 65536) [
          | inl b3 ↦ lower3 a b h a3 b3
          | inr b4 ↦ elim (cases_lt a 65536) [
            | inl small ↦ let f =
                begins4 b b4 in lower_first _ f.0 _ _ _ _ (bytes3 a a3 small) f.2 (omega (arith, f.3))
            | inr a4 ↦ lower4 a b h a4
          ]
        ]
      ]
    ]
  ]
]

prefix_order : (xs ys zs : List ℕ) → order (xs ++ ys) (xs ++ zs) ≡ order ys zs
prefix_order [] ys zs = refl
prefix_order (x ∷ xs) ys zs = rw (nat_cmp_same x) (prefix_order xs ys zs)

not_before_nothing : (xs : List ℕ) → order xs [] ≡ Less → ⊥
not_before_nothing [] e = cc
not_before_nothing (x ∷ xs) e = cc

-- in the order of the bytes, so in the order of the characters
pub comes_before-encodes : (cs ds : List ℕ) → order (encode_utf8_all cs) (encode_utf8_all ds) ≡ Less
    → comes_before cs ds ≡ true
comes_before-encodes [] [] e = absurd (not_before_nothing [] e)
comes_before-encodes [] (d ∷ ds) e = refl
comes_before-encodes (c ∷ cs) [] e = absurd (not_before_nothing _ e)
comes_before-encodes (c ∷ cs) (d ∷ ds) e = elim (cases_order c d) [
  | inl same ↦
      let rest : order (encode_utf8_all cs) (encode_utf8_all ds) ≡ Less =
      sym (prefix_order (encode_utf8 c) _ _)
      ∙ ap (λ n. order (encode_utf8 c ++ encode_utf8_all cs) (encode_utf8 n ++ encode_utf8_all ds)) same
      ∙ e in
      same_first c d cs ds same (comes_before-encodes cs ds rest)
  | inr (inl less) ↦ smaller_first c d cs ds less
  | inr (inr greater) ↦
      let back = Lower-order (encode_utf8 d) (encode_utf8 c) (encode_utf8_all ds) (encode_utf8_all cs)
      (lower d c greater) in
      let flipped = nat_list_cmp_total.antisymm (encode_utf8_all (c ∷ cs)) (encode_utf8_all (d ∷ ds))
      ∙ ap ordering_reverse back in
      cc
]

-- texts in the order of their bytes are words in the order of their scalar values
pub comes_before-chars : (a b : List ℕ) → IsUtf8 a → IsUtf8 b → order a b ≡ Less
    → comes_before (chars a) (chars b) ≡ true
comes_before-chars a b u v e =
    comes_before-encodes (chars a) (chars b) (rw (encodes-chars a u, encodes-chars b v) e)

-- texts of which the second comes first
pub comes_after-chars : (a b : List ℕ) → IsUtf8 a → IsUtf8 b → order a b ≡ Greater
    → comes_before (chars b) (chars a) ≡ true
comes_after-chars a b u v e =
    comes_before-chars b a v u (nat_list_cmp_total.antisymm b a ∙ ap ordering_reverse e)

-- texts of which neither comes first
pub same_text : (a b : List ℕ) → order a b ≡ Equal → a ≡ b
same_text [] [] e = refl
same_text [] (y ∷ ys) e = cc
same_text (x ∷ xs) [] e = cc
same_text (x ∷ xs) (y ∷ ys) e = elim (cases_order x y) [
  | inl same ↦
      let rest : order xs ys ≡ Equal = sym (same_later x y xs ys same) ∙ e in
      ap₂ (λ c cs. c ∷ cs) same (same_text xs ys rest)
  | inr (inl less) ↦ let first = less_here x y xs ys less in cc
  | inr (inr greater) ↦ let first = greater_here x y xs ys greater in cc
]
