-- The characters in order are those of ten blocks, one after another.
use Rattle.std.proofs.Common.{◌≡◌, ℕ, zero, suc, ◌+◌, ◌<◌, ◌≤◌, ◌⊎◌, inl, inr, ⊎_elim, List, [], ◌∷◌, ◌++◌, Bool, true, false, ◌&&◌, ◌||◌, nat_eq, nat_lt, flat_map, refl, ap₂, sym, ◌∙◌, subst, arith}
use Rattle.std.specs.List.{range_with_len, list_all}
use Rattle.std.proofs.lemmas.Bool.{and_parts, or_cases, cases_eq, ltb-true, eqb-true}
use Rattle.std.proofs.lemmas.Bool.Decides.{nat_tests}
use Rattle.patterns.specs.CharSet.{is_scalar, group_of}
use Rattle.list_laws.specs.In.{IsIn}
use Rattle.list_laws.proofs.Lists.{in_left, in_right, from_append}
use Rattle.word_states.specs.Classes.{characters}
use Rattle.word_laws.proofs.Classes.{in_range, ordered_only}
use Rattle.cell_laws.specs.FirstWords.{IsOrdered}
use Rattle.cell_laws.proofs.Characters as C
use Rattle.js_row_words.specs.Runs.{IsBlock, AreBlocks, block_letters}

-- lists in an order with the same members are one
module _ {A : Type 0} (R : A → A → Type 0) (asym : (x y : A) → R x y → R y x → ⊥) where
  pub ordered_same : (xs ys : List A) → IsOrdered R xs → IsOrdered R ys → ((x : A) → IsIn x xs → IsIn x ys)
      → ((x : A) → IsIn x ys → IsIn x xs) → xs ≡ ys
  ordered_same [] [] a b h k = refl
  ordered_same [] (y ∷ ys) a b h k = absurd (k y (inl refl))
  ordered_same (x ∷ xs) [] a b h k = absurd (h x (inl refl))
  ordered_same (x ∷ xs) (y ∷ ys) a b h k =
      let e : x ≡ y = head (h x (inl refl)) (k y (inl refl)) in
      ap₂ (λ z zs. z ∷ zs) e
      (ordered_same xs ys a.1 b.1 (λ z i. left z e i (h z (inr i))) (λ z i. right z e i (k z (inr i)))) where
        head : (x ≡ y) ⊎ IsIn x ys → (y ≡ x) ⊎ IsIn y xs → x ≡ y
        head (inl e) j = e
        head (inr i) (inl e) = sym e
        head (inr i) (inr j) = absurd (asym x y (a.0 y j) (b.0 x i))

        left : (z : A) → x ≡ y → IsIn z xs → (z ≡ y) ⊎ IsIn z ys → IsIn z ys
        left z e i (inl q) =
            let l = subst (λ u. R x u) (q ∙ sym e) (a.0 z i) in absurd (asym x x l l)
        left z e i (inr j) = j

        right : (z : A) → x ≡ y → IsIn z ys → (z ≡ x) ⊎ IsIn z xs → IsIn z xs
        right z e i (inl q) =
            let l = subst (λ u. R y u) (q ∙ e) (b.0 z i) in absurd (asym y y l l)
        right z e i (inr j) = j

ordered_append : {A : Type 0} (R : A → A → Type 0) (xs ys : List A) → IsOrdered R xs → IsOrdered R ys
    → ((x y : A) → IsIn x xs → IsIn y ys → R x y) → IsOrdered R (xs ++ ys)
ordered_append R [] ys a b h = b
ordered_append R (x ∷ xs) ys a b h = (
  (λ y i. ⊎_elim (λ l. a.0 y l) (λ r. h x y (inl refl) r) (from_append y xs ys i)),
  ordered_append R xs ys a.1 b (λ u v i j. h u v (inr i) j),
)

range_has : (a n c : ℕ) → a ≤ c → c < a + n → IsIn c (range_with_len a n)
range_has a zero c l m = absurd (omega (arith, l, m))
range_has a (suc n) c l m = elim (cases_eq c a) [
  | inl e ↦ inl e
  | inr d ↦ inr (range_has (a + 1) n c (omega (arith, l, d)) (omega (arith, m)))
]

abbrev Rises : ℕ → ℕ → Type 0
Rises c d = C.rank c < C.rank d

-- the characters of a block
abbrev letters_of_block : ℕ × ℕ → List ℕ
letters_of_block b = range_with_len b.0 b.1

-- its characters are of one group
pub record IsGroup (b : ℕ × ℕ) : Type 0 where
  pub scalar : (c : ℕ) → b.0 ≤ c → c < b.0 + b.1 → is_scalar c ≡ true
  pub group : (c : ℕ) → b.0 ≤ c → c < b.0 + b.1 → group_of c ≡ group_of b.0

abbrev AreGroups : List (ℕ × ℕ) → Type 0
AreGroups [] = Unit {0}
AreGroups (b ∷ bs) = IsGroup b × AreGroups bs

abbrev is_before : ℕ × ℕ → ℕ × ℕ → Bool
is_before s t =
    nat_lt (group_of s.0) (group_of t.0) || (nat_eq (group_of s.0) (group_of t.0) && nat_lt (s.0 + s.1) (t.0 + 1))

abbrev are_in_order : List (ℕ × ℕ) → Bool
are_in_order [] = true
are_in_order (s ∷ ss) = list_all (is_before s) ss && are_in_order ss

block_ordered : (b : ℕ × ℕ) → IsGroup b → IsOrdered Rises (letters_of_block b)
block_ordered b g = go b.0 b.1 (omega arith) (omega arith) where
  go : (a n : ℕ) → b.0 ≤ a → a + n ≤ b.0 + b.1 → IsOrdered Rises (range_with_len a n)
  go a zero l m = tt
  go a (suc n) l m = (
    (λ d i.
        let (p, q) = in_range (a + 1) n d i in
        C.rank_rises a d (g.scalar a l (omega (arith, m))) (inr (
          g.group a l (omega (arith, m)) ∙ sym (g.group d (omega (arith, l, p)) (omega (arith, q, m))),
          omega (arith, p),
        ))),
    go (a + 1) n (omega (arith, l)) (omega (arith, m)),
  )

blocks_ordered : (bs : List (ℕ × ℕ)) → AreGroups bs → are_in_order bs ≡ true
    → IsOrdered Rises (flat_map letters_of_block bs)
blocks_ordered [] g o = tt
blocks_ordered (b ∷ bs) g o =
    let (first, rest) = and_parts (list_all (is_before b) bs) (are_in_order bs) o in
    ordered_append Rises (letters_of_block b) (flat_map letters_of_block bs) (block_ordered b g.0)
    (blocks_ordered bs g.1 rest) (λ c d i j. behind c d i bs g.1 first j) where
      one : (c d : ℕ) (t : ℕ × ℕ) → IsIn c (letters_of_block b) → IsGroup t → is_before b t ≡ true
          → IsIn d (letters_of_block t) → Rises c d
      one c d t i h before j =
          let (p, q) = in_range b.0 b.1 c i in
          let (u, v) = in_range t.0 t.1 d j in
          let x = g.0.group c p q in
          let y = h.group d u v in
          C.rank_rises c d (g.0.scalar c p q)
          (elim (or_cases (nat_lt (group_of b.0) (group_of t.0))
          (nat_eq (group_of b.0) (group_of t.0) && nat_lt (b.0 + b.1) (t.0 + 1)) before) [
            | inl l ↦ inl (let k = ltb-true (group_of b.0) (group_of t.0) l in omega (arith, x, y, k))
            | inr l ↦
                let (e, m) = and_parts (nat_eq (group_of b.0) (group_of t.0)) (nat_lt (b.0 + b.1) (t.0 + 1)) l in
                let s = ltb-true (b.0 + b.1) (t.0 + 1) m in
                inr (x ∙ eqb-true (group_of b.0) (group_of t.0) e ∙ sym y, omega (arith, q, u, s))
          ])

      behind : (c d : ℕ) → IsIn c (letters_of_block b) → (ts : List (ℕ × ℕ)) → AreGroups ts
          → list_all (is_before b) ts ≡ true → IsIn d (flat_map letters_of_block ts) → Rises c d
      behind c d i [] h o j = absurd j
      behind c d i (t ∷ ts) h o j =
          let (p, q) = and_parts (is_before b t) (list_all (is_before b) ts) o in
          ⊎_elim (λ k. one c d t i h.0 p k) (λ k. behind c d i ts h.1 q k)
          (from_append d (letters_of_block t) (flat_map letters_of_block ts) j)

blocks_scalar : (bs : List (ℕ × ℕ)) → AreGroups bs → (c : ℕ) → IsIn c (flat_map letters_of_block bs)
    → is_scalar c ≡ true
blocks_scalar [] g c i = absurd i
blocks_scalar (b ∷ bs) g c i =
    ⊎_elim (λ j. let (p, q) = in_range b.0 b.1 c j in g.0.scalar c p q) (λ j. blocks_scalar bs g.1 c j)
    (from_append c (letters_of_block b) (flat_map letters_of_block bs) i)

abbrev is_inside : ℕ → ℕ × ℕ → Bool
is_inside c b = nat_lt b.0 (c + 1) && nat_lt c (b.0 + b.1)

abbrev lies_in : ℕ → List (ℕ × ℕ) → Bool
lies_in c [] = false
lies_in c (b ∷ bs) = is_inside c b || lies_in c bs

in_blocks : (bs : List (ℕ × ℕ)) (c : ℕ) → lies_in c bs ≡ true → IsIn c (flat_map letters_of_block bs)
in_blocks [] c e = cc e
in_blocks (b ∷ bs) c e = elim (or_cases (is_inside c b) (lies_in c bs) e) [
  | inl h ↦
      let (p, q) = and_parts (nat_lt b.0 (c + 1)) (nat_lt c (b.0 + b.1)) h in
      let l = ltb-true b.0 (c + 1) p in
      in_left c (letters_of_block b) (flat_map letters_of_block bs)
      (range_has b.0 b.1 c (omega (arith, l)) (ltb-true c (b.0 + b.1) q))
  | inr h ↦ in_right c (letters_of_block b) (flat_map letters_of_block bs) (in_blocks bs c h)
]

abbrev blocks : List (ℕ × ℕ)
blocks =
    (0x61, 26) ∷ (0x41, 26) ∷ (0x30, 10) ∷ (0x20, 16) ∷ (0x3a, 7) ∷ (0x5b, 6) ∷ (0x7b, 4) ∷ (0, 0x20)
    ∷ (0x7f, 0xd781) ∷ (0xe000, 0x102000) ∷ []

small : IsGroup (0x61, 26)
small = record { scalar = λ c l m. grind (arith, nat_tests); group = λ c l m. grind (arith, nat_tests) }

capital : IsGroup (0x41, 26)
capital = record { scalar = λ c l m. grind (arith, nat_tests); group = λ c l m. grind (arith, nat_tests) }

digit : IsGroup (0x30, 10)
digit = record { scalar = λ c l m. grind (arith, nat_tests); group = λ c l m. grind (arith, nat_tests) }

before_digits : IsGroup (0x20, 16)
before_digits = record { scalar = λ c l m. grind (arith, nat_tests); group = λ c l m. grind (arith, nat_tests) }

before_capitals : IsGroup (0x3a, 7)
before_capitals = record { scalar = λ c l m. grind (arith, nat_tests); group = λ c l m. grind (arith, nat_tests) }

before_small : IsGroup (0x5b, 6)
before_small = record { scalar = λ c l m. grind (arith, nat_tests); group = λ c l m. grind (arith, nat_tests) }

after_small : IsGroup (0x7b, 4)
after_small = record { scalar = λ c l m. grind (arith, nat_tests); group = λ c l m. grind (arith, nat_tests) }

control : IsGroup (0, 0x20)
control = record { scalar = λ c l m. grind (arith, nat_tests); group = λ c l m. grind (arith, nat_tests) }

beyond : IsGroup (0x7f, 0xd781)
beyond = record { scalar = λ c l m. grind (arith, nat_tests); group = λ c l m. grind (arith, nat_tests) }

last : IsGroup (0xe000, 0x102000)
last = record { scalar = λ c l m. grind (arith, nat_tests); group = λ c l m. grind (arith, nat_tests) }

groups : AreGroups blocks
groups = (
  small,
  (
    capital,
    (digit, (before_digits, (before_capitals, (before_small, (after_small, (control, (beyond, (last, tt)))))))),
  ),
)

everywhere : (c : ℕ) → is_scalar c ≡ true → lies_in c blocks ≡ true
everywhere c s = elim (or_cases (nat_lt c 0xd800) (nat_lt 0xdfff c && nat_lt c 0x110000) s) [
  | inl l ↦ let m : c < 0xd800 = ltb-true c 0xd800 l in grind (arith, nat_tests, m)
  | inr r ↦
      let (a, b) = and_parts (nat_lt 0xdfff c) (nat_lt c 0x110000) r in
      let m = ltb-true 0xdfff c a in
      let n = ltb-true c 0x110000 b in grind (arith, nat_tests, m, n)
]

letters_same : (bs : List (ℕ × ℕ)) → flat_map block_letters bs ≡ flat_map letters_of_block bs
unfolding block_letters
letters_same bs = refl

-- the letters of the ten blocks, in their order, are the characters in order
pub blocks_are : flat_map block_letters blocks ≡ characters
blocks_are =
    letters_same blocks
    ∙ ordered_same Rises (λ c d l m. omega (arith, l, m)) (flat_map letters_of_block blocks) characters
    (blocks_ordered blocks groups refl) (C.ordered 0x110000)
    (λ c i. C.whole c (blocks_scalar blocks groups c i))
    (λ c i. in_blocks blocks c (everywhere c (ordered_only 0x110000 c i)))

block_from : (b : ℕ × ℕ) → IsGroup b → b.0 + b.1 ≤ 0x110000 → IsBlock b
block_from b g l = record { small = l; scalars = g.scalar }

pub all_blocks : AreBlocks blocks
all_blocks = (
  block_from (0x61, 26) small (omega arith),
  (
    block_from (0x41, 26) capital (omega arith),
    (
      block_from (0x30, 10) digit (omega arith),
      (
        block_from (0x20, 16) before_digits (omega arith),
        (
          block_from (0x3a, 7) before_capitals (omega arith),
          (
            block_from (0x5b, 6) before_small (omega arith),
            (
              block_from (0x7b, 4) after_small (omega arith),
              (
                block_from (0, 0x20) control (omega arith),
                (
                  block_from (0x7f, 0xd781) beyond (omega arith),
                  (block_from (0xe000, 0x102000) last (omega arith), tt),
                ),
              ),
            ),
          ),
        ),
      ),
    ),
  ),
)
