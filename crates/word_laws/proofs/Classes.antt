-- Characters that are alike, and the classes that they make.
use Rattle.std.proofs.Common.{◌≡◌, ℕ, zero, suc, ◌+◌, ◌<◌, ◌≤◌, inl, inr, List, [], ◌∷◌, ◌++◌, Bool, true, false, ◌&&◌, if◌then◌else◌, nat_eq, nat_lt, filter, refl, ap₂, sym, subst, eq-eqb, arith}
use Rattle.std.specs.Bool.{beq}
use Rattle.std.specs.Cmp.{IsEquivalence}
use Rattle.std.specs.List.{list_any, IsDistinct, range_with_len}
use Rattle.std.proofs.lemmas.Bool.{and_parts, and_from, or_cases, cases_eq, ltb-true}
use Rattle.patterns.specs.CharSet.{has, is_within, is_scalar, group_of}
use Rattle.word_states.specs.Atom.{Atom}
use Rattle.word_states.specs.Classes.{are_alike, dividers, ordered_below, characters, class_firsts}
use Rattle.word_laws.proofs.Mentions as M
use Rattle.list_laws.proofs.Lists.{in_flat_map, from_flat_map, in_filter}
use Rattle.list_laws.proofs.Tests.{from_filter, beq-true}
use Rattle.list_laws.specs.In.{IsIn}
use Rattle.list_laws.proofs.Booleans.{beq_comm}

pub alike_at : (sets : List (List (ℕ × ℕ))) (c d : ℕ) (s : List (ℕ × ℕ)) → are_alike sets c d ≡ true → IsIn s sets
    → has s c ≡ has s d
alike_at [] c d s e i = absurd i
alike_at (t ∷ sets) c d s e i =
    let (a, b) = and_parts (beq (has t c) (has t d)) (are_alike sets c d) e in
    elim i [
      | inl q ↦ subst (λ z. has z c ≡ has z d) (sym q) (beq-true (has t c) (has t d) a)
      | inr j ↦ alike_at sets c d s b j
    ]

pub alike_parts : (s t : List (List (ℕ × ℕ))) (c d : ℕ) → are_alike (s ++ t) c d ≡ true
    → (are_alike s c d ≡ true) × (are_alike t c d ≡ true)
alike_parts [] t c d e = (refl, e)
alike_parts (x ∷ s) t c d e =
    let (a, b) = and_parts (beq (has x c) (has x d)) (are_alike (s ++ t) c d) e in
    let (f, g) = alike_parts s t c d b in
    (and_from (beq (has x c) (has x d)) (are_alike s c d) a f, g)

-- being alike is an equivalence of characters
pub alike_laws : (sets : List (List (ℕ × ℕ))) → IsEquivalence (are_alike sets)
alike_laws sets = record { refl = own sets; symm = turned sets; congr = joined sets } where
  beq_own : (x : Bool) → beq x x ≡ true
  beq_own true = refl
  beq_own false = refl

  own : (sets : List (List (ℕ × ℕ))) (c : ℕ) → are_alike sets c c ≡ true
  own [] c = refl
  own (s ∷ sets) c = and_from (beq (has s c) (has s c)) (are_alike sets c c) (beq_own (has s c)) (own sets c)

  turned : (sets : List (List (ℕ × ℕ))) (c d : ℕ) → are_alike sets c d ≡ are_alike sets d c
  turned [] c d = refl
  turned (s ∷ sets) c d = ap₂ (λ x y. x && y) (beq_comm (has s c) (has s d)) (turned sets c d)

  joined : (sets : List (List (ℕ × ℕ))) (c d f : ℕ) → are_alike sets c d ≡ true
      → are_alike sets c f ≡ are_alike sets d f
  joined [] c d f e = refl
  joined (s ∷ sets) c d f e =
      let (a, b) = and_parts (beq (has s c) (has s d)) (are_alike sets c d) e in
      ap₂ (λ x y. beq x (has s f) && y) (beq-true (has s c) (has s d) a) (joined sets c d f b)

-- ---- the characters in order
range_in : (a n c : ℕ) → a ≤ c → c < a + n → IsIn c (range_with_len a n)
range_in a zero c l m = absurd (omega (arith, l, m))
range_in a (suc n) c l m = elim (cases_eq c a) [
  | inl e ↦ inl e
  | inr d ↦ inr (range_in (a + 1) n c (omega (arith, l, d)) (omega (arith, m)))
]

pub in_range : (a n c : ℕ) → IsIn c (range_with_len a n) → (a ≤ c) × (c < a + n)
in_range a zero c i = absurd i
in_range a (suc n) c (inl e) = (omega (arith, e), omega (arith, e))
in_range a (suc n) c (inr i) = let (l, m) = in_range (a + 1) n c i in (omega (arith, l), omega (arith, m))

group_is : (c : ℕ) → IsIn {A = ℕ} (group_of c) (0 ∷ 1 ∷ 2 ∷ 3 ∷ 4 ∷ [])
group_is c = go (is_within (97, 122) c) (is_within (65, 90) c) (is_within (48, 57) c) (is_within (32, 126) c) where
  go : (p q r s : Bool) → IsIn {A = ℕ} (if p then 0 else (if q then 1 else (if r then 2 else (if s then 3 else 4))))
      (0 ∷ 1 ∷ 2 ∷ 3 ∷ 4 ∷ [])
  go true q r s = inl refl
  go false true r s = inr (inl refl)
  go false false true s = inr (inr (inl refl))
  go false false false true = inr (inr (inr (inl refl)))
  go false false false false = inr (inr (inr (inr (inl refl))))

pub scalar_below : (c : ℕ) → is_scalar c ≡ true → c < 0x110000
scalar_below c e = elim (or_cases (nat_lt c 0xd800) (nat_lt 0xdfff c && nat_lt c 0x110000) e) [
  | inl l ↦ let m : c < 0xd800 = ltb-true c 0xd800 l in omega arith
  | inr r ↦ let (a, b) = and_parts (nat_lt 0xdfff c) (nat_lt c 0x110000) r in ltb-true c 0x110000 b
]

-- each character is there
pub ordered_has : (n c : ℕ) → is_scalar c ≡ true → c < n → IsIn c (ordered_below n)
unfolding ordered_below
ordered_has n c e l =
    in_flat_map (λ g. filter (λ c. is_scalar c && nat_eq (group_of c) g) (range_with_len 0 n)) c (group_of c)
    (0 ∷ 1 ∷ 2 ∷ 3 ∷ 4 ∷ [])
    (group_is c)
    (in_filter (λ d. is_scalar d && nat_eq (group_of d) (group_of c)) c (range_with_len 0 n)
    (range_in 0 n c (omega arith) (omega (arith, l))) (and_from (is_scalar c) (nat_eq (group_of c) (group_of c)) e
    (eq-eqb (group_of c) (group_of c) refl)))

-- the ordered characters are scalar values
pub ordered_only : (n c : ℕ) → IsIn c (ordered_below n) → is_scalar c ≡ true
unfolding ordered_below
ordered_only n c i =
    let (g, j, k) = from_flat_map (λ g. filter (λ c. is_scalar c && nat_eq (group_of c) g) (range_with_len 0 n)) c
    (0 ∷ 1 ∷ 2 ∷ 3 ∷ 4 ∷ []) i in
    let (m, t) = from_filter (λ d. is_scalar d && nat_eq (group_of d) g) c (range_with_len 0 n) k in
    (and_parts (is_scalar c) (nat_eq (group_of c) g) t).0

-- ---- the first of each class
module _ (atoms : List Atom) where
  pub firsts_scalar : (c : ℕ) → IsIn c (class_firsts atoms) → is_scalar c ≡ true
  firsts_scalar c i = elim (M.mentions_only (are_alike (dividers atoms))
      (alike_laws (dividers atoms)) [] characters c i) [
        | inl j ↦ absurd j
        | inr j ↦ ordered_only 0x110000 c j
      ]

  pub firsts_have : (c : ℕ) → is_scalar c ≡ true → list_any (are_alike (dividers atoms) c) (class_firsts atoms) ≡ true
  firsts_have c e =
      let laws = alike_laws (dividers atoms) in
      M.mentions_have (are_alike (dividers atoms)) laws [] characters c c
      (ordered_has 0x110000 c e (scalar_below c e)) (laws.refl c)

  pub firsts_distinct : IsDistinct (are_alike (dividers atoms)) (class_firsts atoms)
  unfolding IsDistinct
  firsts_distinct = M.mentions_distinct (are_alike (dividers atoms)) (alike_laws (dividers atoms)) [] characters tt
