-- Pieces of one number.
use Rattle.std.proofs.Common.{◌≡◌, ℕ, ◌+◌, ◌<◌, ◌≤◌, ◌⊎◌, inl, inr, Bool, true, false, ◌&&◌, ◌||◌, not, nat_eq, nat_le, nat_lt, if◌then◌else◌, List, [], ◌∷◌, Some, None, ◌++◌, length, drop, get_or, refl, sym, ◌∙◌, ap, ap₂, subst, arith, length-append}
use Rattle.std.specs.Bool.{beq}
use Rattle.std.specs.List.{IsDistinct, list_any, slice_get}
use Rattle.indexmap.specs.IndexSet.{insert_key}
use Rattle.std.proofs.lemmas.Option.{get_or_from_slice_get, slice_get_cases}
use Rattle.std.proofs.lemmas.Bool.Decides.{nat_tests}
use Rattle.std.proofs.lemmas.Bool.{eqb-true, and_parts, cases_lt, eq-eqb}
use Rattle.std.proofs.lemmas.Map.Keys.{apart_from_distinct}
use Rattle.std.proofs.Math.Seq.{get_or-append_seam}
use Rattle.std.proofs.lemmas.List.{get_or_append_left}
use Rattle.patterns.specs.CharSet.{has, is_within}
use Rattle.word_states.specs.Classes.{are_alike}
use Rattle.js_automaton.specs.Pieces.{AreRising, AreNumbers, AreSides, are_same_letter, are_like}
use Rattle.js_automaton.proofs.PieceLemmas.{has_rest, has_none, alike_rest, alike_none}
use Rattle.list_laws.proofs.Numbers.{lt-nat_eq}
use Rattle.std.proofs.Math.Bool.{and_assoc}

-- ---- sides
-- pieces have the side that the ranges before place i give them
abbrev pub RestSides : List ℕ → List ℕ → List (ℕ × ℕ) → ℕ → Type 0
RestSides starts sides rs i =
    (k : ℕ) → k < length starts
    → (if has (drop i rs) (get_or starts k 0) then 1 else get_or sides k 0)
    ≡ (if has rs (get_or starts k 0) then 1 else 0)

next_side : (a b : Bool) (x y z : ℕ) → x ≡ (if a then 1 else y)
    → (if a || b then 1 else y) ≡ z → (if b then 1 else x) ≡ z
next_side true true x y z e f = f
next_side true false x y z e f = e ∙ f
next_side false true x y z e f = f
next_side false false x y z e f = e ∙ f

pub sides-next : (starts old new : List ℕ) (rs : List (ℕ × ℕ)) (i : ℕ) (r : ℕ × ℕ) → RestSides starts old rs i
    → i < length rs → r ≡ get_or rs i r
    → ((k : ℕ) → k < length starts → get_or new k 0 ≡ (if is_within r (get_or starts k 0) then 1 else get_or old k 0))
    → RestSides starts new rs (i + 1)
sides-next starts old new rs i r rest within is more k l =
    next_side (is_within r (get_or starts k 0)) (has (drop (i + 1) rs) (get_or starts k 0)) _ (get_or old k 0) _
    (more k l)
    (ap (λ b. if b then 1 else get_or old k 0) (sym (has_rest rs i r (get_or starts k 0) within is)) ∙ rest k l)

pub sides-all : (starts sides : List ℕ) (rs : List (ℕ × ℕ)) (i : ℕ) → length sides ≡ length starts
    → RestSides starts sides rs i → length rs ≤ i → AreSides starts sides (has rs)
sides-all starts sides rs i long rest past = (
  long,
  λ k l. sym (ap (λ b. if b then 1 else get_or sides k 0) (has_none rs i (get_or starts k 0) past)) ∙ rest k l,
)

-- ---- numbers by pairs
abbrev pub pair_eq : ℕ × ℕ → ℕ × ℕ → Bool
pair_eq x y = nat_eq x.0 y.0 && nat_eq x.1 y.1

-- the first i pieces have the places of their pairs among the keys
pub record AreKeyed (old sides : List ℕ) (keys : List (ℕ × ℕ)) (new : List ℕ) (i : ℕ) : Type 0 where
  pub distinct : IsDistinct pair_eq keys
  pub long : length new ≡ i
  pub within : (k : ℕ) → k < i → get_or new k 0 < length keys
  pub at : (k : ℕ) → k < i → get_or keys (get_or new k 0) (0, 0) ≡ (get_or old k 0, get_or sides k 0)

pub keyed-next : (old sides : List ℕ) (keys after : List (ℕ × ℕ)) (new more : List ℕ) (i place : ℕ) (x : ℕ × ℕ)
    → AreKeyed old sides keys new i → x ≡ (get_or old i 0, get_or sides i 0)
    → IsDistinct pair_eq after → length keys ≤ length after
    → ((k : ℕ) → k < length keys → get_or after k (0, 0) ≡ get_or keys k (0, 0))
    → place < length after → get_or after place (0, 0) ≡ x → more ≡ new ++ place ∷ []
    → AreKeyed old sides after more (i + 1)
keyed-next old sides keys after new more i place x h is distinct longer stay within at pushed = record {
  distinct = distinct;
  long = ap length pushed ∙ length-append new (place ∷ []) ∙ ap (λ n. n + 1) h.long;
  within = λ k l. elim (cases_lt k i) [
    | inl less ↦
        let w = h.within k less in
        let e : get_or more k 0 ≡ get_or new k 0 = first k less in omega (arith, w, e, longer)
    | inr m ↦
        let q : k ≡ i = omega (arith, m, l) in
        let e : get_or more k 0 ≡ place = last k q in omega (arith, e, within)
  ];
  at = λ k l. elim (cases_lt k i) [
    | inl less ↦ ap (λ p. get_or after p (0, 0)) (first k less) ∙ stay (get_or new k 0) (h.within k less) ∙ h.at k less
    | inr m ↦
        let q : k ≡ i = omega (arith, m, l) in
        ap (λ p. get_or after p (0, 0)) (last k q) ∙ at ∙ is ∙ ap (λ k. (get_or old k 0, get_or sides k 0)) (sym q)
  ];
} where
  first : (k : ℕ) → k < i → get_or more k 0 ≡ get_or new k 0
  first k l = ap (λ xs. get_or xs k 0) pushed ∙ get_or_append_left new (place ∷ []) 0 k (omega (arith, l, h.long))

  last : (k : ℕ) → k ≡ i → get_or more k 0 ≡ place
  last k q =
      ap (λ xs. get_or xs k 0) pushed ∙ ap (λ n. get_or (new ++ place ∷ []) n 0) (q ∙ sym h.long)
      ∙ get_or-append_seam new place [] 0

pub keyed-none : (old sides : List ℕ) (keys : List (ℕ × ℕ)) (new : List ℕ) → IsDistinct pair_eq keys → new ≡ []
    → AreKeyed old sides keys new 0
keyed-none old sides keys new d e = record {
  distinct = d;
  long = ap length e;
  within = λ k l. absurd (omega (arith, l));
  at = λ k l. absurd (omega (arith, l));
}

pub keyed-insert : (old sides : List ℕ) (keys after : List (ℕ × ℕ)) (new more : List ℕ) (i place : ℕ) (x : ℕ × ℕ)
    → AreKeyed old sides keys new i → x ≡ (get_or old i 0, get_or sides i 0) → IsDistinct pair_eq after
    → after ≡ insert_key pair_eq keys x
    → (k : ℕ × ℕ) × (slice_get after place ≡ Some k) × (pair_eq x k ≡ true) → more ≡ new ++ place ∷ []
    → AreKeyed old sides after more (i + 1)
keyed-insert old sides keys after new more i place x h is distinct inserted (y, at, same) pushed =
    keyed-next old sides keys after new more i place x h is distinct (longer (list_any (pair_eq x) keys) inserted)
    (stay (list_any (pair_eq x) keys) inserted) (inside (slice_get_cases after place).1)
    (get_or_from_slice_get after place y (0, 0) at ∙ sym (pairs x y same)) pushed where
      pairs : (x y : ℕ × ℕ) → pair_eq x y ≡ true → x ≡ y
      pairs x y e =
          let (a, b) = and_parts (nat_eq x.0 y.0) (nat_eq x.1 y.1) e in
          ap₂ (λ u v. (u, v)) (eqb-true x.0 y.0 a) (eqb-true x.1 y.1 b)

      longer : (b : Bool) → after ≡ (if b then keys else keys ++ x ∷ []) → length keys ≤ length after
      longer true e = let l = ap length e in omega (arith, l)
      longer false e = let l = ap length e ∙ length-append keys (x ∷ []) in omega (arith, l)

      stay : (b : Bool) → after ≡ (if b then keys else keys ++ x ∷ []) → (k : ℕ) → k < length keys
          → get_or after k (0, 0) ≡ get_or keys k (0, 0)
      stay true e k l = ap (λ ks. get_or ks k (0, 0)) e
      stay false e k l = ap (λ ks. get_or ks k (0, 0)) e ∙ get_or_append_left keys (x ∷ []) (0, 0) k l

      inside : ((z : ℕ × ℕ) × (place < length after) × (slice_get after place ≡ Some z) × (get_or after place z ≡ z))
          ⊎ ((length after ≤ place) × (slice_get after place ≡ None)) → place < length after
      inside (inl (z, l, e, f)) = l
      inside (inr (l, e)) = let q = sym at ∙ e in absurd (cc q)

pub keyed-all : (old sides : List ℕ) (keys : List (ℕ × ℕ)) (new : List ℕ) (i : ℕ) → AreKeyed old sides keys new i
    → length old ≤ i → (j k : ℕ) → j < length old → k < length old
    → nat_eq (get_or new j 0) (get_or new k 0)
    ≡ (nat_eq (get_or old j 0) (get_or old k 0) && nat_eq (get_or sides j 0) (get_or sides k 0))
keyed-all old sides keys new i h past j k a b =
    by (get_or new j 0) (get_or new k 0) (h.at j (omega (arith, a, past))) (h.at k (omega (arith, b, past)))
    (h.within j (omega (arith, a, past))) (h.within k (omega (arith, b, past)))
    (cases_lt (get_or new j 0) (get_or new k 0)) where
      pair_of : ℕ → ℕ × ℕ
      pair_of k = (get_or old k 0, get_or sides k 0)

      same : (x : ℕ × ℕ) → pair_eq x x ≡ true
      same x = grind (arith, nat_tests)

      flip : (x y : ℕ × ℕ) → pair_eq x y ≡ pair_eq y x
      flip x y = grind (arith, nat_tests)

      by : (p q : ℕ) → get_or keys p (0, 0) ≡ pair_of j → get_or keys q (0, 0) ≡ pair_of k → p < length keys
          → q < length keys → (p < q) ⊎ (q ≤ p) → nat_eq p q ≡ pair_eq (pair_of j) (pair_of k)
      by p q e f l m (inl less) =
          lt-nat_eq p q less
          ∙ sym (ap₂ pair_eq (sym e) (sym f) ∙ apart_from_distinct pair_eq keys p q (0, 0) h.distinct less m)
      by p q e f l m (inr more) = elim (cases_lt q p) [
        | inl less ↦
            not_same p q less
            ∙ sym (ap₂ pair_eq (sym e) (sym f) ∙ flip (get_or keys p (0, 0)) (get_or keys q (0, 0))
            ∙ apart_from_distinct pair_eq keys q p (0, 0) h.distinct less l)
        | inr n ↦
            let is : p ≡ q = omega (arith, more, n) in
            eq-eqb p q is
            ∙ sym (ap₂ pair_eq (sym e) (sym f)
            ∙ ap (λ z. pair_eq (get_or keys p (0, 0)) (get_or keys z (0, 0))) (sym is)
            ∙ same (get_or keys p (0, 0)))
      ] where
        not_same : (p q : ℕ) → q < p → nat_eq p q ≡ false
        not_same p q l = grind (arith, nat_tests)

-- ---- numbers by all sets
abbrev pub RestNumbers : List ℕ → List ℕ → List (List (ℕ × ℕ)) → List (ℕ × ℕ) → ℕ → Type 0
RestNumbers starts numbers sets letters i =
    (length numbers ≡ length starts)
    × ((j k : ℕ) → j < length starts → k < length starts
    → (nat_eq (get_or numbers j 0) (get_or numbers k 0)
    && are_alike (drop i sets) (get_or starts j 0) (get_or starts k 0))
    ≡ are_like sets letters (get_or starts j 0) (get_or starts k 0))

sides_same : (a b : Bool) (x y : ℕ) → x ≡ (if a then 1 else 0) → y ≡ (if b then 1 else 0) → nat_eq x y ≡ beq a b
sides_same true true x y e f = grind (arith, nat_tests)
sides_same true false x y e f = grind (arith, nat_tests)
sides_same false true x y e f = grind (arith, nat_tests)
sides_same false false x y e f = grind (arith, nat_tests)

pub numbers-next : (starts old sides new : List ℕ) (sets : List (List (ℕ × ℕ))) (letters : List (ℕ × ℕ)) (i : ℕ)
    (s : List (ℕ × ℕ)) → RestNumbers starts old sets letters i → i < length sets → s ≡ get_or sets i s
    → AreSides starts sides (has s) → length new ≡ length old
    → ((j k : ℕ) → j < length old → k < length old → nat_eq (get_or new j 0) (get_or new k 0)
    ≡ (nat_eq (get_or old j 0) (get_or old k 0) && nat_eq (get_or sides j 0) (get_or sides k 0)))
    → RestNumbers starts new sets letters (i + 1)
numbers-next starts old sides new sets letters i s rest within is by long more = (
  long ∙ rest.0,
  λ j k a b.
      let d = get_or starts j 0 in
      let e = get_or starts k 0 in
      ap (λ x. x && are_alike (drop (i + 1) sets) d e)
      (more j k (omega (arith, a, rest.0)) (omega (arith, b, rest.0))
      ∙ ap (λ x. nat_eq (get_or old j 0) (get_or old k 0) && x)
      (sides_same (has s d) (has s e) (get_or sides j 0) (get_or sides k 0) (by.1 j a) (by.1 k b)))
      ∙ and_assoc (nat_eq (get_or old j 0) (get_or old k 0)) (beq (has s d) (has s e))
      (are_alike (drop (i + 1) sets) d e)
      ∙ sym (ap (λ x. nat_eq (get_or old j 0) (get_or old k 0) && x) (alike_rest sets i s d e within is))
      ∙ rest.1 j k a b,
)

-- new numbers, by old ones and by sides
abbrev pub AreSplit : List ℕ → List ℕ → List ℕ → Type 0
AreSplit old sides new =
    (length new ≡ length old)
    × ((j k : ℕ) → j < length old → k < length old → nat_eq (get_or new j 0) (get_or new k 0)
    ≡ (nat_eq (get_or old j 0) (get_or old k 0) && nat_eq (get_or sides j 0) (get_or sides k 0)))

pub split-read : (old sides seen seen_sides new : List ℕ) → seen ≡ old → seen_sides ≡ sides
    → AreSplit seen seen_sides new → AreSplit old sides new
split-read old sides seen seen_sides new e f s =
    subst (λ xs. AreSplit xs sides new) e (subst (λ ys. AreSplit seen ys new) f s)

pub numbers-all : (starts numbers : List ℕ) (sets : List (List (ℕ × ℕ))) (letters : List (ℕ × ℕ)) (i : ℕ)
    → RestNumbers starts numbers sets letters i → length sets ≤ i → AreNumbers starts numbers (are_like sets letters)
numbers-all starts numbers sets letters i rest past = (
  rest.0,
  λ j k a b.
      and_right (nat_eq (get_or numbers j 0) (get_or numbers k 0)) _
      (alike_none sets i (get_or starts j 0) (get_or starts k 0) past)
      ∙ rest.1 j k a b,
) where
  and_right : (a b : Bool) → b ≡ true → a ≡ (a && b)
  and_right true b e = sym e
  and_right false b e = refl

-- ---- numbers by letters
letter_same : (p q cd : Bool) (c d x y u v : ℕ) → cd ≡ nat_eq c d → (cd ≡ true → p ≡ q)
    → x ≡ (if p then 1 else 0) → y ≡ (if q then 1 else 0)
    → u ≡ (if nat_eq x 0 then 0 else c) → v ≡ (if nat_eq y 0 then 0 else d)
    → (nat_eq x y && nat_eq u v) ≡ (if p then cd else not q)
letter_same true true cd c d x y u v e f g h m n =
    ap₂ (λ a b. nat_eq a b && nat_eq u v) g h ∙ ap₂ nat_eq (m ∙ ap (λ a. if nat_eq a 0 then 0 else c) g)
    (n ∙ ap (λ a. if nat_eq a 0 then 0 else d) h) ∙ sym e
letter_same true false true c d x y u v e f g h m n = absurd (cc (f refl))
letter_same true false false c d x y u v e f g h m n = ap₂ (λ a b. nat_eq a b && nat_eq u v) g h
letter_same false true cd c d x y u v e f g h m n = ap₂ (λ a b. nat_eq a b && nat_eq u v) g h
letter_same false false cd c d x y u v e f g h m n =
    ap₂ (λ a b. nat_eq a b && nat_eq u v) g h ∙ ap₂ nat_eq (m ∙ ap (λ a. if nat_eq a 0 then 0 else c) g)
    (n ∙ ap (λ a. if nat_eq a 0 then 0 else d) h)

pub letter-numbers : (starts sides places new : List ℕ) (letters : List (ℕ × ℕ)) → AreSides starts sides (has letters)
    → ((k : ℕ) → k < length starts
    → get_or places k 0 ≡ (if nat_eq (get_or sides k 0) 0 then 0 else get_or starts k 0))
    → length new ≡ length sides
    → ((j k : ℕ) → j < length sides → k < length sides → nat_eq (get_or new j 0) (get_or new k 0)
    ≡ (nat_eq (get_or sides j 0) (get_or sides k 0) && nat_eq (get_or places j 0) (get_or places k 0)))
    → AreNumbers starts new (are_same_letter letters)
letter-numbers starts sides places new letters by at long more = (
  long ∙ by.0,
  λ j k a b.
      let c = get_or starts j 0 in
      let d = get_or starts k 0 in
      more j k (omega (arith, a, by.0)) (omega (arith, b, by.0))
      ∙ letter_same (has letters c) (has letters d) (nat_eq c d) c d (get_or sides j 0) (get_or sides k 0)
      (get_or places j 0) (get_or places k 0) refl (λ e. ap (has letters) (eqb-true c d e)) (by.1 j a) (by.1 k b)
      (at j a) (at k b),
)

-- ---- one range of a set
pub range-sides : (starts sides old : List ℕ) (low high first i : ℕ) → AreRising starts
    → ((k : ℕ) → k < first → get_or starts k 0 < low)
    → ((k : ℕ) → first ≤ k → k < length starts → low ≤ get_or starts k 0)
    → ((k : ℕ) → first ≤ k → k < i → get_or starts k 0 ≤ high)
    → (i < length starts → high < get_or starts i 0)
    → ((k : ℕ) → k < length starts
    → get_or sides k 0 ≡ (if nat_le first k && nat_lt k i then 1 else get_or old k 0))
    → (k : ℕ) → k < length starts
    → get_or sides k 0 ≡ (if is_within (low, high) (get_or starts k 0) then 1 else get_or old k 0)
range-sides starts sides old low high first i up before after upto past is k l =
    is k l ∙ ap (λ b. if b then 1 else get_or old k 0) (go (cases_lt k first) (cases_lt k i)) where
      out_low : (first k i low high a : ℕ) → k < first → a < low
          → (nat_le first k && nat_lt k i) ≡ is_within (low, high) a
      out_low first k i low high a m n = grind (arith, nat_tests)

      inside : (first k i low high a : ℕ) → first ≤ k → k < i → low ≤ a → a ≤ high
          → (nat_le first k && nat_lt k i) ≡ is_within (low, high) a
      inside first k i low high a m n o p = grind (arith, nat_tests)

      out_high : (first k i low high a : ℕ) → first ≤ k → i ≤ k → high < a
          → (nat_le first k && nat_lt k i) ≡ is_within (low, high) a
      out_high first k i low high a m n o = grind (arith, nat_tests)

      above : i ≤ k → high < get_or starts k 0
      above m = elim (cases_lt i k) [
        | inl less ↦
            let u = up i k less l in let p = past (omega (arith, less, l)) in omega (arith, u, p)
        | inr more ↦
            let q : i ≡ k = omega (arith, m, more) in
            let p = past (omega (arith, q, l)) in
            let e : get_or starts i 0 ≡ get_or starts k 0 = ap (λ n. get_or starts n 0) q in omega (arith, p, e)
      ]

      go : (k < first) ⊎ (first ≤ k) → (k < i) ⊎ (i ≤ k)
          → (nat_le first k && nat_lt k i) ≡ is_within (low, high) (get_or starts k 0)
      go (inl m) q = out_low first k i low high (get_or starts k 0) m (before k m)
      go (inr m) (inl o) = inside first k i low high (get_or starts k 0) m o (after k m l) (upto k m o)
      go (inr m) (inr o) = out_high first k i low high (get_or starts k 0) m o (above o)
