-- Classes divide the characters, and are in the order of their first characters.
use Rattle.std.proofs.Common.{◌≡◌, ℕ, zero, suc, ◌<◌, ◌⊎◌, inl, inr, List, [], ◌∷◌, Bool, true, ◌&&◌, get_or, length, nat_eq, nat_lt, nat_le, ap, sym, ◌∙◌, subst, arith}
use Rattle.std.specs.Cmp.{IsEquivalence}
use Rattle.std.proofs.lemmas.Bool.{and_parts, and_from, cases_lt, or_left, or_right, lt-ltb, le-leb, eq-eqb}
use Rattle.std.proofs.lemmas.Map.Keys.{apart_from_distinct}
use Rattle.patterns.specs.CharSet.{is_scalar, group_of, comes_no_later}
use Rattle.word_states.specs.Atom.{Atom}
use Rattle.word_states.specs.Classes.{are_alike, dividers, class_firsts, class_count, class_of}
use Rattle.word_laws.specs.Laws.{ClassesDivide, FirstsComeFirst, ClassesInOrder}
use Rattle.list_laws.proofs.Lists.{get_or-in}
use Rattle.list_laws.specs.In.{IsIn}
use Rattle.word_laws.proofs.Places.{place_below, place_same}
use Rattle.word_laws.proofs.Classes.{alike_laws, firsts_have, firsts_distinct}
use Rattle.word_laws.proofs.Firsts.{Before, Rising, firsts_are}

module _ (atoms : List Atom) where
  abbrev alike : ℕ → ℕ → Bool
  alike = are_alike (dividers atoms)

  laws : IsEquivalence alike
  laws = alike_laws (dividers atoms)

  first_at : ℕ → ℕ
  first_at k = get_or (class_firsts atoms) k 0

  -- firsts that are alike have one number
  one_number : (j k : ℕ) → j < class_count atoms → k < class_count atoms
      → alike (get_or (class_firsts atoms) j 0) (get_or (class_firsts atoms) k 0) ≡ true → j ≡ k
  one_number j k a b e = elim (cases_lt j k) [
    | inl l ↦
        let f = apart_from_distinct alike (class_firsts atoms) j k 0 (firsts_distinct atoms) l b in cc (e, f)
    | inr l ↦ elim (cases_lt k j) [
      | inl m ↦
          let f = apart_from_distinct alike (class_firsts atoms) k j 0 (firsts_distinct atoms) m a in
          let t = laws.symm (get_or (class_firsts atoms) k 0) (get_or (class_firsts atoms) j 0) ∙ e in cc (t, f)
      | inr m ↦ omega (arith, l, m)
    ]
  ]

-- each character is in exactly one class
pub classes_divide : ClassesDivide
classes_divide atoms c e =
    let same = are_alike (dividers atoms) in
    let laws = alike_laws (dividers atoms) in
    let h = firsts_have atoms c e in
    let l = place_below same laws c (class_firsts atoms) h in
    let s : same c (get_or (class_firsts atoms) (class_of atoms c) 0) ≡ true =
    place_same same laws c 0 (class_firsts atoms) h in (
      l,
      and_from (is_scalar c) (same (get_or (class_firsts atoms) (class_of atoms c) 0) c) e
          (laws.symm (get_or (class_firsts atoms) (class_of atoms c) 0) c ∙ s),
      (λ k m i.
          let (a, b) = and_parts (is_scalar c) (same (get_or (class_firsts atoms) k 0) c) i in
          one_number atoms k (class_of atoms c) m l (laws.congr (get_or (class_firsts atoms) k 0) c
          (get_or (class_firsts atoms) (class_of atoms c) 0) b ∙ s)),
    )

pub no_later : (c d : ℕ) → (c ≡ d) ⊎ Before c d → comes_no_later c d ≡ true
no_later c d (inl e) =
    or_right (nat_lt (group_of c) (group_of d)) (nat_eq (group_of c) (group_of d) && nat_le c d)
    (and_from (nat_eq (group_of c) (group_of d)) (nat_le c d) (eq-eqb (group_of c) (group_of d) (ap group_of e))
    (le-leb c d (omega (arith, e))))
no_later c d (inr (inl l)) =
    or_left (nat_lt (group_of c) (group_of d)) (nat_eq (group_of c) (group_of d) && nat_le c d)
    (lt-ltb (group_of c) (group_of d) l)
no_later c d (inr (inr (g, l))) =
    or_right (nat_lt (group_of c) (group_of d)) (nat_eq (group_of c) (group_of d) && nat_le c d)
    (and_from (nat_eq (group_of c) (group_of d)) (nat_le c d) (eq-eqb (group_of c) (group_of d) g)
    (le-leb c d (omega (arith, l))))

pub firsts_come_first : FirstsComeFirst
firsts_come_first atoms k c l i =
    let sets = dividers atoms in
    let laws = alike_laws sets in
    let f = get_or (class_firsts atoms) k 0 in
    let are = firsts_are sets in
    let (e, s) = and_parts (is_scalar c) (are_alike sets f c) i in
    let (d, j, t, b) = are.first c e in
    let m : IsIn f (class_firsts atoms) = get_or-in (class_firsts atoms) k 0 l in
    let q : f ≡ d = are.apart f d m j (laws.congr f c d s ∙ t) in (
      and_from (is_scalar f) (are_alike sets f f) (are.scalar f m) (laws.refl f),
      no_later f c (subst (λ z. (z ≡ c) ⊎ Before z c) (sym q) b),
    )

rising_at : (L : List ℕ) (j k d : ℕ) → Rising L → j < k → k < length L → Before (get_or L j d) (get_or L k d)
rising_at [] j k d r l m = absurd (omega (arith, m))
rising_at (x ∷ L) zero zero d r l m = absurd (omega (arith, l))
rising_at (x ∷ L) zero (suc k) d r l m = r.0 (get_or L k d) (get_or-in L k d (omega (arith, m)))
rising_at (x ∷ L) (suc j) zero d r l m = absurd (omega (arith, l))
rising_at (x ∷ L) (suc j) (suc k) d r l m = rising_at L j k d r.1 (omega (arith, l)) (omega (arith, m))

pub classes_in_order : ClassesInOrder
classes_in_order atoms j k l m =
    no_later (get_or (class_firsts atoms) j 0) (get_or (class_firsts atoms) k 0)
    (inr (rising_at (class_firsts atoms) j k 0 (firsts_are (dividers atoms)).rising l m))
