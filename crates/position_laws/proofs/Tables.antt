-- Numbers that fall in place make a list of positions a table: counting makes ranks of them.
use Rattle.std.proofs.Common.{◌≡◌, ℕ, zero, suc, ◌+◌, ◌<◌, ◌≤◌, inl, inr, true, cond, nat_lt, nat_eq, List, [], ◌∷◌, length, get_or, refl, sym, subst, arith}
use Rattle.std.specs.List.{AllByRecursion}
use Rattle.std.proofs.lemmas.Bool.{and_parts, ltb-true, lt-ltb, le-ltb, cond-true, cond-false, cases_lt}
use Rattle.documents.specs.Tests.{every}
use Rattle.positions.specs.Position.{Position, False, position_at, in_place, of_parts, names_below, in_range, ranks_fall, is_table}
use Rattle.positions.specs.Holds.{IsTable}
use Rattle.position_laws.proofs.Counts.{passing, passing-bound, passing-less}
use Rattle.list_laws.proofs.Elements.{all-weaker, all-both, every-all}

-- positions of a list

pub position_at-all : (P : Position → Type 0) → P False → (xs : List Position) → AllByRecursion P xs
    → (p : ℕ) → P (position_at xs p)
position_at-all P f [] h p = f
position_at-all P f (x ∷ xs) h zero = h.0
position_at-all P f (x ∷ xs) h (suc p) = position_at-all P f xs h.1 p

pub position_at-past : (xs : List Position) (p : ℕ) → length xs ≤ p → position_at xs p ≡ False
position_at-past [] p l = refl
position_at-past (x ∷ xs) zero l = absurd (omega arith)
position_at-past (x ∷ xs) (suc p) l = position_at-past xs p (omega arith)

-- what is named in place, and for parts, is in the table
pub names_below-all : (n : ℕ) (P : Position) → names_below n P ≡ true
    → AllByRecursion (λ q. q < n) (in_place P) × AllByRecursion (λ q. q < n) (of_parts P)
names_below-all n P e =
    let (here, parts) = and_parts (every (λ q. nat_lt q n) (in_place P)) (every (λ q. nat_lt q n) (of_parts P)) e in
    (are_below (in_place P) here, are_below (of_parts P) parts) where
      are_below : (qs : List ℕ) → every (λ q. nat_lt q n) qs ≡ true → AllByRecursion (λ q. q < n) qs
      are_below qs h = all-weaker _ _ qs (λ q l. ltb-true q n l) (every-all _ qs h)

ranks_fall-all : (ranks : List ℕ) (k : ℕ) (xs : List Position) → ranks_fall ranks k xs ≡ true
    → (p : ℕ) → AllByRecursion (λ q. get_or ranks q 0 < get_or ranks (k + p) 0) (in_place (position_at xs p))
ranks_fall-all ranks k [] e p = tt
ranks_fall-all ranks k (x ∷ xs) e zero =
    let same : k ≡ k + 0 = omega arith in
    let here = every-all _ (in_place x) (and_parts _ (ranks_fall ranks (suc k) xs) e).0 in
    all-weaker _ _ (in_place x)
    (λ q h. subst (λ i. get_or ranks q 0 < get_or ranks i 0) same (ltb-true _ _ h)) here
ranks_fall-all ranks k (x ∷ xs) e (suc p) =
    let same : suc k + p ≡ k + suc p = omega arith in
    subst (λ i. AllByRecursion (λ q. get_or ranks q 0 < get_or ranks i 0) (in_place (position_at xs p))) same
    (ranks_fall-all ranks (suc k) xs (and_parts _ (ranks_fall ranks (suc k) xs) e).1 p)

-- tables

module _ (T : List Position) (ranks : List ℕ) (e : is_table T ranks ≡ true) where
  -- the four parts of the test
  parts : (nat_eq (length T) (length ranks) ≡ true) × (every (names_below (length T)) T ≡ true)
      × (every in_range T ≡ true) × (ranks_fall ranks 0 T ≡ true)
  parts =
      let (others, fall) = and_parts _ (ranks_fall ranks 0 T) e in
      let (named, range) = and_parts _ (every in_range T) others in
      let (same, below) = and_parts (nat_eq (length T) (length ranks)) (every (names_below (length T)) T) named in
      (same, below, range, fall)

  pub is_table-length : nat_eq (length T) (length ranks) ≡ true
  is_table-length = parts.0

  pub is_table-below : every (names_below (length T)) T ≡ true
  is_table-below = parts.1

  pub is_table-range : every in_range T ≡ true
  is_table-range = parts.2

  pub is_table-fall : ranks_fall ranks 0 T ≡ true
  is_table-fall = parts.3

  pub is_table-names : (p : ℕ) → AllByRecursion (λ q. q < length T) (in_place (position_at T p))
      × AllByRecursion (λ q. q < length T) (of_parts (position_at T p))
  is_table-names p =
      position_at-all (λ P. AllByRecursion (λ q. q < length T) (in_place P)
      × AllByRecursion (λ q. q < length T) (of_parts P)) (tt, tt) T
      (all-weaker _ _ T (λ P h. names_below-all (length T) P h) (every-all _ T is_table-below)) p

  pub is_table-named : (p : ℕ) → AllByRecursion (λ q. q < length T) (in_place (position_at T p))
  is_table-named p = (is_table-names p).0

  -- the numbers of each position have their ranges
  pub is_table-in_range : (p : ℕ) → in_range (position_at T p) ≡ true
  is_table-in_range p = position_at-all (λ P. in_range P ≡ true) refl T (every-all _ T is_table-range) p

  abbrev number : ℕ → ℕ
  number p = get_or ranks p 0

  -- how many positions of the table have a number below v
  abbrev lower : ℕ → ℕ
  lower v = passing (λ q. nat_lt (number q) v) (length T)

  -- a position with a number between two others is counted below the higher one alone
  lower-less : (q v w : ℕ) → q < length T → v ≤ number q → number q < w → lower v < lower w
  lower-less q v w l a b =
      passing-less (λ k. nat_lt (number k) v) (λ k. nat_lt (number k) w)
      (λ k e. lt-ltb (number k) w (omega (arith, ltb-true (number k) v e))) (length T) q l
      (le-ltb (number q) v a) (lt-ltb (number q) w b)

  -- how many positions of the table have a lesser number; 0 past the end
  abbrev rank_of : ℕ → ℕ
  rank_of p = cond (nat_lt p (length T)) (lower (number p)) 0

  rank_of-inside : (p : ℕ) → p < length T → rank_of p ≡ lower (number p)
  rank_of-inside p l = cond-true (nat_lt p (length T)) _ 0 (lt-ltb p (length T) l)

  rank_of-past : (p : ℕ) → length T ≤ p → rank_of p ≡ 0
  rank_of-past p l = cond-false (nat_lt p (length T)) _ 0 (le-ltb p (length T) l)

  rank_of-bounded : 0 < length T → (p : ℕ) → rank_of p < length T
  rank_of-bounded some p =
      elim (cases_lt p (length T)) [
        | inl l ↦
            let less : lower (number p) < lower (suc (number p)) =
            lower-less p (number p) (suc (number p)) l (omega arith) (omega arith) in
            let bound : lower (suc (number p)) ≤ length T = passing-bound _ (length T) in
            omega (arith, rank_of-inside p l)
        | inr l ↦ omega (arith, rank_of-past p l)
      ]

  rank_of-falls : (p : ℕ) → AllByRecursion (λ q. rank_of q < rank_of p) (in_place (position_at T p))
  rank_of-falls p =
      elim (cases_lt p (length T)) [
        | inl l ↦
            all-both _ _ _ (in_place (position_at T p))
            (λ q below falls.
            let less : lower (number q) < lower (number p) =
            lower-less q (number q) (number p) below (omega arith) falls in
            omega (arith, rank_of-inside p l, rank_of-inside q below))
            (is_table-named p) (fall p)
        | inr l ↦
            subst (λ P. AllByRecursion (λ q. rank_of q < rank_of p) (in_place P))
            (sym (position_at-past T p l)) tt
      ] where
        fall : (p : ℕ) → AllByRecursion (λ q. number q < number p) (in_place (position_at T p))
        fall p =
            let same : 0 + p ≡ p = omega arith in
            subst (λ i. AllByRecursion (λ q. number q < number i) (in_place (position_at T p))) same
            (ranks_fall-all ranks 0 T is_table-fall p)

  -- an empty list has no ranks below its length, and nothing to hold
  pub is_table-IsTable : 0 < length T → IsTable T
  is_table-IsTable some = record {
    rank = rank_of;
    ranked = record { bounded = rank_of-bounded some; falls = rank_of-falls };
    named = is_table-named;
    parts_named = λ p. (is_table-names p).1;
  }
