-- The group of a set has bounds and divisors in their ranges, where the positions of its table have.
use Rattle.std.proofs.Common.{◌≡◌, ℕ, ℤ, pos, negsuc, ◌+ℤ◌, ◌-ℤ◌, ◌^◌, ◌-◌, int_le, nat_le, nat_lt, unsigned_abs, List, [], ◌∷◌, Bool, true, false, cond, Option, Some, None, refl, arith}
use Rattle.std.specs.List.{list_all}
use Rattle.std.proofs.lemmas.Int.{ints}
use Rattle.std.proofs.lemmas.Bool.{and_parts, and_from, le-leb}
use Rattle.positions.specs.Position.{Position, NumMin, NumMax, Multiple, position_at, in_range, is_table}
use Rattle.position_laws.proofs.Tables.{is_table-in_range}
use Rattle.goals.specs.Signed.{Signed, Plus, Minus}
use Rattle.number_groups.specs.Group.{Group, is_near, is_ready}
use Rattle.number_finder.specs.SetGroup.{Ask, AtLeast, AtMost, MultipleOf, NotMultipleOf, OneOf, NoneOf, Nothing, plus_ask, minus_ask, ask_at, group_of, greater, lesser, both, number_group}

near_low : (n : ℤ) → int_le (negsuc (2 ^ 63 - 1)) n ≡ true → int_le n (pos (2 ^ 64)) ≡ true
    → nat_le (unsigned_abs n) (2 ^ 64) ≡ true
near_low n a b = le-leb _ _ (grind (arith, ints))

near_high : (n : ℤ) → int_le (negsuc (2 ^ 63)) n ≡ true → int_le n (pos (2 ^ 64 - 1)) ≡ true
    → nat_le (unsigned_abs n) (2 ^ 64) ≡ true
near_high n a b = le-leb _ _ (grind (arith, ints))

near_above : (n : ℤ) → int_le (negsuc (2 ^ 63)) n ≡ true → int_le n (pos (2 ^ 64 - 1)) ≡ true
    → nat_le (unsigned_abs (n +ℤ pos 1)) (2 ^ 64) ≡ true
near_above n a b = le-leb _ _ (grind (arith, ints))

near_below : (n : ℤ) → int_le (negsuc (2 ^ 63 - 1)) n ≡ true → int_le n (pos (2 ^ 64)) ≡ true
    → nat_le (unsigned_abs (n -ℤ pos 1)) (2 ^ 64) ≡ true
near_below n a b = le-leb _ _ (grind (arith, ints))

-- each requirement has its range

abbrev is_fine : Ask → Bool
is_fine (AtLeast n) = nat_le (unsigned_abs n) (2 ^ 64)
is_fine (AtMost n) = nat_le (unsigned_abs n) (2 ^ 64)
is_fine (MultipleOf m) = nat_lt 0 m
is_fine (NotMultipleOf m) = nat_lt 0 m
is_fine _ = true

plus_fine : (P : Position) → in_range P ≡ true → is_fine (plus_ask P) ≡ true
plus_fine (NumMin n) e =
    let (a, b) = and_parts (int_le (negsuc (2 ^ 63 - 1)) n) (int_le n (pos (2 ^ 64))) e in near_low n a b
plus_fine (NumMax n) e =
    let (a, b) = and_parts (int_le (negsuc (2 ^ 63)) n) (int_le n (pos (2 ^ 64 - 1))) e in near_high n a b
plus_fine (Multiple m) e = e
plus_fine _ e = refl

minus_fine : (P : Position) → in_range P ≡ true → is_fine (minus_ask P) ≡ true
minus_fine (NumMin n) e =
    let (a, b) = and_parts (int_le (negsuc (2 ^ 63 - 1)) n) (int_le n (pos (2 ^ 64))) e in near_below n a b
minus_fine (NumMax n) e =
    let (a, b) = and_parts (int_le (negsuc (2 ^ 63)) n) (int_le n (pos (2 ^ 64 - 1))) e in near_above n a b
minus_fine (Multiple m) e = e
minus_fine _ e = refl

near_greater : (m : ℤ) (low : Option ℤ) → nat_le (unsigned_abs m) (2 ^ 64) ≡ true → is_near low ≡ true
    → is_near (greater (Some m) low) ≡ true
near_greater m None e h = e
near_greater m (Some k) e h = go (int_le m k) where
  go : (b : Bool) → nat_le (unsigned_abs (cond b k m)) (2 ^ 64) ≡ true
  go true = h
  go false = e

near_lesser : (m : ℤ) (high : Option ℤ) → nat_le (unsigned_abs m) (2 ^ 64) ≡ true → is_near high ≡ true
    → is_near (lesser (Some m) high) ≡ true
near_lesser m None e h = e
near_lesser m (Some k) e h = go (int_le m k) where
  go : (b : Bool) → nat_le (unsigned_abs (cond b m k)) (2 ^ 64) ≡ true
  go true = e
  go false = h

record IsReady (g : Group) : Type 0 where
  low : is_near g.low ≡ true
  high : is_near g.high ≡ true
  multiples : list_all (λ m. nat_lt 0 m) g.multiples ≡ true
  not_multiples : list_all (λ m. nat_lt 0 m) g.not_multiples ≡ true

ready_one : (a : Ask) (g : Group) → is_fine a ≡ true → IsReady g → IsReady (both (group_of a) g)
ready_one (AtLeast m) g e r = record {
  low = near_greater m g.low e r.low;
  high = r.high;
  multiples = r.multiples;
  not_multiples = r.not_multiples;
}
ready_one (AtMost m) g e r = record {
  low = r.low;
  high = near_lesser m g.high e r.high;
  multiples = r.multiples;
  not_multiples = r.not_multiples;
}
ready_one (MultipleOf m) g e r = record {
  low = r.low;
  high = r.high;
  multiples = and_from _ _ e r.multiples;
  not_multiples = r.not_multiples;
}
ready_one (NotMultipleOf m) g e r = record {
  low = r.low;
  high = r.high;
  multiples = r.multiples;
  not_multiples = and_from _ _ e r.not_multiples;
}
ready_one (OneOf ns) g e r = record {
  low = r.low;
  high = r.high;
  multiples = r.multiples;
  not_multiples = r.not_multiples;
}
ready_one (NoneOf ns) g e r = record {
  low = r.low;
  high = r.high;
  multiples = r.multiples;
  not_multiples = r.not_multiples;
}
ready_one Nothing g e r = record {
  low = r.low;
  high = r.high;
  multiples = r.multiples;
  not_multiples = r.not_multiples;
}

module _ (T : List Position) (range : (p : ℕ) → in_range (position_at T p) ≡ true) where
  fine_at : (x : Signed) → is_fine (ask_at T x) ≡ true
  fine_at (Plus p) = plus_fine (position_at T p) (range p)
  fine_at (Minus p) = minus_fine (position_at T p) (range p)

  ready_group : (S : List Signed) → IsReady (number_group T S)
  ready_group [] = record { low = refl; high = refl; multiples = refl; not_multiples = refl }
  ready_group (x ∷ S) = ready_one (ask_at T x) (number_group T S) (fine_at x) (ready_group S)

  pub is_ready-number_group : (S : List Signed) → is_ready (number_group T S) ≡ true
  is_ready-number_group S =
      let r = ready_group S in
      and_from _ _ (and_from _ _ (and_from _ _ r.low r.high) r.multiples) r.not_multiples

-- so it is where the positions are those of a table
pub table-is_ready : (T : List Position) (ranks : List ℕ) → is_table T ranks ≡ true → (S : List Signed)
    → is_ready (number_group T S) ≡ true
table-is_ready T ranks e S = is_ready-number_group T (is_table-in_range T ranks e) S
