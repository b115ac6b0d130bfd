-- In a table a position holds of a name where what it requires is met, and its atoms are its own and those of the
-- positions that it depends on.
use Rattle.std.proofs.Common.{◌≡◌, ℕ, zero, suc, ◌<◌, List, [], ◌∷◌, ◌++◌, flat_map, length, Bool, not, refl, ap, arith}
use Rattle.std.specs.List.{AllByRecursion}
use Rattle.word_states.specs.Atom.{Atom}
use Rattle.positions.specs.Position.{Position, Same, Not, All, Any, One, position_at, in_place}
use Rattle.positions.specs.Holds.{IsTable}
use Rattle.list_laws.proofs.Elements.{all-weaker, every-same, some-same, exactly_one-same, flat_map-same}
use Rattle.name_truths.specs.NameTruth.{asked_of_string, own_atoms, atoms_within, atoms, asks_name, name_within, name_holds}

-- what is required of a string is required in place
pub asked-in_place : (P : ℕ → Type 0) (X : Position) → AllByRecursion P (in_place X)
    → AllByRecursion P (asked_of_string X)
asked-in_place P (Same q) h = h
asked-in_place P (Not q) h = h
asked-in_place P (All qs) h = h
asked-in_place P (Any qs) h = h
asked-in_place P (One qs) h = h
asked-in_place P _ h = tt

-- a position requires the same where those that it depends on hold alike
pub asks_name-same : (truth : Atom → Bool) (here here' : ℕ → Bool) (P : Position)
    → AllByRecursion (λ q. here q ≡ here' q) (asked_of_string P) → asks_name truth here P ≡ asks_name truth here' P
asks_name-same truth here here' (Same q) h = h.0
asks_name-same truth here here' (Not q) h = ap not h.0
asks_name-same truth here here' (All qs) h = every-same here here' qs h
asks_name-same truth here here' (Any qs) h = some-same here here' qs h
asks_name-same truth here here' (One qs) h = exactly_one-same here here' qs h
asks_name-same truth here here' _ h = refl

module _ (T : List Position) (ok : IsTable T) where
  -- those that a position depends on are of lesser rank
  lower : (p n : ℕ) → ok.rank p < suc n → AllByRecursion (λ q. ok.rank q < n) (asked_of_string (position_at T p))
  lower p n l =
      asked-in_place _ (position_at T p)
      (all-weaker _ _ (in_place (position_at T p)) (λ q m. omega (arith, m, l)) (ok.ranked.falls p))

  both : (P Q : ℕ → Type 0) (xs : List ℕ) → AllByRecursion P xs → AllByRecursion Q xs
      → AllByRecursion (λ x. P x × Q x) xs
  both P Q [] g h = tt
  both P Q (x ∷ xs) g h = ((g.0, h.0), both P Q xs g.1 h.1)

  -- more steps than a position's rank change nothing
  within-same : (truth : Atom → Bool) (n m p : ℕ) → ok.rank p < n → ok.rank p < m
      → name_within T truth n p ≡ name_within T truth m p
  within-same truth zero m p l k = absurd (omega (arith, l))
  within-same truth (suc n) zero p l k = absurd (omega (arith, k))
  within-same truth (suc n) (suc m) p l k =
      let P = position_at T p in
      asks_name-same truth (λ q. name_within T truth n q) (λ q. name_within T truth m q) P
      (all-weaker _ _ (asked_of_string P) (λ q h. within-same truth n m q h.0 h.1)
      (both _ _ (asked_of_string P) (lower p n l) (lower p m k)))

  pub name_holds-asks : (truth : Atom → Bool) (p : ℕ)
      → name_holds T truth p ≡ asks_name truth (λ q. name_holds T truth q) (position_at T p)
  name_holds-asks truth p =
      let b = ok.ranked.bounded p in within-same truth (length T) (suc (length T)) p b (omega (arith, b))

  atoms-same : (n m p : ℕ) → ok.rank p < n → ok.rank p < m → atoms_within T n p ≡ atoms_within T m p
  atoms-same zero m p l k = absurd (omega (arith, l))
  atoms-same (suc n) zero p l k = absurd (omega (arith, k))
  atoms-same (suc n) (suc m) p l k =
      let P = position_at T p in
      ap (λ xs. own_atoms P ++ xs)
      (flat_map-same (atoms_within T n) (atoms_within T m) (asked_of_string P)
      (all-weaker _ _ (asked_of_string P) (λ q h. atoms-same n m q h.0 h.1)
      (both _ _ (asked_of_string P) (lower p n l) (lower p m k))))

  pub atoms-asks : (p : ℕ)
      → atoms T p ≡ own_atoms (position_at T p) ++ flat_map (λ q. atoms T q) (asked_of_string (position_at T p))
  atoms-asks p = let b = ok.ranked.bounded p in atoms-same (length T) (suc (length T)) p b (omega (arith, b))
