-- Where all atoms of a position are known, so are those that it is itself and those of the positions that it depends
-- on.
use Rattle.std.proofs.Common.{◌≡◌, ◌≢◌, ℕ, zero, suc, ◌-◌, List, [], ◌∷◌, flat_map, Bool, true, nat_lt, refl, subst, arith}
use Rattle.std.proofs.lemmas.Bool.{and_parts, and_from}
use Rattle.documents.specs.Tests.{every}
use Rattle.word_states.specs.Atom.{Atom}
use Rattle.positions.specs.Position.{Position, Same, Not, All, Any, One, position_at, of_parts, names_below}
use Rattle.name_truths.specs.NameTruth.{asked_of_string, own_atoms, atoms_within, are_known}
use Rattle.list_laws.proofs.Every.{every-parts}

every-each : (p : Atom → Bool) (f : ℕ → List Atom) (qs : List ℕ) → every p (flat_map f qs) ≡ true
    → every (λ q. every p (f q)) qs ≡ true
every-each p f [] h = refl
every-each p f (q ∷ qs) h =
    let (one, more) = every-parts p (f q) (flat_map f qs) h in
    and_from (every p (f q)) (every (λ q. every p (f q)) qs) one (every-each p f qs more)

pub own_known : (knows : Atom → Bool) (T : List Position) (steps p : ℕ) → steps ≢ 0
    → every knows (atoms_within T steps p) ≡ true → every knows (own_atoms (position_at T p)) ≡ true
own_known knows T zero p some h = absurd (some refl)
own_known knows T (suc n) p some h =
    (every-parts knows (own_atoms (position_at T p)) (flat_map (atoms_within T n)
    (asked_of_string (position_at T p))) h).0

pub asked_known : (knows : Atom → Bool) (T : List Position) (steps p : ℕ) → steps ≢ 0
    → every knows (atoms_within T steps p) ≡ true
    → are_known knows T (steps - 1) (asked_of_string (position_at T p)) ≡ true
asked_known knows T zero p some h = absurd (some refl)
asked_known knows T (suc n) p some h =
    let qs = asked_of_string (position_at T p) in
    let P : ℕ → Type 0 = λ k. are_known knows T k qs ≡ true in
    let one_less : n ≡ suc n - 1 = omega arith in
    subst P one_less
    (every-each knows (atoms_within T n) qs
    (every-parts knows (own_atoms (position_at T p)) (flat_map (atoms_within T n) qs) h).1)

-- the positions that a position depends on at a string are in the table
pub asked_named : (n : ℕ) (P : Position) → names_below n P ≡ true → every (λ q. nat_lt q n) (asked_of_string P) ≡ true
asked_named n (Same q) h = (and_parts _ (every (λ q. nat_lt q n) (of_parts (Same q))) h).0
asked_named n (Not q) h = (and_parts _ (every (λ q. nat_lt q n) (of_parts (Not q))) h).0
asked_named n (All qs) h = (and_parts _ (every (λ q. nat_lt q n) (of_parts (All qs))) h).0
asked_named n (Any qs) h = (and_parts _ (every (λ q. nat_lt q n) (of_parts (Any qs))) h).0
asked_named n (One qs) h = (and_parts _ (every (λ q. nat_lt q n) (of_parts (One qs))) h).0
asked_named n _ h = refl

-- where everything is known
pub all_are_known : (xs : List Atom) → every (λ a. true) xs ≡ true
all_are_known [] = refl
all_are_known (x ∷ xs) = all_are_known xs
