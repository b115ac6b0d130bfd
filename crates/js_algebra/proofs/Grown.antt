-- What a set in the order of its members has, the rising list that it stands for, and what is added to it.
use Rattle.std.proofs.Common.{◌≡◌, ℕ, zero, suc, ◌≤◌, ⊎_elim, Bool, true, false, ◌||◌, cond, List, [], ◌∷◌, ◌++◌, take, length, refl, arith, ap, sym, ◌∙◌, subst}
use Rattle.std.proofs.Math.Bool.{or_comm, or-false}
use Rattle.std.proofs.lemmas.List.{take-append-le}
use Rattle.std.proofs.lemmas.Bool.{true≢false, or_cases, or_left, or_right}
use Rattle.std.proofs.lemmas.Grind.{common_steps}
use Rattle.list_laws.proofs.Elements.{some-append}
use Rattle.positions.specs.Position.{Position}
use Rattle.goals.specs.Signed as G
use Rattle.goals.specs.Signed.{has, same_signed, add_all}
use Rattle.goal_laws.proofs.Signs.{every-has, has-every, same_signed-true, is_rising-add_all, some-add_all}
use Rattle.js_algebra.specs.View.{is_in_table, are_in_table}
use Rattle.js_algebra.proofs.Sets.{rising-unique}
use Rattle.js_algebra.specs.SignedSets.{with_member, with_members, set_of}

-- members

pub has-append : (z x : G.Signed) (xs : List G.Signed) → has z (xs ++ x ∷ []) ≡ (same_signed z x || has z xs)
has-append z x xs =
    some-append (same_signed z) xs (x ∷ []) ∙ ap (λ b. has z xs || b) (or-false (same_signed z x))
    ∙ or_comm (has z xs) (same_signed z x)

pub has-with_member : (z x : G.Signed) (xs : List G.Signed) → has z (with_member x xs) ≡ (same_signed z x || has z xs)
has-with_member z x xs = go (has x xs) refl where
  go : (b : Bool) → has x xs ≡ b → has z (cond b xs (xs ++ x ∷ [])) ≡ (same_signed z x || has z xs)
  go false h = has-append z x xs
  go true h = known (same_signed z x) refl where
    known : (s : Bool) → same_signed z x ≡ s → has z xs ≡ (s || has z xs)
    known false e = refl
    known true e = subst (λ y. has y xs ≡ true) (sym (same_signed-true z x e)) h

pub has-with_members : (z : G.Signed) (C xs : List G.Signed) → has z (with_members C xs) ≡ (has z C || has z xs)
has-with_members z [] xs = refl
has-with_members z (x ∷ C) xs =
    has-with_members z C (with_member x xs) ∙ ap (λ b. has z C || b) (has-with_member z x xs)
    ∙ turn (has z C) (same_signed z x) (has z xs)
  where
    turn : (a b c : Bool) → (a || (b || c)) ≡ ((b || a) || c)
    turn true true c = refl
    turn true false c = refl
    turn false true c = refl
    turn false false c = refl

pub has-set_of : (z : G.Signed) (xs : List G.Signed) → has z (set_of xs) ≡ has z xs
has-set_of z xs = some-add_all (same_signed z) xs [] ∙ or-false (has z xs)

-- the set of more members
pub set-with_members : (C xs : List G.Signed) → set_of (with_members C xs) ≡ add_all C (set_of xs)
set-with_members C xs =
    rising-unique _ _ (is_rising-add_all (with_members C xs) [] refl)
    (is_rising-add_all C (set_of xs) (is_rising-add_all xs [] refl))
    (λ z. has-set_of z (with_members C xs) ∙ has-with_members z C xs ∙ ap (λ b. has z C || b) (sym (has-set_of z xs))
    ∙ sym (some-add_all (same_signed z) C (set_of xs)))

-- earlier members

length-with_member : (x : G.Signed) (xs : List G.Signed) → length xs ≤ length (with_member x xs)
length-with_member x xs = go (has x xs) where
  go : (b : Bool) → length xs ≤ length (cond b xs (xs ++ x ∷ []))
  go true = omega arith
  go false = grind (arith, common_steps)

pub length-with_members : (C xs : List G.Signed) → length xs ≤ length (with_members C xs)
length-with_members [] xs = omega arith
length-with_members (x ∷ C) xs = omega (arith, length-with_member x xs, length-with_members C (with_member x xs))

-- earlier members keep their places
pub take-with_members : (k : ℕ) (C xs : List G.Signed) → k ≤ length xs → take k (with_members C xs) ≡ take k xs
take-with_members k [] xs l = refl
take-with_members k (x ∷ C) xs l =
    take-with_members k C (with_member x xs) (omega (arith, length-with_member x xs)) ∙ go (has x xs)
  where
    go : (b : Bool) → take k (cond b xs (xs ++ x ∷ [])) ≡ take k xs
    go true = refl
    go false = take-append-le k xs (x ∷ []) l

pub has-take : (k : ℕ) (xs : List G.Signed) (z : G.Signed) → has z (take k xs) ≡ true → has z xs ≡ true
has-take zero xs z h = absurd (true≢false (sym h))
has-take (suc k) [] z h = h
has-take (suc k) (x ∷ xs) z h =
    ⊎_elim (λ s. or_left _ (has z xs) s) (λ i. or_right (same_signed z x) (has z xs) (has-take k xs z i))
    (or_cases (same_signed z x) (has z (take k xs)) h)

-- in the table

-- where a set and a choice are in the table, so is a front of the set with the choice added
pub members_in_table : (T : List Position) (C xs : List G.Signed) (k : ℕ) → are_in_table T C ≡ true
    → are_in_table T xs ≡ true
    → are_in_table T (with_members C (take k xs)) ≡ true
members_in_table T C xs k a b =
    has-every (is_in_table T) (with_members C (take k xs)) (λ z h.
    ⊎_elim (λ i. every-has (is_in_table T) C z a i) (λ i. every-has (is_in_table T) xs z b (has-take k xs z i))
    (or_cases (has z C) (has z (take k xs)) (sym (has-with_members z C (take k xs)) ∙ h)))
