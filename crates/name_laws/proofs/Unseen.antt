-- A position that is found takes what it depends on from what isn't seen yet.
use Rattle.std.proofs.Common.{◌≡◌, ℕ, zero, suc, ◌+◌, ◌<◌, List, [], ◌∷◌, ◌++◌, length, Bool, true, false, ◌||◌, cond, nat_eq, nat_lt, refl, ap, ap₂, sym, ◌∙◌, subst, arith}
use Rattle.std.proofs.lemmas.Bool.{or_right, cond-true, cond-false, and_parts, ltb-true, ne_eqb}
use Rattle.std.proofs.lemmas.List.{length-append}
use Rattle.documents.specs.Tests.{every}
use Rattle.positions.specs.Position.{Position, position_at}
use Rattle.list_laws.proofs.Elements.{some-append}
use Rattle.name_truths.specs.NameTruth.{asked_of_string}
use Rattle.name_laws.specs.Plans.{has_place}
use Rattle.name_laws.specs.Searches.{unseen}
use Rattle.list_laws.proofs.Numbers.{nat_eq-refl}

-- another place is found where it was
has-other : (found : List ℕ) (q k : ℕ) → nat_eq k q ≡ false → has_place (found ++ q ∷ []) k ≡ has_place found k
has-other found q k e = some-append (nat_eq k) found (q ∷ []) ∙ go (has_place found k) where
  go : (b : Bool) → (b || (nat_eq k q || false)) ≡ b
  go true = refl
  go false = ap (λ b. b || false) e

has-last : (found : List ℕ) (q : ℕ) → has_place (found ++ q ∷ []) q ≡ true
has-last found q =
    some-append (nat_eq q) found (q ∷ [])
    ∙ or_right (has_place found q) (nat_eq q q || false) (ap (λ b. b || false) (nat_eq-refl q))

-- those behind the place that was found
unseen-past : (found : List ℕ) (q k : ℕ) (Ps : List Position) → q < k
    → unseen (found ++ q ∷ []) k Ps ≡ unseen found k Ps
unseen-past found q k [] l = refl
unseen-past found q k (P ∷ Ps) l =
    ap₂ (λ b n. cond b 0 (length (asked_of_string P)) + n)
    (has-other found q k (ne_eqb k q (λ e. omega (arith, l, e))))
    (unseen-past found q (suc k) Ps (omega (arith, l)))

pub unseen-found : (found : List ℕ) (q k j : ℕ) (Ps : List Position) → has_place found q ≡ false → q ≡ k + j
    → j < length Ps
    → unseen (found ++ q ∷ []) k Ps + length (asked_of_string (position_at Ps j)) ≡ unseen found k Ps
unseen-found found q k j [] new e l = absurd (omega (arith, l))
unseen-found found q k zero (P ∷ Ps) new e l =
    let same : q ≡ k = omega (arith, e) in
    let asked = length (asked_of_string P) in
    let there : has_place (found ++ q ∷ []) k ≡ true =
    subst (λ i. has_place (found ++ q ∷ []) i ≡ true) same (has-last found q) in
    let none : has_place found k ≡ false = subst (λ i. has_place found i ≡ false) same new in
    omega (
      arith,
      cond-true (has_place (found ++ q ∷ []) k) 0 asked there,
      cond-false (has_place found k) 0 asked none,
      unseen-past found q (suc k) Ps (omega (arith, same)),
    )
unseen-found found q k (suc j) (P ∷ Ps) new e l =
    let asked = length (asked_of_string P) in
    omega (
      arith,
      ap (λ b. cond b 0 asked) (has-other found q k (ne_eqb k q (λ a. omega (arith, e, a)))),
      unseen-found found q (suc k) j Ps new (omega (arith, e)) (omega (arith, l)),
    )

-- one that is found takes one of those that wait, and gives those that it depends on, of what wasn't seen
pub fewer-left : (T : List Position) (q : ℕ) (found keys W waiting next : List ℕ) (P : Position)
    → has_place found q ≡ false → q < length T → waiting ≡ q ∷ W → keys ≡ found ++ q ∷ [] → P ≡ position_at T q
    → next ≡ asked_of_string P ++ W
    → unseen keys 0 T + length next < unseen found 0 T + length waiting
fewer-left T q found keys W waiting next P new l e f g h =
    omega (
      arith,
      ap (λ ks. unseen ks 0 T) f,
      ap length e,
      ap length h,
      length-append (asked_of_string P) W,
      ap (λ X. length (asked_of_string X)) g,
      unseen-found found q 0 q T new (omega arith) l,
    )

-- the first that waits is in the table
pub first-inside : (n q : ℕ) (waiting W : List ℕ) → every (λ k. nat_lt k n) waiting ≡ true → waiting ≡ q ∷ W → q < n
first-inside n q waiting W h e =
    ltb-true q n (and_parts (nat_lt q n) _ (ap (λ ws. every (λ k. nat_lt k n) ws) (sym e) ∙ h)).0
