-- Signed positions, and sets of them as rising lists: what is in a set, and what adding to it does.
use Rattle.std.proofs.Common.{Contains, ◌≡◌, ℕ, ◌+◌, ◌*◌, ◌<◌, ◌⊎◌, inl, inr, Bool, true, false, ◌&&◌, ◌||◌, cond, not, List, [], ◌∷◌, refl, ap, sym, ◌∙◌, subst, arith, ◌≤◌}
use Rattle.std.proofs.Math.Bool.{and_assoc, or_assoc, not-not, and_self_left, or_self_left}
use Rattle.std.specs.List.{AllByRecursion}
use Rattle.std.proofs.lemmas.Bool.{eqb-true, eqb-false, eq-eqb, ltb-true, ltb-false, lt-ltb, leb-true, leb-false, le-leb, and_parts, and_from, or_cases, or_left, or_right, cases_eq}
use Rattle.documents.specs.Tests.{every, some}
use Rattle.list_laws.proofs.Elements.{contains-some}
use Rattle.goals.specs.Signed.{Signed, Plus, Minus, opposite, same_signed, comes_before, has, add, add_all, is_rising, met, position_of}
use Rattle.list_laws.proofs.Booleans.{and_left_comm, or_left_comm}

-- signed positions

pub same_signed-true : (x y : Signed) → same_signed x y ≡ true → x ≡ y
same_signed-true (Plus p) (Plus q) e = ap Plus (eqb-true p q e)
same_signed-true (Minus p) (Minus q) e = ap Minus (eqb-true p q e)
same_signed-true (Plus p) (Minus q) e = cc
same_signed-true (Minus p) (Plus q) e = cc

pub same_signed-itself : (x : Signed) → same_signed x x ≡ true
same_signed-itself (Plus p) = eq-eqb p p refl
same_signed-itself (Minus p) = eq-eqb p p refl

pub opposite-opposite : (x : Signed) → opposite (opposite x) ≡ x
opposite-opposite (Plus p) = refl
opposite-opposite (Minus p) = refl

pub met-opposite : (here : ℕ → Bool) (x : Signed) → met here (opposite x) ≡ not (met here x)
met-opposite here (Plus p) = refl
met-opposite here (Minus p) = sym (not-not (here p))

-- the order, as that of numbers

abbrev key : Signed → ℕ
key (Plus p) = 2 * p
key (Minus p) = 2 * p + 1

comes_before-key : (x y : Signed) → comes_before x y ≡ true → key x < key y
comes_before-key (Plus p) (Plus q) e = omega (arith, ltb-true p q e)
comes_before-key (Plus p) (Minus q) e = omega (arith, leb-true p q e)
comes_before-key (Minus p) (Plus q) e = omega (arith, ltb-true p q e)
comes_before-key (Minus p) (Minus q) e = omega (arith, ltb-true p q e)

key-comes_before : (x y : Signed) → key x < key y → comes_before x y ≡ true
key-comes_before (Plus p) (Plus q) l = lt-ltb p q (omega arith)
key-comes_before (Plus p) (Minus q) l = le-leb p q (omega arith)
key-comes_before (Minus p) (Plus q) l = lt-ltb p q (omega arith)
key-comes_before (Minus p) (Minus q) l = lt-ltb p q (omega arith)

pub comes_before-transitive : (x y z : Signed) → comes_before x y ≡ true → comes_before y z ≡ true
    → comes_before x z ≡ true
comes_before-transitive x y z a b =
    let l : key x < key y = comes_before-key x y a in
    let m : key y < key z = comes_before-key y z b in
    key-comes_before x z (omega arith)

pub comes_before-total : (x y : Signed) → same_signed x y ≡ false → comes_before x y ≡ false
    → comes_before y x ≡ true
comes_before-total (Plus p) (Plus q) d e = lt-ltb q p (omega (arith, ltb-false p q e, eqb-false p q d))
comes_before-total (Plus p) (Minus q) d e = lt-ltb q p (omega (arith, leb-false p q e))
comes_before-total (Minus p) (Plus q) d e = le-leb q p (omega (arith, ltb-false p q e))
comes_before-total (Minus p) (Minus q) d e = lt-ltb q p (omega (arith, ltb-false p q e, eqb-false p q d))

pub comes_before-other : (x y : Signed) → comes_before x y ≡ true → same_signed x y ≡ false
comes_before-other x y e = go (same_signed x y) refl where
  go : (b : Bool) → same_signed x y ≡ b → same_signed x y ≡ false
  go true h =
      let l : key x < key y = comes_before-key x y e in
      let m : key x < key x = subst (λ z. key x < key z) (sym (same_signed-true x y h)) l in
      absurd (omega arith)
  go false h = h

-- what is in a set

pub has-here : (x : Signed) (S : List Signed) → has x (x ∷ S) ≡ true
has-here x S = or_left (same_signed x x) (has x S) (same_signed-itself x)

pub has-there : (x y : Signed) (S : List Signed) → has x S ≡ true → has x (y ∷ S) ≡ true
has-there x y S e = or_right (same_signed x y) (has x S) e

pub has-cases : (x y : Signed) (S : List Signed) → has x (y ∷ S) ≡ true → (x ≡ y) ⊎ (has x S ≡ true)
has-cases x y S e =
    elim (or_cases (same_signed x y) (has x S) e) [
      | inl a ↦ inl (same_signed-true x y a)
      | inr b ↦ inr b
    ]

pub all-has : (P : Signed → Type 0) (S : List Signed) (x : Signed) → AllByRecursion P S → has x S ≡ true → P x
all-has P [] x h i = cc
all-has P (y ∷ S) x h i =
    elim (has-cases x y S i) [
      | inl same ↦ subst P (sym same) h.0
      | inr j ↦ all-has P S x h.1 j
    ]

pub contains-has : (S : List Signed) (x : Signed) → Contains S x → has x S ≡ true
contains-has S x i = contains-some (same_signed x) S x i (same_signed-itself x)

module _ (p : Signed → Bool) where
  -- a test that all of a set pass is passed by what the set has
  pub every-has : (S : List Signed) (x : Signed) → every p S ≡ true → has x S ≡ true → p x ≡ true
  every-has [] x e i = cc
  every-has (y ∷ S) x e i =
      elim (has-cases x y S i) [
        | inl same ↦ subst (λ z. p z ≡ true) (sym same) (and_parts (p y) (every p S) e).0
        | inr j ↦ every-has S x (and_parts (p y) (every p S) e).1 j
      ]

  pub has-every : (S : List Signed) → ((x : Signed) → has x S ≡ true → p x ≡ true) → every p S ≡ true
  has-every [] f = refl
  has-every (x ∷ S) f =
      and_from (p x) (every p S) (f x (has-here x S)) (has-every S (λ y i. f y (has-there y x S i)))

  pub has-some : (S : List Signed) (x : Signed) → has x S ≡ true → p x ≡ true → some p S ≡ true
  has-some [] x i h = cc
  has-some (y ∷ S) x i h =
      elim (has-cases x y S i) [
        | inl same ↦ or_left (p y) (some p S) (subst (λ z. p z ≡ true) same h)
        | inr j ↦ or_right (p y) (some p S) (has-some S x j h)
      ]

  pub some-has : (S : List Signed) → some p S ≡ true → (x : Signed) × (has x S ≡ true) × (p x ≡ true)
  some-has [] e = cc
  some-has (x ∷ S) e =
      elim (or_cases (p x) (some p S) e) [
        | inl h ↦ (x, has-here x S, h)
        | inr k ↦ let (y, i, h) = some-has S k in (y, has-there y x S i, h)
      ]

  pub some-none : (S : List Signed) (x : Signed) → some p S ≡ false → has x S ≡ true → p x ≡ false
  some-none S x e i = go (p x) refl where
    go : (b : Bool) → p x ≡ b → p x ≡ false
    go true h = cc (has-some S x i h)
    go false h = h

  -- a signed position that fails, where not all pass
  pub every-fails : (S : List Signed) → every p S ≡ false → (x : Signed) × (has x S ≡ true) × (p x ≡ false)
  every-fails [] e = cc
  every-fails (x ∷ S) e = go (p x) refl e (every-fails S) where
    go : (b : Bool) → p x ≡ b → (b && every p S) ≡ false
        → (every p S ≡ false → (y : Signed) × (has y S ≡ true) × (p y ≡ false))
        → (y : Signed) × (has y (x ∷ S) ≡ true) × (p y ≡ false)
    go false h e more = (x, has-here x S, h)
    go true h e more = let (y, i, k) = more e in (y, has-there y x S i, k)

-- what adding does

module _ (p : Signed → Bool) where
  pub every-add : (x : Signed) (S : List Signed) → every p (add x S) ≡ (p x && every p S)
  every-add x [] = refl
  every-add x (y ∷ S) = go (same_signed x y) (comes_before x y) refl (every-add x S) where
    go : (b c : Bool) → same_signed x y ≡ b → every p (add x S) ≡ (p x && every p S)
        → every p (cond b (y ∷ S) (cond c (x ∷ y ∷ S) (y ∷ add x S))) ≡ (p x && (p y && every p S))
    go true c e more =
        subst (λ z. (p y && every p S) ≡ (p z && (p y && every p S))) (sym (same_signed-true x y e))
        (sym (and_self_left (p y) (every p S)))
    go false true e more = refl
    go false false e more = ap (λ b. p y && b) more ∙ and_left_comm (p y) (p x) (every p S)

  pub some-add : (x : Signed) (S : List Signed) → some p (add x S) ≡ (p x || some p S)
  some-add x [] = refl
  some-add x (y ∷ S) = go (same_signed x y) (comes_before x y) refl (some-add x S) where
    go : (b c : Bool) → same_signed x y ≡ b → some p (add x S) ≡ (p x || some p S)
        → some p (cond b (y ∷ S) (cond c (x ∷ y ∷ S) (y ∷ add x S))) ≡ (p x || (p y || some p S))
    go true c e more =
        subst (λ z. (p y || some p S) ≡ (p z || (p y || some p S))) (sym (same_signed-true x y e))
        (sym (or_self_left (p y) (some p S)))
    go false true e more = refl
    go false false e more = ap (λ b. p y || b) more ∙ or_left_comm (p y) (p x) (some p S)

  pub every-add_all : (C S : List Signed) → every p (add_all C S) ≡ (every p C && every p S)
  every-add_all [] S = refl
  every-add_all (x ∷ C) S =
      every-add x (add_all C S) ∙ ap (λ b. p x && b) (every-add_all C S)
      ∙ sym (and_assoc (p x) (every p C) (every p S))

  pub some-add_all : (C S : List Signed) → some p (add_all C S) ≡ (some p C || some p S)
  some-add_all [] S = refl
  some-add_all (x ∷ C) S =
      some-add x (add_all C S) ∙ ap (λ b. p x || b) (some-add_all C S)
      ∙ sym (or_assoc (p x) (some p C) (some p S))

pub has-add_all : (z : Signed) (C S : List Signed) → has z (add_all C S) ≡ (has z C || has z S)
has-add_all z C S = some-add_all (same_signed z) C S

-- rising lists stay rising

comes_before-every : (x y : Signed) (S : List Signed) → comes_before x y ≡ true
    → every (comes_before y) S ≡ true
    → every (comes_before x) S ≡ true
comes_before-every x y S e h =
    has-every (comes_before x) S (λ z i. comes_before-transitive x y z e (every-has (comes_before y) S z h i))

pub is_rising-add : (x : Signed) (S : List Signed) → is_rising S ≡ true → is_rising (add x S) ≡ true
is_rising-add x [] e = refl
is_rising-add x (y ∷ S) e =
    let (least, rest) = and_parts (every (comes_before y) S) (is_rising S) e in
    go (same_signed x y) (comes_before x y) refl refl least (is_rising-add x S rest) where
      go : (b c : Bool) → same_signed x y ≡ b → comes_before x y ≡ c → every (comes_before y) S ≡ true
          → is_rising (add x S) ≡ true → is_rising (cond b (y ∷ S) (cond c (x ∷ y ∷ S) (y ∷ add x S))) ≡ true
      go true c d before least more = e
      go false true d before least more =
          and_from _ _ (and_from (comes_before x y) _ before (comes_before-every x y S before least)) e
      go false false d before least more =
          and_from _ _
          (every-add (comes_before y) x S ∙ and_from _ _ (comes_before-total x y d before) least) more

pub is_rising-add_all : (C S : List Signed) → is_rising S ≡ true → is_rising (add_all C S) ≡ true
is_rising-add_all [] S e = e
is_rising-add_all (x ∷ C) S e = is_rising-add x (add_all C S) (is_rising-add_all C S e)

-- what comes before all of a set is at its head
pub add-head : (x : Signed) (S : List Signed) → every (comes_before x) S ≡ true → add x S ≡ x ∷ S
add-head x [] e = refl
add-head x (y ∷ S) e =
    let before = (and_parts (comes_before x y) (every (comes_before x) S) e).0 in
    go (same_signed x y) (comes_before x y) (comes_before-other x y before) before where
      go : (b c : Bool) → b ≡ false → c ≡ true → cond b (y ∷ S) (cond c (x ∷ y ∷ S) (y ∷ add x S)) ≡ x ∷ y ∷ S
      go true c d h = cc
      go false false d h = cc
      go false true d h = refl

-- a rising list is the set of its own elements
pub add_all-itself : (S : List Signed) → is_rising S ≡ true → add_all S [] ≡ S
add_all-itself [] e = refl
add_all-itself (x ∷ S) e =
    let (least, rest) = and_parts (every (comes_before x) S) (is_rising S) e in
    ap (add x) (add_all-itself S rest) ∙ add-head x S least

-- the order of positions

pub comes_before-le : (x y : Signed) → comes_before x y ≡ true → position_of x ≤ position_of y
comes_before-le (Plus p) (Plus q) e = omega (arith, ltb-true p q e)
comes_before-le (Plus p) (Minus q) e = leb-true p q e
comes_before-le (Minus p) (Plus q) e = omega (arith, ltb-true p q e)
comes_before-le (Minus p) (Minus q) e = omega (arith, ltb-true p q e)

-- past the first, where its opposite isn't there
pub comes_before-lt : (x y : Signed) → comes_before x y ≡ true → (opposite x ≡ y → ⊥) → position_of x < position_of y
comes_before-lt (Plus p) (Plus q) e h = ltb-true p q e
comes_before-lt (Plus p) (Minus q) e h = elim (cases_eq p q) [
  | inl s ↦ absurd (h (ap Minus s))
  | inr s ↦ omega (arith, s, leb-true p q e)
]
comes_before-lt (Minus p) (Plus q) e h = ltb-true p q e
comes_before-lt (Minus p) (Minus q) e h = ltb-true p q e
