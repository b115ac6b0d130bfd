-- An array meets a literal exactly where its count is within the literal's bounds, its elements meet what it requires
-- of each at its place, and some element serves it where it requires one.
use Rattle.std.proofs.Common.{◌≡◌, ℕ, suc, ◌<◌, ◌≤◌, Bool, true, false, not, List, length, None, refl, ap, sym, subst, arith}
use Rattle.std.proofs.lemmas.Bool.{and_parts, and_from, leb-true, leb-false, le-leb, lt-leb, not-false, not-true}
use Rattle.documents.specs.Tests.{some}
use Rattle.documents.specs.Kind as K
use Rattle.documents.specs.Kind.{same_kind}
use Rattle.documents.specs.Document.{Document, array, elements}
use Rattle.documents.specs.Document as D
use Rattle.positions.specs.Position.{Position, True, False, Same, Not, All, Any, One, Depends, Types, Items, Contains, CountMin, CountMax}
use Rattle.positions.specs.Holds.{asks, holds}
use Rattle.goals.specs.Signed.{meets}
use Rattle.goals.specs.Choices.{plus_choices, minus_choices, plus_wrong, minus_wrong}
use Rattle.frames.specs.Frame.{is_at_end}
use Rattle.frames.specs.ArrayFrame.{prefix_of, index_of, item_at, is_empty, plus_each, minus_each, plus_serving, minus_serving, plus_lower, minus_lower, plus_below, minus_below}
use Rattle.list_laws.proofs.Tests.{some_find, some_from, none_from, none_at}
use Rattle.array_laws.specs.ArrayValues.{stand, doc_at}
use Rattle.array_laws.proofs.Lists.{doc_in, in_doc, item_stand, items_at, items_from, items_fail, items_not}

module _ (T : List Position) (here : ℕ → Bool) (ds : D.Items) (n : ℕ) where
  abbrev pub Asks : Position → Bool
  Asks P = asks here (holds T) P (array ds)

  abbrev count : ℕ
  count = length (elements ds)

  -- the number of an element's place
  abbrev pub number_of : ℕ → ℕ
  number_of j = index_of n (stand n j)

  pub record IsPlus (P : Position) : Type 0 where
    pub low : plus_lower P ≤ length (elements ds)
    pub high : is_at_end (length (elements ds)) (plus_below P) ≡ false
    pub each : (j : ℕ) → j < length (elements ds)
        → meets T (plus_each (number_of j) P) (doc_at (elements ds) j) ≡ true
    pub served : not (is_empty (plus_serving P)) ≡ true
        → (j : ℕ) × (j < length (elements ds)) × (meets T (plus_serving P) (doc_at (elements ds) j) ≡ true)

  pub record IsMinus (P : Position) : Type 0 where
    pub low : minus_lower P ≤ length (elements ds)
    pub high : is_at_end (length (elements ds)) (minus_below P) ≡ false
    pub each : (j : ℕ) → j < length (elements ds) → meets T (minus_each P) (doc_at (elements ds) j) ≡ true
    pub served : not (is_empty (minus_serving 0 P)) ≡ true
        → (j : ℕ) × (j < length (elements ds))
        × (meets T (minus_serving (number_of j) P) (doc_at (elements ds) j) ≡ true)

  -- from an array that meets it

  low_plus : (P : Position) → (plus_choices K.Array P ≡ None → Asks P ≡ true) → plus_lower P ≤ count
  low_plus (CountMin m) e = leb-true m count (e refl)
  low_plus _ e = omega arith

  high_plus : (P : Position) → (plus_choices K.Array P ≡ None → Asks P ≡ true)
      → is_at_end count (plus_below P) ≡ false
  high_plus (CountMax m) e = let a = leb-true count m (e refl) in lt-leb (suc m) count (omega (arith, a))
  high_plus _ e = refl

  each_plus : (P : Position) → prefix_of P ≤ n → (plus_choices K.Array P ≡ None → Asks P ≡ true) → (j : ℕ) → j < count
      → meets T (plus_each (number_of j) P) (doc_at (elements ds) j) ≡ true
  each_plus (Items ps r) p e j l =
      and_from (holds T (item_at ps r (number_of j)) (doc_at (elements ds) j)) true
      (subst (λ i. holds T i (doc_at (elements ds) j) ≡ true) (sym (item_stand ps r n j p))
      (items_at (holds T) ps r (elements ds) (e refl) j l)) refl
  each_plus _ p e j l = refl

  served_plus : (P : Position) → (plus_choices K.Array P ≡ None → Asks P ≡ true)
      → not (is_empty (plus_serving P)) ≡ true
      → (j : ℕ) × (j < count) × (meets T (plus_serving P) (doc_at (elements ds) j) ≡ true)
  served_plus (Contains q) e d =
      let (J, i, h) = some_find (holds T q) (elements ds) (e refl) in
      let (j, l, p) = in_doc J (elements ds) i in
      (j, l, and_from (holds T q (doc_at (elements ds) j)) true (subst (λ z. holds T q z ≡ true) (sym p) h) refl)
  served_plus _ e d = cc

  pub is_plus : (P : Position) → prefix_of P ≤ n → (plus_choices K.Array P ≡ None → Asks P ≡ true) → IsPlus P
  is_plus P p e =
      record { low = low_plus P e; high = high_plus P e; each = each_plus P p e; served = served_plus P e }

  low_minus : (P : Position) → (minus_choices K.Array P ≡ None → not (Asks P) ≡ true) → minus_lower P ≤ count
  low_minus (CountMax m) e = leb-false count m (not-true (Asks (CountMax m)) (e refl))
  low_minus _ e = omega arith

  high_minus : (P : Position) → (minus_choices K.Array P ≡ None → not (Asks P) ≡ true)
      → is_at_end count (minus_below P) ≡ false
  high_minus (CountMin m) e = not-true (Asks (CountMin m)) (e refl)
  high_minus _ e = refl

  each_minus : (P : Position) → (minus_choices K.Array P ≡ None → not (Asks P) ≡ true) → (j : ℕ) → j < count
      → meets T (minus_each P) (doc_at (elements ds) j) ≡ true
  each_minus (Contains q) e j l =
      and_from (not (holds T q (doc_at (elements ds) j))) true
      (ap not (none_at (holds T q) (doc_at (elements ds) j) (elements ds) (not-true (Asks (Contains q)) (e refl))
      (doc_in (elements ds) j l))) refl
  each_minus _ e j l = refl

  served_minus : (P : Position) → prefix_of P ≤ n → (minus_choices K.Array P ≡ None → not (Asks P) ≡ true)
      → not (is_empty (minus_serving 0 P)) ≡ true
      → (j : ℕ) × (j < count) × (meets T (minus_serving (number_of j) P) (doc_at (elements ds) j) ≡ true)
  served_minus (Items ps r) p e d =
      let (j, l, h) = items_fail (holds T) ps r (elements ds) (not-true (Asks (Items ps r)) (e refl)) in (
        j,
        l,
        and_from (not (holds T (item_at ps r (number_of j)) (doc_at (elements ds) j))) true
            (subst (λ i. not (holds T i (doc_at (elements ds) j)) ≡ true) (sym (item_stand ps r n j p)) (ap not h))
            refl,
      )
  served_minus _ p e d = cc

  pub is_minus : (P : Position) → prefix_of P ≤ n → (minus_choices K.Array P ≡ None → not (Asks P) ≡ true) → IsMinus P
  is_minus P p e =
      record { low = low_minus P e; high = high_minus P e; each = each_minus P e; served = served_minus P p e }

  -- towards an array that meets it

  -- an array that has what the literal says meets the position
  pub from_plus : (P : Position) → prefix_of P ≤ n → plus_choices K.Array P ≡ None → plus_wrong K.Array P ≡ false
      → IsPlus P → Asks P ≡ true
  from_plus (Types ts) p c w k = not-false (some (same_kind K.Array) ts) w
  from_plus (Items ps r) p c w k = items_from (holds T) ps r (elements ds) (λ j l.
      subst (λ i. holds T i (doc_at (elements ds) j) ≡ true) (item_stand ps r n j p)
      (and_parts (holds T (item_at ps r (number_of j)) (doc_at (elements ds) j)) true (k.each j l)).0)
  from_plus (Contains q) p c w k =
      let (j, l, h) = k.served refl in
      some_from (holds T q) (doc_at (elements ds) j) (elements ds) (doc_in (elements ds) j l)
      (and_parts (holds T q (doc_at (elements ds) j)) true h).0
  from_plus (CountMin m) p c w k = le-leb m count k.low
  from_plus (CountMax m) p c w k = let a = leb-false (suc m) count k.high in le-leb count m (omega (arith, a))
  from_plus True p c w k = cc
  from_plus False p c w k = cc
  from_plus (Same q) p c w k = cc
  from_plus (Not q) p c w k = cc
  from_plus (All qs) p c w k = cc
  from_plus (Any qs) p c w k = cc
  from_plus (One qs) p c w k = cc
  from_plus (Depends h q) p c w k = cc
  from_plus _ p c w k = refl

  -- an array that has what the literal says doesn't meet the position
  pub from_minus : (P : Position) → prefix_of P ≤ n → minus_choices K.Array P ≡ None → minus_wrong K.Array P ≡ false
      → IsMinus P → not (Asks P) ≡ true
  from_minus (Types ts) p c w k = ap not w
  from_minus (Items ps r) p c w k =
      let (j, l, h) = k.served refl in
      ap not (items_not (holds T) ps r (elements ds) j l
      (subst (λ i. holds T i (doc_at (elements ds) j) ≡ false) (item_stand ps r n j p)
      (not-true (holds T (item_at ps r (number_of j)) (doc_at (elements ds) j))
      (and_parts (not (holds T (item_at ps r (number_of j)) (doc_at (elements ds) j))) true h).0)))
  from_minus (Contains q) p c w k = ap not (none_from (holds T q) (elements ds) (λ J i.
      let (j, l, e) = in_doc J (elements ds) i in
      subst (λ z. holds T q z ≡ false) e
      (not-true (holds T q (doc_at (elements ds) j))
      (and_parts (not (holds T q (doc_at (elements ds) j))) true (k.each j l)).0)))
  from_minus (CountMin m) p c w k = ap not k.high
  from_minus (CountMax m) p c w k = ap not (lt-leb count m k.low)
  from_minus _ p c w k = cc
