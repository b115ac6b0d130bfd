-- An object meets a literal exactly where its count is within the literal's bounds, its members are in cells that
-- the literal doesn't bar and meet what it requires of each, and some member serves it where it requires one.
use Rattle.std.proofs.Common.{◌≡◌, ℕ, suc, ◌≤◌, Bool, true, false, ◌||◌, not, List, length, None, refl, ap, arith}
use Rattle.std.proofs.lemmas.Bool.{and_parts, and_from, or_parts, or_from, leb-true, leb-false, le-leb, lt-leb, not-false, not-true}
use Rattle.documents.specs.Tests.{every, some, same_word}
use Rattle.documents.specs.Kind.{Object, same_kind}
use Rattle.documents.specs.Document.{Document, string, object, Members, entries}
use Rattle.positions.specs.Position.{Position, True, False, Same, Not, All, Any, One, Depends, Types, MembersOf, Has, PropsMin, PropsMax, NamesIn}
use Rattle.positions.specs.Holds.{asks, in_set, holds}
use Rattle.goals.specs.Signed.{meets}
use Rattle.goals.specs.Choices.{plus_choices, minus_choices, plus_wrong, minus_wrong}
use Rattle.frames.specs.Frame.{is_at_end}
use Rattle.list_laws.specs.In.{IsIn}
use Rattle.list_laws.proofs.Lists.{every_at, every_from}
use Rattle.cells.specs.Cells.{meets_formula}
use Rattle.name_truths.specs.NameAtoms.{formula_of}
use Rattle.frames.specs.ObjectFrame.{plus_lower, minus_lower, plus_below, minus_below, plus_bars, minus_bars, plus_wants, minus_wants, minus_inside, plus_each, minus_serving}
use Rattle.list_laws.proofs.Tests.{some_find, some_from, none_from, none_at, every_fails}

module _ (T : List Position) (here : ℕ → Bool) (ms : Members) where
  abbrev pub Says : Position → List ℕ → Bool
  Says P w = meets_formula T (formula_of P) w

  abbrev pub Asks : Position → Bool
  Asks P = asks here (holds T) P (object ms)

  abbrev n : ℕ
  n = length (entries ms)

  -- an object has what a literal that is to hold says: its count, allowed names, values, and a member that serves
  pub record IsPlus (P : Position) : Type 0 where
    pub low : plus_lower P ≤ length (entries ms)
    pub high : is_at_end (length (entries ms)) (plus_below P) ≡ false
    pub allowed : (m : List ℕ × Document) → IsIn m (entries ms) → plus_bars (Says P m.0) P ≡ false
    pub each : (m : List ℕ × Document) → IsIn m (entries ms) → meets T (plus_each (Says P m.0) P) m.1 ≡ true
    pub served : plus_wants P ≡ true → (m : List ℕ × Document) × IsIn m (entries ms) × (Says P m.0 ≡ true)

  -- an object has what a literal that isn't to hold says: its count, allowed names, and a member that serves
  pub record IsMinus (P : Position) : Type 0 where
    pub low : minus_lower P ≤ length (entries ms)
    pub high : is_at_end (length (entries ms)) (minus_below P) ≡ false
    pub allowed : (m : List ℕ × Document) → IsIn m (entries ms) → minus_bars (Says P m.0) P ≡ false
    pub served : minus_wants P ≡ true → (m : List ℕ × Document) × IsIn m (entries ms)
        × (minus_inside (Says P m.0) P ≡ true) × (meets T (minus_serving P) m.1 ≡ true)

  -- from an object that meets it

  low_plus : (P : Position) → (plus_choices Object P ≡ None → Asks P ≡ true) → plus_lower P ≤ n
  low_plus (PropsMin m) e = leb-true m n (e refl)
  low_plus _ e = omega arith

  high_plus : (P : Position) → (plus_choices Object P ≡ None → Asks P ≡ true) → is_at_end n (plus_below P) ≡ false
  high_plus (PropsMax m) e = let a = leb-true n m (e refl) in lt-leb (suc m) n (omega (arith, a))
  high_plus _ e = refl

  allowed_plus : (P : Position) → (plus_choices Object P ≡ None → Asks P ≡ true) → (m : List ℕ × Document)
      → IsIn m (entries ms) → plus_bars (Says P m.0) P ≡ false
  allowed_plus (NamesIn q) e m i = ap not (every_at (λ m. holds T q (string m.0)) m (entries ms) (e refl) i)
  allowed_plus _ e m i = refl

  each_plus : (P : Position) → (plus_choices Object P ≡ None → Asks P ≡ true) → (m : List ℕ × Document)
      → IsIn m (entries ms) → meets T (plus_each (Says P m.0) P) m.1 ≡ true
  each_plus (MembersOf s q) e m i =
      go (in_set s m.0) (every_at (λ m. not (in_set s m.0) || holds T q m.1) m (entries ms) (e refl) i) where
        go : (b : Bool) → (not b || holds T q m.1) ≡ true → meets T (plus_each b (MembersOf s q)) m.1 ≡ true
        go true h = and_from (holds T q m.1) true h refl
        go false h = refl
  each_plus _ e m i = refl

  served_plus : (P : Position) → (plus_choices Object P ≡ None → Asks P ≡ true) → plus_wants P ≡ true
      → (m : List ℕ × Document) × IsIn m (entries ms) × (Says P m.0 ≡ true)
  served_plus (Has w) e d = some_find (λ m. same_word w m.0) (entries ms) (e refl)
  served_plus _ e d = cc

  pub is_plus : (P : Position) → (plus_choices Object P ≡ None → Asks P ≡ true) → IsPlus P
  is_plus P e = record {
    low = low_plus P e;
    high = high_plus P e;
    allowed = allowed_plus P e;
    each = each_plus P e;
    served = served_plus P e;
  }

  low_minus : (P : Position) → (minus_choices Object P ≡ None → not (Asks P) ≡ true) → minus_lower P ≤ n
  low_minus (PropsMax m) e = leb-false n m (not-true (Asks (PropsMax m)) (e refl))
  low_minus _ e = omega arith

  high_minus : (P : Position) → (minus_choices Object P ≡ None → not (Asks P) ≡ true)
      → is_at_end n (minus_below P) ≡ false
  high_minus (PropsMin m) e = not-true (Asks (PropsMin m)) (e refl)
  high_minus _ e = refl

  allowed_minus : (P : Position) → (minus_choices Object P ≡ None → not (Asks P) ≡ true) → (m : List ℕ × Document)
      → IsIn m (entries ms) → minus_bars (Says P m.0) P ≡ false
  allowed_minus (Has w) e m i = none_at (λ m. same_word w m.0) m (entries ms) (not-true (Asks (Has w)) (e refl)) i
  allowed_minus _ e m i = refl

  served_minus : (P : Position) → (minus_choices Object P ≡ None → not (Asks P) ≡ true) → minus_wants P ≡ true
      → (m : List ℕ × Document) × IsIn m (entries ms)
      × (minus_inside (Says P m.0) P ≡ true) × (meets T (minus_serving P) m.1 ≡ true)
  served_minus (MembersOf s q) e d =
      let (m, i, h) =
      every_fails (λ m. not (in_set s m.0) || holds T q m.1) (entries ms)
      (not-true (Asks (MembersOf s q)) (e refl)) in
      let (x, y) = or_parts (not (in_set s m.0)) (holds T q m.1) h in
      (m, i, not-false (in_set s m.0) x, and_from (not (holds T q m.1)) true (ap not y) refl)
  served_minus (NamesIn q) e d =
      let (m, i, h) = every_fails (λ m. holds T q (string m.0)) (entries ms) (not-true (Asks (NamesIn q)) (e refl)) in
      (m, i, ap not h, refl)
  served_minus _ e d = cc

  pub is_minus : (P : Position) → (minus_choices Object P ≡ None → not (Asks P) ≡ true) → IsMinus P
  is_minus P e = record {
    low = low_minus P e;
    high = high_minus P e;
    allowed = allowed_minus P e;
    served = served_minus P e;
  }

  -- towards an object that meets it

  -- where an object has what a literal that is to hold says, the literal's position holds of it
  pub from_plus : (P : Position) → plus_choices Object P ≡ None → plus_wrong Object P ≡ false → IsPlus P
      → Asks P ≡ true
  from_plus (Types ts) c w k = not-false (some (same_kind Object) ts) w
  from_plus (MembersOf s q) c w k =
      every_from (λ m. not (in_set s m.0) || holds T q m.1) (entries ms)
      (λ m i. go m (in_set s m.0) (k.each m i)) where
        go : (m : List ℕ × Document) (b : Bool) → meets T (plus_each b (MembersOf s q)) m.1 ≡ true
            → (not b || holds T q m.1) ≡ true
        go m true h = (and_parts (holds T q m.1) true h).0
        go m false h = refl
  from_plus (Has w) c e k = let (m, i, h) = k.served refl in some_from (λ m. same_word w m.0) m (entries ms) i h
  from_plus (PropsMin m) c w k = le-leb m n k.low
  from_plus (PropsMax m) c w k = let a = leb-false (suc m) n k.high in le-leb n m (omega (arith, a))
  from_plus (NamesIn q) c w k =
      every_from (λ m. holds T q (string m.0)) (entries ms)
      (λ m i. not-false (holds T q (string m.0)) (k.allowed m i))
  from_plus True c w k = cc
  from_plus False c w k = cc
  from_plus (Same q) c w k = cc
  from_plus (Not q) c w k = cc
  from_plus (All qs) c w k = cc
  from_plus (Any qs) c w k = cc
  from_plus (One qs) c w k = cc
  from_plus (Depends h q) c w k = cc
  from_plus _ c w k = refl

  -- where an object has what a literal that isn't to hold says, the literal's position doesn't hold of it
  pub from_minus : (P : Position) → minus_choices Object P ≡ None → minus_wrong Object P ≡ false → IsMinus P
      → not (Asks P) ≡ true
  from_minus (Types ts) c w k = ap not w
  from_minus (MembersOf s q) c w k =
      let (m, i, h, g) = k.served refl in
      ap not (none m i h (not-true (holds T q m.1) (and_parts (not (holds T q m.1)) true g).0)) where
        none : (m : List ℕ × Document) → IsIn m (entries ms) → in_set s m.0 ≡ true → holds T q m.1 ≡ false
            → every (λ m. not (in_set s m.0) || holds T q m.1) (entries ms) ≡ false
        none m i h g = go (every (λ m. not (in_set s m.0) || holds T q m.1) (entries ms)) refl where
          go : (b : Bool) → every (λ m. not (in_set s m.0) || holds T q m.1) (entries ms) ≡ b
              → every (λ m. not (in_set s m.0) || holds T q m.1) (entries ms) ≡ false
          go false e = e
          go true e = let f : (not (in_set s m.0) || holds T q m.1) ≡ true =
              every_at (λ m. not (in_set s m.0) || holds T q m.1) m (entries ms) e i in
              let g' : (not (in_set s m.0) || holds T q m.1) ≡ false =
              or_from (not (in_set s m.0)) (holds T q m.1) (ap not h) g in cc
  from_minus (Has w) c e k = ap not (none_from (λ m. same_word w m.0) (entries ms) (λ m i. k.allowed m i))
  from_minus (PropsMin m) c w k = ap not k.high
  from_minus (PropsMax m) c w k = ap not (lt-leb n m k.low)
  from_minus (NamesIn q) c w k =
      let (m, i, h, g) = k.served refl in ap not (none m i (not-true (holds T q (string m.0)) h)) where
        none : (m : List ℕ × Document) → IsIn m (entries ms) → holds T q (string m.0) ≡ false
            → every (λ m. holds T q (string m.0)) (entries ms) ≡ false
        none m i h = go (every (λ m. holds T q (string m.0)) (entries ms)) refl where
          go : (b : Bool) → every (λ m. holds T q (string m.0)) (entries ms) ≡ b
              → every (λ m. holds T q (string m.0)) (entries ms) ≡ false
          go false e = e
          go true e = let f : holds T q (string m.0) ≡ true =
              every_at (λ m. holds T q (string m.0)) m (entries ms) e i in cc
  from_minus _ c w k = cc
