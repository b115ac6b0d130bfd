-- The members of an object by number, as an arrangement of the frame of its set.
use Rattle.std.proofs.Common.{◌≡◌, ℕ, zero, suc, ◌<◌, ◌≤◌, inl, inr, Bool, true, false, ◌&&◌, cond, List, [], ◌∷◌, map, length, nat_lt, Option, Some, None, refl, ap, sym, ◌∙◌, subst, arith}
use Rattle.std.proofs.lemmas.Bool.{and_parts, ltb-true}
use Rattle.std.proofs.lemmas.List.{length-map}
use Rattle.std.specs.Option.{is_none}
use Rattle.documents.specs.Tests.{every, comes_before, is_scalar}
use Rattle.documents.specs.Document.{Document, null, Members, no_members, member, entries, is_document, are_members, is_before}
use Rattle.documents.proofs.NameOrder.{comes_before-same, comes_before-trans}
use Rattle.positions.specs.Position.{Position}
use Rattle.positions.specs.Holds.{holds, IsTable}
use Rattle.goals.specs.Signed.{Signed, met, meets}
use Rattle.goals.specs.Goal.{form}
use Rattle.goal_laws.specs.Formed.{meets_goal}
use Rattle.goal_laws.proofs.Forms.{meets-form}
use Rattle.frames.specs.Frame.{In, Frame}
use Rattle.list_laws.specs.In.{IsIn, Distinct}
use Rattle.list_laws.proofs.Lists.{from_map}
use Rattle.frame_laws.proofs.Arranged.{Arrangement, IsArranged}
use Rattle.cells.specs.Cells.{Cells, cell_of}
use Rattle.frames.specs.ObjectFrame.{cap, object_frame_with}
use Rattle.object_laws.proofs.Sets.{AreArranged, scalar_names}
use Rattle.cell_laws.specs.RightCells.{IsOf, AreWords}

abbrev pub Entry : Type 0
Entry = List ℕ × Document

-- the member of that number
abbrev pub entry_at : List Entry → ℕ → Entry
entry_at [] j = ([], null)
entry_at (m ∷ es) zero = m
entry_at (m ∷ es) (suc j) = entry_at es j

pub at_in : (es : List Entry) (j : ℕ) → j < length es → IsIn (entry_at es j) es
at_in [] j l = absurd (omega (arith, l))
at_in (m ∷ es) zero l = inl refl
at_in (m ∷ es) (suc j) l = inr (at_in es j (omega (arith, l)))

pub in_at : (m : Entry) (es : List Entry) → IsIn m es → (j : ℕ) × (j < length es) × (entry_at es j ≡ m)
in_at m [] i = absurd i
in_at m (x ∷ es) (inl e) = (0, omega arith, sym e)
in_at m (x ∷ es) (inr i) = let (j, l, e) = in_at m es i in (suc j, omega (arith, l), e)

-- the name comes before the names of all of the members
before_all : (k : List ℕ) (ms : Members) → is_before k ms ≡ true → are_members ms ≡ true → (m : Entry)
    → IsIn m (entries ms) → comes_before k m.0 ≡ true
before_all k no_members b a m i = absurd i
before_all k (member l d ms) b a m (inl e) = subst (λ z. comes_before k z.0 ≡ true) (sym e) b
before_all k (member l d ms) b a m (inr i) =
    let (front, behind) = and_parts (every is_scalar l && is_document d && is_before l ms) (are_members ms) a in
    let (own, before) = and_parts (every is_scalar l && is_document d) (is_before l ms) front in
    comes_before-trans k l m.0 b (before_all l ms before behind m i)

-- members of one name are one
pub same_name : (ms : Members) → are_members ms ≡ true → (i j : ℕ) → i < length (entries ms) → j < length (entries ms)
    → (entry_at (entries ms) i).0 ≡ (entry_at (entries ms) j).0 → i ≡ j
same_name no_members a i j l h e = absurd (omega (arith, l))
same_name (member k d ms) a i j l h e =
    let (front, behind) = and_parts (every is_scalar k && is_document d && is_before k ms) (are_members ms) a in
    let (own, before) = and_parts (every is_scalar k && is_document d) (is_before k ms) front in
    go before behind i j l h e (λ i j. same_name ms behind i j) where
      other : is_before k ms ≡ true → are_members ms ≡ true → (j : ℕ) → j < length (entries ms)
          → k ≡ (entry_at (entries ms) j).0 → ⊥
      other before behind j l e =
          let b : comes_before k (entry_at (entries ms) j).0 ≡ true =
          before_all k ms before behind (entry_at (entries ms) j) (at_in (entries ms) j l) in
          let c : comes_before k k ≡ true = subst (λ z. comes_before k z ≡ true) (sym e) b in
          let f : true ≡ false = sym c ∙ comes_before-same k in cc

      go : is_before k ms ≡ true → are_members ms ≡ true → (i j : ℕ) → i < suc (length (entries ms))
          → j < suc (length (entries ms))
          → (entry_at ((k, d) ∷ entries ms) i).0 ≡ (entry_at ((k, d) ∷ entries ms) j).0
          → ((i j : ℕ) → i < length (entries ms) → j < length (entries ms)
          → (entry_at (entries ms) i).0 ≡ (entry_at (entries ms) j).0 → i ≡ j)
          → i ≡ j
      go b a zero zero l h e more = refl
      go b a zero (suc j) l h e more = absurd (other b a j (omega (arith, h)) e)
      go b a (suc i) zero l h e more = absurd (other b a i (omega (arith, l)) (sym e))
      go b a (suc i) (suc j) l h e more = ap suc (more i j (omega (arith, l)) (omega (arith, h)) e)

abbrev pub arrangement : List Position → (List ℕ → ℕ) → List Entry → Arrangement
arrangement T cell es = record {
  count = length es;
  at = λ j. In (cell (entry_at es j).0);
  met = λ j x. met (λ p. holds T p (entry_at es j).1) x;
}

-- no more different names are in a cell than its bound says
abbrev pub AreBounds : List Position → Cells → (ℕ → Option ℕ) → Type 0
AreBounds T C bounds = (c b : ℕ) → bounds c ≡ Some b → (ws : List (List ℕ)) → Distinct ws
    → ((w : List ℕ) → IsIn w ws → IsOf T C c w) → length ws ≤ b

-- the counts of words are bounds
pub caps_bound : (T : List Position) (C : Cells) → AreWords T C → AreBounds T C (cap C)
caps_bound T C laws c b e ws d h = go (nat_lt (length (C.words c)) C.bound) refl e where
  go : (t : Bool) → nat_lt (length (C.words c)) C.bound ≡ t → cond t (Some (length (C.words c))) None ≡ Some b
      → length ws ≤ b
  go false f q = cc
  go true f q =
      let same : length (C.words c) ≡ b = cc in
      let few = laws.all c (ltb-true (length (C.words c)) C.bound f) ws d h in
      omega (arith, few, same)

module _ (T : List Position) (ok : IsTable T) (S : List Signed) (C : Cells) (bounds : ℕ → Option ℕ)
    (bound : AreBounds T C bounds)
    (rooms : ℕ → ℕ → ℕ) (ms : Members) (good : are_members ms ≡ true) where
  abbrev frame : Frame
  frame = object_frame_with bounds rooms T C S

  abbrev es : List Entry
  es = entries ms

  abbrev Name : ℕ → List ℕ
  Name j = (entry_at (entries ms) j).0

  names_of : (js : List ℕ) → ((j : ℕ) → IsIn j js → j < length (entries ms)) → Distinct js → Distinct (map Name js)
  names_of [] h d = tt
  names_of (j ∷ js) h d = (
    (λ i. let (x, a, e) = from_map Name (Name j) js i in
        d.0 (subst (λ z. IsIn z js) (sym (same_name ms good j x (h j (inl refl)) (h x (inr a)) e)) a)),
    names_of js (λ x i. h x (inr i)) d.1,
  )

  -- no more different members of a cell than its names
  capped : (c b : ℕ) → bounds c ≡ Some b → (js : List ℕ) → Distinct js
      → ((j : ℕ) → IsIn j js → (j < length (entries ms)) × (In (cell_of T C (Name j)) ≡ In c)) → length js ≤ b
  capped c b e js d h =
      let few = bound c b e (map Name js) (names_of js (λ j i. (h j i).0) d)
      (λ w i. let (j, a, p) = from_map Name w js i in
      let (l, at) = h j a in (
        subst (λ z. every is_scalar z ≡ true) (sym p)
            (scalar_names ms good (entry_at (entries ms) j) (at_in (entries ms) j l)),
        ap (cell_of T C) p ∙ same_cell (cell_of T C (Name j)) c at,
      )) in
      omega (arith, few, length-map js Name)
    where
      same_cell : (a b : ℕ) → In a ≡ In b → a ≡ b
      same_cell a b e = cc

  formed : (j : ℕ) (l : List Signed) → every (met (λ p. holds T p (entry_at (entries ms) j).1)) l ≡ true
      → is_none (form T l) ≡ false
  formed j l h = go (form T l) (sym (meets-form T ok (entry_at (entries ms) j).1 l) ∙ h) where
    go : (o : Option (List Signed)) → meets_goal T o (entry_at (entries ms) j).1 ≡ true → is_none o ≡ false
    go None e = cc
    go (Some g) e = refl

  pub is_arranged : AreArranged T (object_frame_with bounds rooms T C S) (cell_of T C) (entries ms)
      → IsArranged T (object_frame_with bounds rooms T C S) (arrangement T (cell_of T C) (entries ms))
  is_arranged k = record {
    low = k.low;
    floor = omega arith;
    high = k.high;
    heads = λ j l h. absurd (omega (arith, h));
    rest = λ j l h. (cell_of T C (Name j), refl, k.cells (entry_at (entries ms) j) (at_in (entries ms) j l));
    each = λ j l. k.each (entry_at (entries ms) j) (at_in (entries ms) j l);
    served = λ d i. let (m, a, e, f) = k.served d i in
        let (j, l, q) = in_at m (entries ms) a in (
          j,
          l,
          subst (λ z. (object_frame_with bounds rooms T C S).inside d (cell_of T C z.0) ≡ true) (sym q) e,
          subst (λ z. meets T ((object_frame_with bounds rooms T C S).serving (In (cell_of T C z.0)) d) z.1 ≡ true)
              (sym q) f,
        );
    capped = capped;
    formed = λ j l h e. formed j l e;
  }
