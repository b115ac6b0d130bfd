-- Where a plan is shown to fit nothing, no array or object is arranged by it; and bounds of what meets a set aren't
-- crossed.
use Rattle.std.proofs.Common.{◌≡◌, ℕ, zero, suc, ◌<◌, ◌≤◌, inl, inr, ⊎_elim, Bool, true, false, ◌&&◌, List, [], length, Option, Some, None, refl, ap, sym, ◌∙◌, subst, arith, replicate}
use Rattle.std.proofs.lemmas.Bool.{and_parts}
use Rattle.std.proofs.lemmas.List.{length-replicate}
use Rattle.std.specs.Option.{is_none}
use Rattle.std.specs.List.{range_with_len}
use Rattle.documents.specs.Tests.{every}
use Rattle.documents.specs.Tests as Tests
use Rattle.documents.specs.Kind as K
use Rattle.documents.specs.Kind.{Kind}
use Rattle.documents.specs.Document.{Document, null, boolean, number, string, array, object, kind_of, elements, entries, depth, items_depth, members_depth, is_document, are_documents, are_members, is_before}
use Rattle.documents.specs.Document as D
use Rattle.positions.specs.Position.{Position}
use Rattle.positions.specs.Holds.{holds, IsTable}
use Rattle.goals.specs.Signed.{Signed, met, meets}
use Rattle.goals.specs.Goal.{form}
use Rattle.goal_laws.specs.Formed.{meets_goal}
use Rattle.goal_laws.proofs.Forms.{meets-form}
use Rattle.list_laws.specs.In.{IsIn, Distinct}
use Rattle.list_laws.proofs.Lists.{every_at}
use Rattle.list_laws.proofs.Counts.{Distinct-filter}
use Rattle.list_laws.proofs.Pigeons.{Distinct-range}
use Rattle.cells.specs.Cells.{cell_of}
use Rattle.frames.specs.Frame.{Frame, is_at_end}
use Rattle.frames.specs.Plan.{Plan, empty_plan}
use Rattle.frames.specs.PlanLines.{Ending, Clashes, Cites, is_cited, is_refuted}
use Rattle.frames.specs.ArrayFrame as A
use Rattle.frames.specs.ArrayFrame.{longest, array_frame}
use Rattle.frames.specs.ObjectFrame.{is_allowed}
use Rattle.frame_laws.proofs.Arranged.{Arrangement, Meets, IsArranged, Fits, at_list}
use Rattle.object_laws.proofs.Sets as OS
use Rattle.object_laws.proofs.Numbered as ON
use Rattle.array_laws.specs.ArrayValues.{doc_at}
use Rattle.array_laws.proofs.Lists.{doc_in}
use Rattle.array_laws.proofs.Sets as AS
use Rattle.finders.specs.Names.{atoms_of_names}
use Rattle.verdicts.specs.RowLines.{Table, stated}
use Rattle.verdicts.specs.Bounds.{Bound, bounds_of, is_right}
use Rattle.verdicts.specs.Leaves.{table_cells, stated_frame}
use Rattle.verdict_laws.proofs.RowsTaken.{AreStated}
use Rattle.verdict_laws.proofs.Cells.{stated_cells, stated_bounds}
use Rattle.frame_laws.proofs.Ends.{at_end_down}
use Rattle.array_laws.proofs.Halves.{items_deep, items_good}

members_deep : (ms : D.Members) (m : List ℕ × Document) → IsIn m (entries ms) → depth m.1 ≤ members_depth ms
members_deep D.no_members m i = absurd i
members_deep (D.member k d ms) m (inl e) = let h : depth m.1 ≡ depth d = ap (λ z. depth z.1) e in omega (arith, h)
members_deep (D.member k d ms) m (inr i) = omega (arith, members_deep ms m i)

members_good : (ms : D.Members) → are_members ms ≡ true → (m : List ℕ × Document) → IsIn m (entries ms)
    → is_document m.1 ≡ true
members_good D.no_members a m i = absurd i
members_good (D.member k d ms) a m i =
    let (front, behind) = and_parts (every Tests.is_scalar k && is_document d && is_before k ms) (are_members ms) a in
    let (own, before) = and_parts (every Tests.is_scalar k && is_document d) (is_before k ms) front in
    ⊎_elim
    (λ e. subst (λ z. is_document z.1 ≡ true) (sym e) (and_parts (every Tests.is_scalar k) (is_document d) own).1)
    (λ j. members_good ms behind m j) i

-- the empty plan fits whatever is arranged

empty_at : (n j : ℕ) (x : Signed) → IsIn x (at_list (replicate n []) j) → ⊥
empty_at zero j x i = i
empty_at (suc n) zero x i = i
empty_at (suc n) (suc j) x i = empty_at n j x i

empty_fits : (T : List Position) (frame : Frame) (A : Arrangement) → Fits T frame A (empty_plan frame)
empty_fits T frame A = record {
  heads_long = length-replicate {A = List Signed} frame.heads [];
  heads_fit = λ j x i. absurd (empty_at frame.heads j x i);
  who = [];
  stand = tt;
  distinct = tt;
}

-- where a set is met, each of its literals is
literal_met : (T : List Position) (J : Document) (S : List Signed) → meets T S J ≡ true → (x : Signed) → IsIn x S
    → met (λ p. holds T p J) x ≡ true
literal_met T J S m x i = every_at (met (λ p. holds T p J)) x S m i

-- `cite` cites nothing for what a document of lesser depth than n meets
module _ (T : List Position) (ok : IsTable T) (cite : ℕ → List Signed → Bool) (n : ℕ)
    (safe : (k : ℕ) (g : List Signed) (J : Document) → is_document J ≡ true → depth J < n → meets T g J ≡ true
    → cite k g ≡ false) where
  -- no document of the kind, of that depth at most, meets the set
  abbrev pub No : Kind → List Signed → Type 0
  No t S = (J : Document) → is_document J ≡ true → depth J ≤ n → kind_of J ≡ t → meets T S J ≡ true → ⊥

  -- what a child meets isn't refuted
  child_safe : (l : List Signed) (e : Ending) (J : Document) → is_document J ≡ true → depth J < n
      → meets T l J ≡ true → is_refuted T cite l e ≡ false
  child_safe l Clashes J good deep m = go (form T l) (sym (meets-form T ok J l) ∙ m) where
    go : (o : Option (List Signed)) → meets_goal T o J ≡ true → is_none o ≡ false
    go None e = cc
    go (Some g) e = refl
  child_safe l (Cites k) J good deep m = go (form T l) (sym (meets-form T ok J l) ∙ m) where
    go : (o : Option (List Signed)) → meets_goal T o J ≡ true → is_cited T cite k o ≡ false
    go None e = cc
    go (Some g) e = safe k g J good deep e

  -- what is arranged by the frame, of elements that aren't refuted, doesn't fit the plan
  abbrev pub Free : Frame → Plan → List Signed → Type 0
  Free frame p left =
      (A : Arrangement) → IsArranged T frame A → Distinct frame.cells
      → ((j : ℕ) (l : List Signed) (e : Ending) → j < A.count → Meets A j l → is_refuted T cite l e ≡ false)
      → Fits T frame A p → ((d : Signed) → IsIn d left → IsIn d frame.demands) → ⊥

  abbrev pub FreeFrame : Frame → Type 0
  FreeFrame frame = Free frame (empty_plan frame) frame.demands

  array_none : (S : List Signed) → FreeFrame (array_frame T S) → (ds : D.Items) → are_documents ds ≡ true
      → suc (items_depth ds) ≤ n → meets T S (array ds) ≡ true → ⊥
  array_none S h ds good deep m =
      let B = AS.arrangement T (longest T S) (elements ds) in
      h B (AS.is_arranged T ok S ds (λ x i c. literal_met T (array ds) S m x i)) ((λ i. i), tt)
      (λ j l e a b. let i = doc_in (elements ds) j a in
      let d = items_deep ds (doc_at (elements ds) j) i in
      child_safe l e (doc_at (elements ds) j) (items_good ds good (doc_at (elements ds) j) i)
      (omega (arith, d, deep)) b)
      (empty_fits T (array_frame T S) B) (λ d i. i)

  -- where no arrangement by the set's frame fits the empty plan, no array meets the set
  pub no_array : (S : List Signed) → FreeFrame (array_frame T S) → No K.Array S
  no_array S h (array ds) good deep k m = array_none S h ds good deep m
  no_array S h null good deep k m = cc
  no_array S h (boolean b) good deep k m = cc
  no_array S h (number x) good deep k m = cc
  no_array S h (string w) good deep k m = cc
  no_array S h (object ms) good deep k m = cc

  module _ (S : List Signed) (t : Table (List ℕ)) (k : AreStated (atoms_of_names T S) t) (bs : List Bound)
      (right : every (is_right T (atoms_of_names T S) t.words (stated t) (table_cells T S t)) bs ≡ true) where
    object_none : FreeFrame (stated_frame T S t bs) → (ms : D.Members) → are_members ms ≡ true
        → suc (members_depth ms) ≤ n → meets T S (object ms) ≡ true → ⊥
    object_none h ms good deep m =
        let laws = stated_cells T S t k in
        let bounds = stated_bounds T S t k bs right in
        let B = ON.arrangement T (cell_of T (table_cells T S t)) (entries ms) in
        h B
        (ON.is_arranged T ok S (table_cells T S t) (bounds_of bs) bounds (λ c n. 0) ms good
        (OS.arranged T ok S (table_cells T S t) laws ms good
        (λ x i c. literal_met T (object ms) S m x i) (bounds_of bs) (λ c n. 0)))
        (Distinct-filter (is_allowed T (table_cells T S t) S) (range_with_len 0 (length (table_cells T S t).vectors))
        (Distinct-range 0 (length (table_cells T S t).vectors)))
        (λ j l e a b. let i = ON.at_in (entries ms) j a in
        let d = members_deep ms (ON.entry_at (entries ms) j) i in
        child_safe l e (ON.entry_at (entries ms) j).1 (members_good ms good (ON.entry_at (entries ms) j) i)
        (omega (arith, d, deep)) b)
        (empty_fits T (stated_frame T S t bs) B) (λ d i. i)

    -- where no arrangement by the set's frame fits the empty plan, no object meets the set
    pub no_object : FreeFrame (stated_frame T S t bs) → No K.Object S
    no_object h (object ms) good deep k m = object_none h ms good deep m
    no_object h null good deep k m = cc
    no_object h (boolean b) good deep k m = cc
    no_object h (number x) good deep k m = cc
    no_object h (string w) good deep k m = cc
    no_object h (array ds) good deep k m = cc

-- bounds

module _ (T : List Position) (ok : IsTable T) (S : List Signed) where
  pub array_bounds : (ds : D.Items) → meets T S (array ds) ≡ true → is_at_end (A.lower T S) (A.below T S) ≡ false
  array_bounds ds m =
      let r = AS.is_arranged T ok S ds (λ x i c. literal_met T (array ds) S m x i) in
      at_end_down (A.lower T S) (length (elements ds)) (A.below T S) r.low r.high
