-- The leaves of arrays and of objects.
use Rattle.std.proofs.Common.{◌≡◌, ℕ, zero, suc, ◌≤◌, ⊎_elim, Bool, true, false, not, List, map, length, Result, Ok, Err, refl, ap, sym, ◌∙◌, subst, arith}
use Rattle.documents.specs.Kind as K
use Rattle.documents.specs.Kind.{Kind}
use Rattle.documents.specs.Document.{Document, null, boolean, number, string, array, object, entries, elements, depth, items_depth, members_depth, kind_of, is_document, are_documents, are_members}
use Rattle.documents.specs.Document as D
use Rattle.positions.specs.Position.{Position, position_at}
use Rattle.positions.specs.Holds.{holds, IsTable}
use Rattle.position_laws.proofs.Asks.{holds-asks}
use Rattle.goals.specs.Signed.{Signed, Plus, Minus, met, meets}
use Rattle.goal_laws.specs.Saturated.{IsSaturated}
use Rattle.frames.specs.Frame.{Frame, is_at_end}
use Rattle.frames.specs.Plan.{Plan, ends, complete, plan_steps}
use Rattle.frames.specs.ArrayFrame as A
use Rattle.frames.specs.ArrayFrame.{longest, array_frame}
use Rattle.list_laws.specs.In.{IsIn, Distinct}
use Rattle.list_laws.proofs.Lists.{every_at, in_map, from_map}
use Rattle.cells.specs.Cells.{Cells}
use Rattle.frames.specs.ObjectFrame as O
use Rattle.frames.specs.ObjectFrame.{cap, room, is_allowed, object_frame}
use Rattle.frames.specs.Fillers.{is_met_by}
use Rattle.object_laws.proofs.Literals.{IsPlus, IsMinus, is_plus, is_minus}
use Rattle.object_laws.proofs.Sets.{lower_from, below_from}
use Rattle.cell_laws.specs.RightCells.{AreCells, AreWords}
use Rattle.object_laws.proofs.Halves as OH
use Rattle.array_laws.proofs.Sets.{is_arranged}
use Rattle.array_laws.proofs.Halves as AH
use Rattle.alternatives.specs.Alternative.{Alternative, is_met}
use Rattle.alternatives.specs.Limit.{LimitKind}
use Rattle.expansions.specs.Leaves.{by_index, by_name, plan_alternative, result_map, array_leaf, object_leaf, names_of}
use Rattle.expansions.specs.DocumentOf.{document_of}
use Rattle.expansion_laws.proofs.Parts.{array_same, object_same}
use Rattle.list_laws.proofs.Pigeons.{Distinct-range}
use Rattle.list_laws.proofs.Counts.{Distinct-filter}
use Rattle.std.specs.List.{range_with_len}
use Rattle.expansion_laws.proofs.Leaf.{ok_same, AllPass, AreChildren, IsMade, IsLeaf}
use Rattle.expansion_laws.proofs.PlanLeaf.{met_same, complete_plan, IsOpen, leaf_is}
use Rattle.std.proofs.lemmas.Bool.{both_ways}
use Rattle.frame_laws.proofs.Ends.{at_end_down}

module _ (T : List Position) (ok : IsTable T) where
  -- arrays

  abbrev array_alternative : List Signed → ℕ → Plan → Alternative
  array_alternative S k q = plan_alternative by_index K.Array k T (array_frame T S) q

  array_list : (k : ℕ) (S : List Signed) (more : List Alternative)
      → IsOpen (plan_alternative by_index K.Array k T) T (A.lower T S) (Ok (array_frame T S)) more
      → more ≡ map (array_alternative S k) (complete (plan_steps T (array_frame T S)))
  array_list k S more o =
      subst (λ f. more ≡ map (plan_alternative by_index K.Array k T f) (complete (plan_steps T f)))
      (ok_same o.frame (array_frame T S) (Ok (array_frame T S)) o.is_frame refl) o.is

  array_in : (k : ℕ) (S : List Signed) (more : List Alternative) → array_leaf T k S ≡ Ok more
      → (d : ℕ) (can : List Signed → Bool) → AllPass T (suc d) can
      → (ds : D.Items) → are_documents ds ≡ true → items_depth ds ≤ d → meets T S (array ds) ≡ true
      → (a : Alternative) × IsIn a more × (is_met can a ≡ true)
  array_in k S more e d can pass ds good deep m =
      let k' = AH.meets_literals T ok S d can ds m in
      let r = is_arranged T ok S ds k' in
      ⊎_elim
      (λ (x, y). absurd
      (both_ways (is_at_end (A.lower T S) (A.below T S)) (at_end_down (A.lower T S) _ (A.below T S) r.low r.high) x))
      (λ (x, o).
      let (q, i, h) =
      AH.array_follows T ok S d can (λ g J a b c. pass g J a (omega (arith, b)) c)
      (let l = o.counted in omega (arith, l)) ds good deep k' in (
        array_alternative S k q,
        subst (λ z. IsIn (array_alternative S k q) z) (sym (array_list k S more o))
            (in_map (array_alternative S k) q (complete (plan_steps T (array_frame T S))) i),
        met_same by_index can T (array_frame T S) K.Array k q (complete_plan T (array_frame T S) q i) ∙ h,
      ))
      (leaf_is (plan_alternative by_index K.Array k T) T (A.lower T S) (A.below T S) (Ok (array_frame T S)) more e)

  array_down : (k : ℕ) (S : List Signed) (more : List Alternative) → array_leaf T k S ≡ Ok more
      → (d : ℕ) (can : List Signed → Bool) → AllPass T d can
      → (J : Document) → is_document J ≡ true → kind_of J ≡ K.Array → depth J ≤ d → meets T S J ≡ true
      → (a : Alternative) × IsIn a more × (is_met can a ≡ true)
  array_down k S more e zero can pass (array ds) good kind deep m = absurd (omega (arith, deep))
  array_down k S more e (suc d) can pass (array ds) good kind deep m =
      array_in k S more e d can pass ds good (omega (arith, deep)) m
  array_down k S more e d can pass null good kind deep m = cc
  array_down k S more e d can pass (boolean b) good kind deep m = cc
  array_down k S more e d can pass (number n) good kind deep m = cc
  array_down k S more e d can pass (string s) good kind deep m = cc
  array_down k S more e d can pass (object ms) good kind deep m = cc

  array_up : (k : ℕ) (S : List Signed) → IsSaturated T K.Array S → (more : List Alternative)
      → array_leaf T k S ≡ Ok more
      → (d : ℕ) (can : List Signed → Bool) (child : List Signed → Document) → AreChildren T d can child
      → (names : ℕ → ℕ → List ℕ) (a : Alternative) → IsIn a more → is_met can a ≡ true
      → IsMade T (suc d) S (document_of can child names a)
  array_up k S full more e d can child are names a i m = ⊎_elim
      (λ (x, y). absurd (subst (λ z. IsIn a z) y i))
      (λ (x, o).
      let (q, j, s) =
      from_map (array_alternative S k) a (complete (plan_steps T (array_frame T S)))
      (subst (λ z. IsIn a z) (array_list k S more o) i) in
      let h : is_met_by can T (array_frame T S) q ≡ true =
      sym (met_same by_index can T (array_frame T S) K.Array k q (complete_plan T (array_frame T S) q j))
      ∙ subst (λ z. is_met can z ≡ true) s m in
      subst (λ z. IsMade T (suc d) S (document_of can child names z)) (sym s)
      (subst (λ z. IsMade T (suc d) S z)
      (sym (array_same can child T (array_frame T S) names k q (complete_plan T (array_frame T S) q j))) (
        AH.made_document T ok S d can child are q j h,
        AH.made_depth T ok S d can child are q j h,
        AH.made_meets T ok S
            d can child are q j h full,
      )))
      (leaf_is (plan_alternative by_index K.Array k T) T (A.lower T S) (A.below T S) (Ok (array_frame T S)) more e)

  array_branch : (k : ℕ) (S : List Signed) (more : List Alternative) → array_leaf T k S ≡ Ok more → (a : Alternative)
      → IsIn a more
      → (a.kind ≡ K.Array) × (a.branch ≡ k)
  array_branch k S more e a i = ⊎_elim
      (λ (x, y). absurd (subst (λ z. IsIn a z) y i))
      (λ (x, o).
      let (q, j, s) =
      from_map (array_alternative S k) a (complete (plan_steps T (array_frame T S)))
      (subst (λ z. IsIn a z) (array_list k S more o) i) in
      (ap (λ z. z.kind) s, ap (λ z. z.branch) s))
      (leaf_is (plan_alternative by_index K.Array k T) T (A.lower T S) (A.below T S) (Ok (array_frame T S)) more e)

  -- what the expander gives for a branch at arrays is a leaf, whatever names it is given
  pub array_is_leaf : (names : List Signed → ℕ → ℕ → List ℕ) → IsLeaf T K.Array names (λ k S. array_leaf T k S)
  array_is_leaf names = record {
    follows = λ k S full more e d can pass J good kind deep m. array_down k S more e d can pass J good kind deep m;
    made = λ k S full more e d can child are a i m. array_up k S full more e d can child are (names S) a i m;
    of_branch = array_branch;
  }

  -- objects

  -- an object that meets the set keeps its bounds from crossing, whatever cells there are
  module _ (S : List Signed) (ms : D.Members) (m : meets T S (object ms) ≡ true) where
    plus_at : (p : ℕ) → IsIn (Plus p) S → IsPlus T (λ q. holds T q (object ms)) ms (position_at T p)
    plus_at p i = is_plus T (λ q. holds T q (object ms)) ms (position_at T p)
        (λ c. sym (holds-asks T ok p (object ms)) ∙ every_at (met (λ q. holds T q (object ms))) (Plus p) S m i)

    minus_at : (p : ℕ) → IsIn (Minus p) S → IsMinus T (λ q. holds T q (object ms)) ms (position_at T p)
    minus_at p i = is_minus T (λ q. holds T q (object ms)) ms (position_at T p)
        (λ c. ap not (sym (holds-asks T ok p (object ms)))
        ∙ every_at (met (λ q. holds T q (object ms))) (Minus p) S m i)

    low_at : (x : Signed) → IsIn x S → O.lower_at T x ≤ length (entries ms)
    low_at (Plus p) i = (plus_at p i).low
    low_at (Minus p) i = (minus_at p i).low

    high_at : (x : Signed) → IsIn x S → is_at_end (length (entries ms)) (O.below_at T x) ≡ false
    high_at (Plus p) i = (plus_at p i).high
    high_at (Minus p) i = (minus_at p i).high

    pub object_bounds : is_at_end (O.lower T S) (O.below T S) ≡ false
    object_bounds = at_end_down (O.lower T S) (length (entries ms)) (O.below T S)
        (lower_from T S (length (entries ms)) low_at) (below_from T S (length (entries ms)) high_at)

  -- the cells of a set are cells of all names, with words, counted up to 65,537
  pub record IsCells (S : List Signed) (C : Cells) : Type 0 where
    pub cells : AreCells T S C
    pub words : AreWords T C
    pub bound : C.bound ≡ 65537

  abbrev object_alternative : List Signed → Cells → ℕ → Plan → Alternative
  object_alternative S C k q = plan_alternative by_name K.Object k T (object_frame T C S) q

  mapped_ok : (S : List Signed) (r : Result Cells LimitKind) (f : Frame)
      → result_map {C = LimitKind} (λ C. object_frame T C S) r ≡ Ok f
      → (C : Cells) × (r ≡ Ok C) × (f ≡ object_frame T C S)
  mapped_ok S (Ok C) f e =
      (C, refl, ok_same f (object_frame T C S) (result_map (λ C. object_frame T C S) (Ok C)) e refl)
  mapped_ok S (Err l) f e = cc

  module _ (find : List Signed → Result Cells LimitKind)
      (right : (S : List Signed) → IsSaturated T K.Object S → (C : Cells) → find S ≡ Ok C → IsCells S C) where
    cells_once : (C : Cells) (S : List Signed) → Distinct (object_frame T C S).cells
    cells_once C S =
        Distinct-filter (is_allowed T C S) (range_with_len 0 (length C.vectors))
        (Distinct-range 0 (length C.vectors))

    object_open : (k : ℕ) (S : List Signed) (more : List Alternative)
        → IsOpen (plan_alternative by_name K.Object k T) T (O.lower T S)
        (result_map (λ C. object_frame T C S) (find S)) more
        → (C : Cells) × (find S ≡ Ok C)
        × (more ≡ map (object_alternative S C k) (complete (plan_steps T (object_frame T C S))))
        × (ends (plan_steps T (object_frame T C S)) ≤ 65536)
    object_open k S more o =
        let (C, p, q) = mapped_ok S (find S) o.frame o.is_frame in (
          C,
          p,
          subst (λ f. more ≡ map (plan_alternative by_name K.Object k T f) (complete (plan_steps T f))) q o.is,
          subst (λ f. ends (plan_steps T f) ≤ 65536) q o.planned,
        )

    object_in : (k : ℕ) (S : List Signed) → IsSaturated T K.Object S → (more : List Alternative)
        → object_leaf T k S (find S) ≡ Ok more
        → (d : ℕ) (can : List Signed → Bool) → AllPass T (suc d) can
        → (ms : D.Members) → are_members ms ≡ true → members_depth ms ≤ d → meets T S (object ms) ≡ true
        → (a : Alternative) × IsIn a more × (is_met can a ≡ true)
    object_in k S full more e d can pass ms good deep m = ⊎_elim
        (λ (x, y). absurd (both_ways (is_at_end (O.lower T S) (O.below T S)) (object_bounds S ms m) x))
        (λ (x, o).
        let (C, p, is, planned) = object_open k S more o in
        let h = right S full C p in
        let k' = OH.meets_literals T ok S C h.cells h.words d can ms good m in
        let (q, i, u) =
        OH.object_follows T ok S C h.cells h.words d can (λ g J a b c. pass g J a (omega (arith, b)) c)
        (let l = o.counted in let b = h.bound in omega (arith, l, b)) ms good deep k' in (
          object_alternative S C k q,
          subst (λ z. IsIn (object_alternative S C k q) z) (sym is)
              (in_map (object_alternative S C k) q (complete (plan_steps T (object_frame T C S))) i),
          met_same by_name can T (object_frame T C S) K.Object k q (complete_plan T (object_frame T C S) q i) ∙ u,
        ))
        (leaf_is (plan_alternative by_name K.Object k T) T (O.lower T S) (O.below T S)
        (result_map (λ C. object_frame T C S) (find S)) more e)

    object_down : (k : ℕ) (S : List Signed) → IsSaturated T K.Object S → (more : List Alternative)
        → object_leaf T k S (find S) ≡ Ok more
        → (d : ℕ) (can : List Signed → Bool) → AllPass T d can
        → (J : Document) → is_document J ≡ true → kind_of J ≡ K.Object → depth J ≤ d → meets T S J ≡ true
        → (a : Alternative) × IsIn a more × (is_met can a ≡ true)
    object_down k S full more e zero can pass (object ms) good kind deep m = absurd (omega (arith, deep))
    object_down k S full more e (suc d) can pass (object ms) good kind deep m =
        object_in k S full more e d can pass ms good (omega (arith, deep)) m
    object_down k S full more e d can pass null good kind deep m = cc
    object_down k S full more e d can pass (boolean b) good kind deep m = cc
    object_down k S full more e d can pass (number n) good kind deep m = cc
    object_down k S full more e d can pass (string s) good kind deep m = cc
    object_down k S full more e d can pass (array ds) good kind deep m = cc

    object_up : (k : ℕ) (S : List Signed) → IsSaturated T K.Object S → (more : List Alternative)
        → object_leaf T k S (find S) ≡ Ok more
        → (d : ℕ) (can : List Signed → Bool) (child : List Signed → Document) → AreChildren T d can child
        → (a : Alternative) → IsIn a more → is_met can a ≡ true
        → IsMade T (suc d) S (document_of can child (names_of (find S)) a)
    object_up k S full more e d can child are a i m = ⊎_elim
        (λ (x, y). absurd (subst (λ z. IsIn a z) y i))
        (λ (x, o).
        let (C, p, is, planned) = object_open k S more o in
        let h = right S full C p in
        let (q, j, s) =
        from_map (object_alternative S C k) a (complete (plan_steps T (object_frame T C S)))
        (subst (λ z. IsIn a z) is i) in
        let u : is_met_by can T (object_frame T C S) q ≡ true =
        sym (met_same by_name can T (object_frame T C S) K.Object k q (complete_plan T (object_frame T C S) q j))
        ∙ subst (λ z. is_met can z ≡ true) s m in
        let l : ends (plan_steps T (object_frame T C S)) ≤ C.bound = (let b = h.bound in omega (arith, planned, b)) in
        subst (λ z. IsMade T (suc d) S (document_of can child (names_of (find S)) z)) (sym s)
        (subst (λ z. IsMade T (suc d) S z)
        (sym (ap (λ w. document_of can child w (object_alternative S C k q)) (ap names_of p)
        ∙ object_same can child T (object_frame T C S) C k q (complete_plan T (object_frame T C S) q j) refl
        (cells_once C S))) (
          OH.made_document T ok S C h.cells h.words d can child are x q j l u,
          OH.made_depth T ok S C h.cells h.words d
              can child are x q j l u,
          OH.made_meets T ok S C h.cells h.words d can child are x q j l u full,
        )))
        (leaf_is (plan_alternative by_name K.Object k T) T (O.lower T S) (O.below T S)
        (result_map (λ C. object_frame T C S) (find S)) more e)

    object_branch : (k : ℕ) (S : List Signed) (more : List Alternative) → object_leaf T k S (find S) ≡ Ok more
        → (a : Alternative) → IsIn a more
        → (a.kind ≡ K.Object) × (a.branch ≡ k)
    object_branch k S more e a i = ⊎_elim
        (λ (x, y). absurd (subst (λ z. IsIn a z) y i))
        (λ (x, o).
        let (C, p, is, planned) = object_open k S more o in
        let (q, j, s) =
        from_map (object_alternative S C k) a (complete (plan_steps T (object_frame T C S)))
        (subst (λ z. IsIn a z) is i) in
        (ap (λ z. z.kind) s, ap (λ z. z.branch) s))
        (leaf_is (plan_alternative by_name K.Object k T) T (O.lower T S) (O.below T S)
        (result_map (λ C. object_frame T C S) (find S)) more e)

    -- what the expander gives for a branch at objects, with the cells that were found, is a leaf
    pub object_is_leaf : IsLeaf T K.Object (λ S. names_of (find S)) (λ k S. object_leaf T k S (find S))
    object_is_leaf = record {
      follows = λ k S full more e d can pass J good kind deep m. object_down k S full more e d can pass J good kind
          deep m;
      made = λ k S full more e d can child are a i m. object_up k S full more e d can child are a i m;
      of_branch = object_branch;
    }
