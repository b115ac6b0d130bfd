-- Where the alternatives of a goal come from: each is that of a scalar, or of a complete plan.
use Rattle.std.proofs.Common.{◌≡◌, ℕ, ◌≤◌, ⊎_elim, true, Bool, List, [], ◌∷◌, Option, Some, Result, Ok, Err, slice_get, refl, sym, ◌∙◌, subst}
use Rattle.documents.specs.Kind as K
use Rattle.documents.specs.Kind.{Kind}
use Rattle.positions.specs.Position.{Position}
use Rattle.goals.specs.Signed.{Signed}
use Rattle.goals.specs.Tree as G
use Rattle.frames.specs.Frame.{Frame}
use Rattle.frames.specs.Plan.{Plan, ends, complete, plan_steps}
use Rattle.frames.specs.ArrayFrame as A
use Rattle.frames.specs.ArrayFrame.{array_frame}
use Rattle.frames.specs.ObjectFrame as O
use Rattle.frames.specs.ObjectFrame.{object_frame}
use Rattle.cells.specs.Cells.{Cells}
use Rattle.list_laws.specs.In.{IsIn}
use Rattle.list_laws.proofs.Lists.{from_map}
use Rattle.alternatives.specs.Alternative as Alt
use Rattle.alternatives.specs.Alternative.{Shape, Alternative}
use Rattle.alternatives.specs.Limit.{LimitKind, most_ends}
use Rattle.alternatives.specs.Slots.{has_text}
use Rattle.expansions.specs.Leaves.{Naming, by_index, by_name, plan_alternative, plan_leaf, scalar, scalars, one_or_none, scalar_leaf, result_map, truth_values, Finders, leaf}
use Rattle.expansions.specs.Expansion.{expansion}
use Rattle.expansion_laws.proofs.Leaf.{ok_same}
use Rattle.expansion_laws.proofs.Kept.{expansion_from}
use Rattle.expansion_laws.proofs.PlanLeaf.{leaf_is}
use Rattle.expansion_laws.proofs.Scalars.{listed_scalars, as_listed, one_found}

-- the alternative of a complete plan of a frame whose tree passes no limit
pub record IsPlanned (N : Naming) (t : Kind) (k : ℕ) (T : List Position) (frame : Frame)
    (a : Alternative) : Type 0 where
  pub plan : Plan
  pub is_plan : IsIn plan (complete (plan_steps T frame))
  pub few : ends (plan_steps T frame) ≤ 65536
  pub is : a ≡ plan_alternative N t k T frame plan

-- that of a scalar which isn't a text
pub record IsScalar (t : Kind) (k : ℕ) (a : Alternative) : Type 0 where
  pub shape : Shape
  pub no_text : (cells : List (List (List ℕ))) → has_text cells shape ≡ true
  pub is : a ≡ scalar t k shape

module _ (F : Finders) (T : List Position) where
  abbrev pub IsFrom : Kind → ℕ → List Signed → Alternative → Type 0
  IsFrom K.Text k S a = (w : List ℕ) × (F.strings S ≡ Ok (Some w)) × (a ≡ scalar K.Text k Alt.Text)
  IsFrom K.Array k S a = IsPlanned by_index K.Array k T (array_frame T S) a
  IsFrom K.Object k S a =
      (C : Cells) × (F.cells S ≡ Ok C) × IsPlanned by_name K.Object k T (object_frame T C S) a
  IsFrom t k S a = IsScalar t k a

  planned : (N : Naming) (t : Kind) (k lower : ℕ) (below : Option ℕ) (fr : Result Frame LimitKind)
      (more : List Alternative) → plan_leaf (plan_alternative N t k T) T lower below fr ≡ Ok more
      → (a : Alternative) → IsIn a more → (frame : Frame) × (fr ≡ Ok frame) × IsPlanned N t k T frame a
  planned N t k lower below fr more e a i = ⊎_elim
      (λ (x, y). absurd (subst (λ z. IsIn a z) y i))
      (λ (x, o).
      let (q, b, s) =
      from_map (plan_alternative N t k T o.frame) a (complete (plan_steps T o.frame))
      (subst (λ z. IsIn a z) o.is i) in
      (o.frame, o.is_frame, record { plan = q; is_plan = b; few = o.planned; is = s }))
      (leaf_is (plan_alternative N t k T) T lower below fr more e)

  listed : {A : Type 0} (t : Kind) (shape : A → Shape) (k : ℕ) (r : Result (List A) LimitKind)
      (more : List Alternative) → result_map (scalars t shape k) r ≡ Ok more → (a : Alternative) → IsIn a more
      → (x : A) × ((xs : List A) × (r ≡ Ok xs) × IsIn x xs) × (a ≡ scalar t k (shape x))
  listed t shape k r more e a i =
      let (xs, p, q) = listed_scalars T t shape (λ S. r) k r more e in
      let (x, b, s) = from_map (λ y. scalar t k (shape y)) a xs (subst (λ z. IsIn a z) (sym q) i) in
      (x, (xs, p, b), s)

  found : {A : Type 0} (t : Kind) (shape : A → Shape) (k : ℕ) (r : Result (Option A) LimitKind)
      (more : List Alternative) → scalar_leaf t shape k r ≡ Ok more → (a : Alternative) → IsIn a more
      → (x : A) × (r ≡ Ok (Some x)) × (a ≡ scalar t k (shape x))
  found t shape k r more e a i =
      let (x, (xs, p, j), s) =
      listed t shape k (result_map one_or_none r) more (as_listed T t shape (λ S. r) k r ∙ e) a i in
      (x, (one_found T t shape (λ S. r) r xs p).0 x j, s)

  abbrev framed : List Signed → Result Cells LimitKind → Result Frame LimitKind
  framed S r = result_map (λ C. object_frame T C S) r

  leaf_from : (t : Kind) (k : ℕ) (S : List Signed) (more : List Alternative) → leaf F T t k S ≡ Ok more
      → (a : Alternative) → IsIn a more → IsFrom t k S a
  leaf_from K.Null k S more e a i =
      let (x, p, s) = listed K.Null (λ (b : Bool). Alt.Null) k (Ok (true ∷ [])) more e a i in
      record { shape = Alt.Null; no_text = λ cells. refl; is = s }
  leaf_from K.Boolean k S more e a i =
      let (x, p, s) = listed K.Boolean Alt.Truth k (Ok (truth_values T S)) more e a i in
      record { shape = Alt.Truth x; no_text = λ cells. refl; is = s }
  leaf_from K.Number k S more e a i =
      let (x, p, s) = found K.Number Alt.Number k (F.numbers S) more e a i in
      record { shape = Alt.Number x; no_text = λ cells. refl; is = s }
  leaf_from K.Text k S more e a i = found K.Text (λ w. Alt.Text) k (F.strings S) more e a i
  leaf_from K.Array k S more e a i =
      let (f, p, h) = planned by_index K.Array k (A.lower T S) (A.below T S) (Ok (array_frame T S)) more e a i in
      subst (λ z. IsPlanned by_index K.Array k T z a) (ok_same f (array_frame T S) (Ok (array_frame T S)) p refl) h
  leaf_from K.Object k S more e a i = go (F.cells S) refl e where
    go : (r : Result Cells LimitKind) → F.cells S ≡ r
        → plan_leaf (plan_alternative by_name K.Object k T) T (O.lower T S) (O.below T S)
        (result_map (λ C. object_frame T C S) r) ≡ Ok more
        → (C : Cells) × (F.cells S ≡ Ok C) × IsPlanned by_name K.Object k T (object_frame T C S) a
    go (Ok C) p e =
        let (f, q, h) = planned by_name K.Object k (O.lower T S) (O.below T S) (framed S (Ok C)) more e a i in
        let same : f ≡ object_frame T C S = ok_same f (object_frame T C S) (Ok (object_frame T C S)) q refl in
        (C, p, subst (λ z. IsPlanned by_name K.Object k T z a) same h)
    go (Err l) p e =
        let (f, q, h) = planned by_name K.Object k (O.lower T S) (O.below T S) (framed S (Err l)) more e a i in cc

  -- a branch of the goal, and an alternative of it
  pub record HasOrigin (g : List Signed) (a : Alternative) : Type 0 where
    pub kind : Kind
    pub number : ℕ
    pub branch : List Signed
    pub at : slice_get (G.branches (G.steps T kind g)) number ≡ Some branch
    -- so the branches of its kind are few enough to be listed
    pub few : G.ends (G.steps T kind g) ≤ most_ends
    pub from : IsFrom kind number branch a

  -- each alternative of a goal has a branch of the goal and, there, a scalar or a complete plan
  pub origin : (g : List Signed) (a : Alternative) → IsIn a (expansion T (leaf F T) g).alternatives → HasOrigin g a
  origin g a i =
      let (t, (k, (S, p, few, (more, e, l)))) = expansion_from T (leaf F T) g a i in
      record { kind = t; number = k; branch = S; at = p; few = few; from = leaf_from t k S more e a l }
