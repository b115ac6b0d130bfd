-- A hole means that a count of the goal passes its limit: which one, of which kind and branch, and that none did
-- before.
use Rattle.std.proofs.Common.{◌≡◌, ℕ, ◌+◌, ◌<◌, ◌≤◌, ◌⊎◌, inl, inr, Bool, true, false, cond, nat_lt, List, [], ◌∷◌, ◌++◌, map, flat_map, Option, Some, None, Result, Ok, Err, slice_get, refl, ap, sym, ◌∙◌, subst, zero-add}
use Rattle.std.proofs.lemmas.Bool.{ltb-true, ltb-false}
use Rattle.documents.specs.Tests.{some}
use Rattle.documents.specs.Kind as K
use Rattle.documents.specs.Kind.{Kind, all_kinds}
use Rattle.positions.specs.Position.{Position}
use Rattle.goals.specs.Signed.{Signed}
use Rattle.goals.specs.Tree as G
use Rattle.list_laws.specs.In.{IsIn}
use Rattle.list_laws.proofs.Lists.{in_right, from_flat_map}
use Rattle.frames.specs.Frame.{Frame, is_at_end}
use Rattle.frames.specs.Plan.{Plan, ends, complete, plan_steps}
use Rattle.frames.specs.ArrayFrame as A
use Rattle.frames.specs.ArrayFrame.{array_frame}
use Rattle.frames.specs.ObjectFrame as O
use Rattle.frames.specs.ObjectFrame.{object_frame}
use Rattle.alternatives.specs.Alternative as Alt
use Rattle.alternatives.specs.Alternative.{Alternative, named, places}
use Rattle.alternatives.specs.Limit.{LimitKind, Branches, Counts, Plans, Width, Places, most_ends, most_counts, most_plans, most_places}
use Rattle.alternatives.specs.Expansion.{Expansion, expansion_of, first_limit, with_limit, is_wide, keep, keep_all}
use Rattle.expansions.specs.Leaves.{by_index, by_name, plan_alternative, with_frame, plan_leaf, scalar_leaf, result_map, Finders, leaf}
use Rattle.expansions.specs.Expansion.{from_branch, at_kind, expansion}
use Rattle.expansion_laws.proofs.Leaf.{Answer}
use Rattle.expansion_laws.proofs.Kept.{branch_from}
use Rattle.std.proofs.lemmas.Option.{same_Some}

err_same : (k l : LimitKind) (r : Answer) → r ≡ Err k → r ≡ Err l → k ≡ l
err_same k l r a b = cc

-- what an answer passes, after those that are kept
abbrev pub Exceeds : Expansion → Answer → LimitKind → Type 0
Exceeds e (Err k) l = k ≡ l
Exceeds e (Ok more) l = ((l ≡ Width) × (some is_wide (named more) ≡ true))
    ⊎ ((l ≡ Places) × (most_places < places e.alternatives + places more))

-- the answer that passes the first limit
pub record IsFirstLimit (e : Expansion) (rs : List Answer) (l : LimitKind) : Type 0 where
  pub before : List Answer
  pub answer : Answer
  pub after : List Answer
  pub is : rs ≡ before ++ answer ∷ after
  pub open_ : (keep_all e before).hole ≡ None
  pub exceeds : Exceeds (keep_all e before) answer l

-- a hole stays
stays : (e : Expansion) (r : Answer) (k : LimitKind) → e.hole ≡ Some k → (keep e r).hole ≡ Some k
stays e (Err j) k h = first e.hole h where
  first : (o : Option LimitKind) → o ≡ Some k → first_limit o j ≡ Some k
  first None p = cc
  first (Some i) p = p
stays e (Ok more) k h =
    go (some is_wide (named more)) (nat_lt most_places (places e.alternatives + places more)) where
      first : (j : LimitKind) (o : Option LimitKind) → o ≡ Some k → first_limit o j ≡ Some k
      first j None p = cc
      first j (Some i) p = p

      go : (a b : Bool) → (cond a (with_limit e Width)
          (cond b (with_limit e Places) (expansion_of (e.alternatives ++ more) e.hole))).hole ≡ Some k
      go true b = first Width e.hole h
      go false true = first Places e.hole h
      go false false = h

stays_all : (e : Expansion) (rs : List Answer) (k : LimitKind) → e.hole ≡ Some k → (keep_all e rs).hole ≡ Some k
stays_all e [] k h = h
stays_all e (r ∷ rs) k h = stays_all (keep e r) rs k (stays e r k h)

exceeded : (e : Expansion) (r : Answer) (k : LimitKind) → e.hole ≡ None → (keep e r).hole ≡ Some k → Exceeds e r k
exceeded e (Err j) k h p = first e.hole h p where
  first : (o : Option LimitKind) → o ≡ None → first_limit o j ≡ Some k → j ≡ k
  first None q p = same_Some j k p
  first (Some i) q p = cc
exceeded e (Ok more) k h p =
    go (some is_wide (named more)) (nat_lt most_places (places e.alternatives + places more)) refl refl p where
      first : (j : LimitKind) (o : Option LimitKind) → o ≡ None → first_limit o j ≡ Some k → k ≡ j
      first j None q p = sym (same_Some j k p)
      first j (Some i) q p = cc

      go : (a b : Bool) → some is_wide (named more) ≡ a → nat_lt most_places (places e.alternatives + places more) ≡ b
          → (cond a (with_limit e Width)
          (cond b (with_limit e Places) (expansion_of (e.alternatives ++ more) e.hole))).hole ≡ Some k
          → ((k ≡ Width) × (some is_wide (named more) ≡ true))
          ⊎ ((k ≡ Places) × (most_places < places e.alternatives + places more))
      go true b x y p = inl (first Width e.hole h p, x)
      go false true x y p = inr (first Places e.hole h p, ltb-true most_places (places e.alternatives + places more) y)
      go false false x y p = cc

pub first_limit_is : (rs : List Answer) (e : Expansion) (k : LimitKind) → e.hole ≡ None
    → (keep_all e rs).hole ≡ Some k → IsFirstLimit e rs k
first_limit_is [] e k h p = cc
first_limit_is (r ∷ rs) e k h p = go (keep e r).hole refl (first_limit_is rs (keep e r) k) where
  go : (o : Option LimitKind) → (keep e r).hole ≡ o
      → ((keep e r).hole ≡ None → (keep_all (keep e r) rs).hole ≡ Some k → IsFirstLimit (keep e r) rs k)
      → IsFirstLimit e (r ∷ rs) k
  go None q more =
      let f = more q p in
      record {
        before = r ∷ f.before;
        answer = f.answer;
        after = f.after;
        is = ap (λ z. r ∷ z) f.is;
        open_ = f.open_;
        exceeds = f.exceeds;
      }
  go (Some j) q more =
      let same : j ≡ k = same_Some j k (sym (stays_all (keep e r) rs j q) ∙ p) in
      record {
        before = [];
        answer = r;
        after = rs;
        is = refl;
        open_ = h;
        exceeds = exceeded e r k h (q ∙ ap Some same);
      }

module _ (T : List Position) (leaf : Kind → ℕ → List Signed → Answer) (g : List Signed) where
  -- the limit of a hole: too many ends at a kind, or what a branch of a kind passes after what is kept before it
  pub record IsHole (l : LimitKind) : Type 0 where
    pub kept : Expansion
    pub open_ : kept.hole ≡ None
    pub kind : Kind
    pub passes : ((l ≡ Branches) × (most_ends < G.ends (G.steps T kind g)))
        ⊎ ((G.ends (G.steps T kind g) ≤ most_ends)
        × ((k : ℕ) × ((S : List Signed) × (slice_get (G.branches (G.steps T kind g)) k ≡ Some S)
        × Exceeds kept (leaf kind k S) l)))

  pub hole_is : (l : LimitKind) → (expansion T leaf g).hole ≡ Some l → IsHole l
  unfolding expansion
  hole_is l e =
      let f = first_limit_is (flat_map (at_kind T leaf g) all_kinds) (expansion_of [] None) l refl e in
      let i : IsIn f.answer (flat_map (at_kind T leaf g) all_kinds) =
      subst (λ z. IsIn f.answer z) (sym f.is) (in_right f.answer f.before (f.answer ∷ f.after) (inl refl)) in
      let (t, u, v) = from_flat_map (at_kind T leaf g) f.answer all_kinds i in
      record {
        kept = keep_all (expansion_of [] None) f.before;
        open_ = f.open_;
        kind = t;
        passes = go (keep_all (expansion_of [] None) f.before) t f.answer f.exceeds
            (nat_lt most_ends (G.ends (G.steps T t g))) refl v;
      }
    where
      branches_same : (kept : Expansion) (r : Answer) → r ≡ Err Branches → Exceeds kept r l → Branches ≡ l
      branches_same kept (Err k) p x = err_same Branches k (Err k) p refl ∙ x
      branches_same kept (Ok more) p x = cc

      go : (kept : Expansion) (t : Kind) (r : Answer) → Exceeds kept r l → (b : Bool)
          → nat_lt most_ends (G.ends (G.steps T t g)) ≡ b
          → IsIn r (cond b (Err Branches ∷ []) (from_branch T leaf t 0 (G.branches (G.steps T t g))))
          → ((l ≡ Branches) × (most_ends < G.ends (G.steps T t g)))
          ⊎ ((G.ends (G.steps T t g) ≤ most_ends)
          × ((k : ℕ) × ((S : List Signed) × (slice_get (G.branches (G.steps T t g)) k ≡ Some S)
          × Exceeds kept (leaf t k S) l)))
      go kept t r x true p (inl q) =
          inl (sym (branches_same kept r q x), ltb-true most_ends (G.ends (G.steps T t g)) p)
      go kept t r x true p (inr q) = absurd q
      go kept t r x false p v =
          let (k, (S, q, e)) = branch_from T leaf t 0 (G.branches (G.steps T t g)) r v in
          inr (
            ltb-false most_ends (G.ends (G.steps T t g)) p,
            (
              k,
              (
                S,
                q,
                subst (λ z. Exceeds kept z l)
                    (e ∙ ap (λ z. leaf t z S) (zero-add k)) x,
              ),
            ),
          )

-- the limits of leaves

abbrev pub PassesPlans : List Position → Result Frame LimitKind → LimitKind → Type 0
PassesPlans T (Ok frame) l = (l ≡ Plans) × (most_plans < ends (plan_steps T frame))
PassesPlans T (Err k) l = k ≡ l

module _ (make : Frame → Plan → Alternative) (T : List Position) where
  frame_limit : (fr : Result Frame LimitKind) (l : LimitKind) → with_frame make T fr ≡ Err l → PassesPlans T fr l
  frame_limit (Err k) l e = err_same k l (with_frame make T (Err k)) refl e
  frame_limit (Ok frame) l e = go (nat_lt most_plans (ends (plan_steps T frame))) refl e where
    no_limit : (more : List Alternative) (r : Answer) → r ≡ Ok more → r ≡ Err l → ⊥
    no_limit more r a b = cc

    passed : (r : Answer) → r ≡ Err Plans → r ≡ Err l → l ≡ Plans
    passed r a b = err_same l Plans r b a

    go : (b : Bool) → nat_lt most_plans (ends (plan_steps T frame)) ≡ b
        → cond b (Err Plans) (Ok (map (make frame) (complete (plan_steps T frame)))) ≡ Err l
        → (l ≡ Plans) × (most_plans < ends (plan_steps T frame))
    go true p e = (passed (Err Plans) refl e, ltb-true most_plans (ends (plan_steps T frame)) p)
    go false p e = absurd (no_limit (map (make frame) (complete (plan_steps T frame)))
        (Ok (map (make frame) (complete (plan_steps T frame)))) refl e)

  -- bounds that don't cross, and a lower one that is too large, or what the frame passes
  pub plan_limit : (lower : ℕ) (below : Option ℕ) (fr : Result Frame LimitKind) (l : LimitKind)
      → plan_leaf make T lower below fr ≡ Err l
      → (is_at_end lower below ≡ false)
      × (((l ≡ Counts) × (most_counts < lower)) ⊎ ((lower ≤ most_counts) × PassesPlans T fr l))
  plan_limit lower below fr l e = go (is_at_end lower below) (nat_lt most_counts lower) refl refl e where
    nothing_kept : (r : Answer) → r ≡ Ok [] → r ≡ Err l → ⊥
    nothing_kept r a b = cc

    go : (a b : Bool) → is_at_end lower below ≡ a → nat_lt most_counts lower ≡ b
        → cond a (Ok []) (cond b (Err Counts) (with_frame make T fr)) ≡ Err l
        → (is_at_end lower below ≡ false)
        × (((l ≡ Counts) × (most_counts < lower)) ⊎ ((lower ≤ most_counts) × PassesPlans T fr l))
    go true b p q e = absurd (nothing_kept (Ok []) refl e)
    go false true p q e = (p, inl (err_same l Counts (Err Counts) e refl, ltb-true most_counts lower q))
    go false false p q e = (p, inr (ltb-false most_counts lower q, frame_limit fr l e))

module _ (F : Finders) (T : List Position) where
  -- what the leaf of a kind passes at a set
  abbrev pub IsLimit : Kind → List Signed → LimitKind → Type 0
  IsLimit K.Number S l = F.numbers S ≡ Err l
  IsLimit K.Text S l = F.strings S ≡ Err l
  IsLimit K.Array S l = (is_at_end (A.lower T S) (A.below T S) ≡ false)
      × (((l ≡ Counts) × (most_counts < A.lower T S))
      ⊎ ((A.lower T S ≤ most_counts) × PassesPlans T (Ok (array_frame T S)) l))
  IsLimit K.Object S l = (is_at_end (O.lower T S) (O.below T S) ≡ false)
      × (((l ≡ Counts) × (most_counts < O.lower T S))
      ⊎ ((O.lower T S ≤ most_counts) × PassesPlans T (result_map (λ C. object_frame T C S) (F.cells S)) l))
  IsLimit t S l = ⊥

  none_found : {A : Type 0} (t : Kind) (shape : A → Alt.Shape) (k : ℕ) (r : Result (Option A) LimitKind) (l : LimitKind)
      → scalar_leaf t shape k r ≡ Err l → r ≡ Err l
  none_found t shape k (Ok o) l e = cc
  none_found t shape k (Err j) l e = ap Err (err_same j l (scalar_leaf t shape k (Err j)) refl e)

  -- null and truth values pass none
  pub leaf_limit : (t : Kind) (k : ℕ) (S : List Signed) (l : LimitKind) → leaf F T t k S ≡ Err l → IsLimit t S l
  leaf_limit K.Null k S l e = cc
  leaf_limit K.Boolean k S l e = cc
  leaf_limit K.Number k S l e = none_found K.Number Alt.Number k (F.numbers S) l e
  leaf_limit K.Text k S l e = none_found K.Text (λ w. Alt.Text) k (F.strings S) l e
  leaf_limit K.Array k S l e =
      plan_limit (plan_alternative by_index K.Array k T) T (A.lower T S) (A.below T S) (Ok (array_frame T S)) l e
  leaf_limit K.Object k S l e =
      plan_limit (plan_alternative by_name K.Object k T) T (O.lower T S) (O.below T S)
      (result_map (λ C. object_frame T C S) (F.cells S)) l e
