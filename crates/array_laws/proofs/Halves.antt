-- An array of depth at most d + 1 meets a saturated set exactly where one of the alternatives of its frame has goals
-- that are met by documents of depth at most d, and fillers so met whose rooms suffice.
use Rattle.std.proofs.Common.{◌≡◌, ℕ, suc, ◌+◌, ◌<◌, ◌≤◌, inl, inr, ⊎_elim, Bool, true, List, [], ◌∷◌, ◌++◌, map, length, nat_le, Option, Some, None, refl, ap, sym, ◌∙◌, subst, arith}
use Rattle.std.proofs.lemmas.Bool.{and_parts, and_from, leb-true, le-leb}
use Rattle.documents.specs.Tests.{every}
use Rattle.documents.specs.Kind as K
use Rattle.documents.specs.Document.{Document, array, elements, items_of, depth, items_depth, is_document, are_documents}
use Rattle.documents.specs.Document as D
use Rattle.positions.specs.Position.{Position}
use Rattle.positions.specs.Holds.{holds, IsTable}
use Rattle.goals.specs.Signed.{Signed, met, meets}
use Rattle.goals.specs.Goal.{form}
use Rattle.goal_laws.specs.Formed.{meets_goal}
use Rattle.goal_laws.specs.Saturated.{IsSaturated}
use Rattle.goal_laws.proofs.Forms.{meets-form}
use Rattle.goal_laws.proofs.Saturated.{meets-saturated}
use Rattle.frames.specs.Frame.{In, Frame, list_at}
use Rattle.frames.specs.Plan.{Member, Plan, empty_plan, with_members, placed, goal_of, complete, plan_steps, need}
use Rattle.frames.specs.ArrayFrame.{longest, array_frame}
use Rattle.list_laws.specs.In.{IsIn, Distinct}
use Rattle.list_laws.proofs.Lists.{every_at, every_from, in_map, from_map}
use Rattle.frame_laws.proofs.Arranged.{Meets, IsArranged}
use Rattle.frame_laws.proofs.CompletePlans.{IsComplete, complete_is, empty_kept}
use Rattle.frames.specs.Fillers.{fillers, rooms_of, passes, goals, is_met_by, child_of, fill}
use Rattle.frame_laws.proofs.FillersLaws.{fillers_from, fill_from, fill_length}
use Rattle.frame_laws.proofs.Followed.{rooms_met, placed_passes, fits_some}
use Rattle.frame_laws.proofs.Signs.{in_has, has_in}
use Rattle.array_laws.specs.ArrayValues.{doc_at, values, array_of}
use Rattle.array_laws.proofs.Lists.{doc_in}
use Rattle.array_laws.proofs.Sets.{AreMet, arrangement, is_arranged, literals_met}
use Rattle.array_laws.proofs.Building.{Slot, IsFor, elements_of, used_long, built_arranged, built_document, built_depth}

pub items_deep : (ds : D.Items) (J : Document) → IsIn J (elements ds) → depth J ≤ items_depth ds
items_deep D.no_items J i = absurd i
items_deep (D.item e ds) J (inl q) = let h : depth J ≡ depth e = ap depth q in omega (arith, h)
items_deep (D.item e ds) J (inr i) = omega (arith, items_deep ds J i)

pub items_good : (ds : D.Items) → are_documents ds ≡ true → (J : Document) → IsIn J (elements ds) → is_document J ≡ true
items_good D.no_items a J i = absurd i
items_good (D.item e ds) a J i =
    let (own, more) = and_parts (is_document e) (are_documents ds) a in
    ⊎_elim (λ q. subst (λ z. is_document z ≡ true) (sym q) own) (λ j. items_good ds more J j) i

module _ (T : List Position) (ok : IsTable T) (S : List Signed) (d : ℕ) (can : List Signed → Bool) where
  abbrev frame : Frame
  frame = array_frame T S

  once : Distinct (array_frame T S).cells
  once = ((λ i. i), tt)

  -- a plan needs what the lower bound has more than first places and members
  need_is : (q : Plan) → length q.heads ≡ longest T S → need (array_frame T S) q ≤ (array_frame T S).lower
  need_is q e = omega (arith, used_long q.heads, e, all q.members) where
    all : (ms : List Member) → with_members (longest T S) ms ≤ longest T S + length ms
    all [] = omega arith
    all (m ∷ ms) = omega arith

  -- from an array to an alternative
  module _ (complete_can : (g : List Signed) (K : Document) → is_document K ≡ true → depth K ≤ d → meets T g K ≡ true
      → can g ≡ true)
      (counted : (array_frame T S).lower ≤ 65537)
      (ds : D.Items) (good : are_documents ds ≡ true) (deep : items_depth ds ≤ d) (k : AreMet T ok S ds) where
    told : (j : ℕ) (l : List Signed) → j < length (elements ds)
        → Meets (arrangement T (longest T S) (elements ds)) j l → passes can (form T l) ≡ true
    told j l a m = go (form T l) (sym (meets-form T ok (doc_at (elements ds) j) l) ∙ m) where
      go : (o : Option (List Signed)) → meets_goal T o (doc_at (elements ds) j) ≡ true → passes can o ≡ true
      go None e = cc
      go (Some g) e =
          let i = doc_in (elements ds) j a in
          let h = items_deep ds (doc_at (elements ds) j) i in
          complete_can g (doc_at (elements ds) j) (items_good ds good (doc_at (elements ds) j) i)
          (omega (arith, h, deep)) e

    pub array_follows : (q : Plan) × IsIn q (complete (plan_steps T (array_frame T S)))
        × (is_met_by can T (array_frame T S) q ≡ true)
    array_follows =
        let A = arrangement T (longest T S) (elements ds) in
        let a = is_arranged T ok S ds k in
        let (q, i, f) = fits_some T (array_frame T S) A a once can told in
        let n = rooms_met T (array_frame T S) A a once can told q (λ c b e. cc)
        (λ c e. let l = need_is q f.heads_long in omega (arith, l, counted)) f in (
          q,
          i,
          and_from (every (passes can) (goals T (array_frame T S) q))
              (nat_le (need (array_frame T S) q) (rooms_of can (fillers T (array_frame T S) q)))
              (every_from (passes can) (goals T (array_frame T S) q) (λ o j.
              let (s, b, e) = from_map (goal_of T (array_frame T S)) o (placed (array_frame T S) q) j in
              subst (λ z. passes can z ≡ true) (sym e) (placed_passes T (array_frame T S) A a once can told q f s b)))
              (le-leb (need (array_frame T S) q) (rooms_of can (fillers T (array_frame T S) q)) n),
        )

  -- from an alternative to an array
  module _ (child : List Signed → Document)
      (sound : (g : List Signed) → can g ≡ true → (is_document (child g) ≡ true) × (depth (child g) ≤ d)
      × (meets T g (child g) ≡ true))
      (q : Plan) (i : IsIn q (complete (plan_steps T (array_frame T S))))
      (m : is_met_by can T (array_frame T S) q ≡ true) where
    is_complete : IsComplete T (array_frame T S) q
    unfolding plan_steps
    is_complete = complete_is T (array_frame T S) (array_frame T S).demands (empty_plan (array_frame T S)) q
        (empty_kept T (array_frame T S)) i

    both : (every (passes can) (goals T (array_frame T S) q) ≡ true)
        × (nat_le (need (array_frame T S) q) (rooms_of can (fillers T (array_frame T S) q)) ≡ true)
    both = and_parts (every (passes can) (goals T (array_frame T S) q))
        (nat_le (need (array_frame T S) q) (rooms_of can (fillers T (array_frame T S) q))) m

    is_for : (s : Slot) (o : Option (List Signed)) → goal_of T (array_frame T S) s ≡ o → passes can o ≡ true
        → IsFor T (array_frame T S) d s (child_of can child o)
    is_for s None e p = cc
    is_for s (Some g) e p =
        let (a, b, h) = sound g p in
        record {
          good = a;
          deep = b;
          met = meets-form T ok (child g) (list_at (array_frame T S) s.0 s.1)
              ∙ ap (λ o. meets_goal T o (child g)) e ∙ h;
        }

    abbrev value : Slot → Document
    value s = child_of can child (goal_of T (array_frame T S) s)

    abbrev more : List (ℕ × Document)
    more = fill can child (need (array_frame T S) q) (fillers T (array_frame T S) q)

    placed_for : (s : Slot) → IsIn s (placed (array_frame T S) q) → IsFor T (array_frame T S) d s (value s)
    placed_for s j = is_for s (goal_of T (array_frame T S) s) refl
        (every_at (passes can) (goal_of T (array_frame T S) s) (goals T (array_frame T S) q) both.0
        (in_map (goal_of T (array_frame T S)) s (placed (array_frame T S) q) j))

    enough : length more ≡ need (array_frame T S) q
    enough = fill_length can child (need (array_frame T S) q) (fillers T (array_frame T S) q)
        (leb-true (need (array_frame T S) q) (rooms_of can (fillers T (array_frame T S) q)) both.1)

    more_cells : (v : ℕ × Document) → IsIn v more → v.0 ≡ 0
    more_cells v j =
        let (f, a, b, e) = fill_from can child (need (array_frame T S) q) (fillers T (array_frame T S) q) v j in
        let (c, h, g) = fillers_from T (array_frame T S) q f a in
        ap (λ z. z.0) e ∙ g.cell ∙ ⊎_elim (λ z. z) (λ z. absurd z) h

    more_for : (v : ℕ × Document) → IsIn v more → IsFor T (array_frame T S) d (In v.0, []) v.1
    more_for v j =
        let (f, a, b, e) = fill_from can child (need (array_frame T S) q) (fillers T (array_frame T S) q) v j in
        let (c, h, g) = fillers_from T (array_frame T S) q f a in
        subst (λ z. IsFor T (array_frame T S) d (In z, []) v.1) (sym (ap (λ z. z.0) e ∙ g.cell))
        (subst (IsFor T (array_frame T S) d (In c, [])) (sym (ap (λ z. z.1) e))
        (is_for (In c, []) (Some f.goal) g.goal b))

    abbrev pub made : Document
    made = array_of can child T (array_frame T S) q

    abbrev made_of : List Slot → Document
    made_of ss = array (items_of (map value ss))

    same_values : (ss : List Slot) → map (child_of can child) (map (goal_of T (array_frame T S)) ss) ≡ map value ss
    same_values [] = refl
    same_values (s ∷ ss) = ap (λ z. value s ∷ z) (same_values ss)

    same : values can child T (array_frame T S) q ≡ map value (placed (array_frame T S) q) ++ map (λ f. f.1) more
    same = ap (λ z. z ++ map (λ f. f.1) more) (same_values (placed (array_frame T S) q))

    pub made_document : is_document made ≡ true
    made_document = subst (λ z. is_document (array (items_of z)) ≡ true) (sym same)
        (built_document T ok S d q is_complete value placed_for more enough more_cells more_for)

    pub made_depth : depth made ≤ suc d
    made_depth = subst (λ z. depth (array (items_of z)) ≤ suc d) (sym same)
        (built_depth T ok S d q is_complete value placed_for more enough more_cells more_for)

    pub made_meets : IsSaturated T K.Array S → meets T S made ≡ true
    made_meets full = subst (λ z. meets T S (array (items_of z)) ≡ true) (sym same) (by full) where
      es : List Document
      es = map value (placed (array_frame T S) q) ++ map (λ f. f.1) more

      by : IsSaturated T K.Array S
          → meets T S (array (items_of (map value (placed (array_frame T S) q) ++ map (λ f. f.1) more))) ≡ true
      by full =
          meets-saturated T ok (array (items_of (map value (placed (array_frame T S) q) ++ map (λ f. f.1) more))) S
          (λ x h c. literals_met T ok S (items_of (map value (placed (array_frame T S) q) ++ map (λ f. f.1) more))
          (λ y j. full.none_wrong y (in_has y S j))
          (subst (λ z. IsArranged T (array_frame T S) (arrangement T (longest T S) z))
          (sym (elements_of (map value (placed (array_frame T S) q) ++ map (λ f. f.1) more)))
          (built_arranged T ok S d q is_complete value placed_for more enough more_cells more_for)) x (has_in x S h)
          c)
          full.chosen

  -- where the set is met, its literals are
  pub meets_literals : (ds : D.Items) → meets T S (array ds) ≡ true → AreMet T ok S ds
  meets_literals ds h x i c = every_at (met (λ p. holds T p (array ds))) x S h i
