-- An object of depth at most d + 1 meets a saturated set exactly where one of the alternatives of its frame has goals
-- that are met by documents of depth at most d, and fillers so met whose rooms suffice.
use Rattle.std.proofs.Common.{◌≡◌, ℕ, suc, ◌-◌, ◌<◌, ◌≤◌, inl, inr, ⊎_elim, Bool, true, false, ◌&&◌, cond, List, [], ◌∷◌, map, length, nat_eq, nat_lt, nat_le, Option, Some, None, refl, ap, sym, ◌∙◌, subst, arith}
use Rattle.std.proofs.lemmas.Bool.{and_parts, and_from, leb-true, le-leb, ltb-true, ltb-false}
use Rattle.std.specs.List.{range_with_len}
use Rattle.documents.specs.Tests.{every, is_scalar}
use Rattle.documents.specs.Kind.{Object}
use Rattle.documents.specs.Document.{Document, object, Members, entries, depth, members_depth, is_document, are_members, is_before}
use Rattle.documents.specs.Document as D
use Rattle.positions.specs.Position.{Position}
use Rattle.positions.specs.Holds.{holds, IsTable}
use Rattle.goals.specs.Signed.{Signed, met, meets}
use Rattle.goals.specs.Goal.{form}
use Rattle.goal_laws.specs.Formed.{meets_goal}
use Rattle.goal_laws.specs.Saturated.{IsSaturated}
use Rattle.goal_laws.proofs.Forms.{meets-form}
use Rattle.goal_laws.proofs.Saturated.{meets-saturated}
use Rattle.frames.specs.Frame.{In, Frame, list_at, is_at_end}
use Rattle.frames.specs.Plan.{Member, Plan, empty_plan, count_in, used, with_members, placed, goal_of, ends, complete, plan_steps, need}
use Rattle.expansions.specs.SortedMembers.{sorted}
use Rattle.list_laws.specs.In.{IsIn, Distinct}
use Rattle.list_laws.proofs.Lists.{every_at, every_from, in_map, from_map, in_right}
use Rattle.list_laws.proofs.Pigeons.{Distinct-range}
use Rattle.list_laws.proofs.Counts.{Distinct-filter}
use Rattle.frame_laws.proofs.Arranged.{Meets}
use Rattle.frame_laws.proofs.CompletePlans.{IsComplete, complete_is, empty_kept}
use Rattle.frame_laws.proofs.FewMembers as F
use Rattle.cells.specs.Cells.{Cells, cell_of}
use Rattle.frames.specs.ObjectFrame.{number, cap, room, is_allowed, object_frame}
use Rattle.frames.specs.Fillers.{fillers, rooms_of, passes, goals, is_met_by, child_of, fill}
use Rattle.object_laws.specs.ObjectValues.{named, object_of, values}
use Rattle.object_laws.proofs.Sets.{AreMet, AreArranged, arranged, literals_met}
use Rattle.cell_laws.specs.RightCells.{AreCells, AreWords}
use Rattle.object_laws.proofs.Numbered.{entry_at, at_in, arrangement, caps_bound, is_arranged}
use Rattle.object_laws.proofs.Building.{IsFor, AreFor, AreFillers, built_arranged, built_members, built_depth}
use Rattle.frame_laws.proofs.FillersLaws.{fillers_from, fill_from, fill_length, fill_times, fillers_room}
use Rattle.frame_laws.proofs.Followed.{rooms_met, placed_passes, fits_some}
use Rattle.frame_laws.proofs.Signs.{in_has, has_in}

-- parts of members
members_deep : (ms : Members) (m : List ℕ × Document) → IsIn m (entries ms) → depth m.1 ≤ members_depth ms
members_deep D.no_members m i = absurd i
members_deep (D.member k d ms) m (inl e) = let h : depth m.1 ≡ depth d = ap (λ z. depth z.1) e in omega (arith, h)
members_deep (D.member k d ms) m (inr i) = omega (arith, members_deep ms m i)

members_good : (ms : Members) → are_members ms ≡ true → (m : List ℕ × Document) → IsIn m (entries ms)
    → is_document m.1 ≡ true
members_good D.no_members a m i = absurd i
members_good (D.member k d ms) a m i =
    let (front, behind) = and_parts (every is_scalar k && is_document d && is_before k ms) (are_members ms) a in
    let (own, before) = and_parts (every is_scalar k && is_document d) (is_before k ms) front in
    ⊎_elim (λ e. subst (λ z. is_document z.1 ≡ true) (sym e) (and_parts (every is_scalar k) (is_document d) own).1)
    (λ j. members_good ms behind m j) i

module _ (T : List Position) (ok : IsTable T) (S : List Signed) (C : Cells) (laws : AreCells T S C)
    (words : AreWords T C) (d : ℕ) (can : List Signed → Bool) where
  abbrev frame : Frame
  frame = object_frame T C S

  once : Distinct (object_frame T C S).cells
  once = Distinct-filter (is_allowed T C S) (range_with_len 0 (length C.vectors))
      (Distinct-range 0 (length C.vectors))

  count_le : (c : ℕ) (ms : List Member) → count_in c ms ≤ length ms
  count_le c [] = omega arith
  count_le c (m ∷ ms) = go (nat_eq m.cell c) (count_le c ms) where
    go : (t : Bool) → count_in c ms ≤ length ms → cond t (suc (count_in c ms)) (count_in c ms) ≤ suc (length ms)
    go true h = omega (arith, h)
    go false h = omega (arith, h)

  leaves : (n c b : ℕ) → cap C c ≡ Some b → b - n ≤ number C c - n
  leaves n c b e = go (nat_lt (length (C.words c)) C.bound) refl e where
    go : (t : Bool) → nat_lt (length (C.words c)) C.bound ≡ t → cond t (Some (length (C.words c))) None ≡ Some b
        → b - n ≤ number C c - n
    go true h q = let same : length (C.words c) ≡ b = cc in let l = ltb-true (length (C.words c)) C.bound h in
        omega (arith, same, l)
    go false h q = cc

  endless : (c : ℕ) → cap C c ≡ None → C.bound ≤ number C c
  endless c e = go (nat_lt (length (C.words c)) C.bound) refl e where
    go : (t : Bool) → nat_lt (length (C.words c)) C.bound ≡ t → cond t (Some (length (C.words c))) None ≡ None
        → C.bound ≤ number C c
    go true h q = cc
    go false h q = let l = ltb-false (length (C.words c)) C.bound h in omega (arith, l)

  -- a plan without first places needs what the lower bound has more than members
  need_is : (q : Plan) → length q.heads ≡ 0
      → need (object_frame T C S) q ≤ (object_frame T C S).lower - length q.members
  need_is q e = omega (arith, none_used q.heads e, all q.members) where
    none_used : (xs : List (List Signed)) → length xs ≡ 0 → used xs ≡ 0
    none_used [] e = refl
    none_used (y ∷ xs) e = absurd (omega (arith, e))

    all : (ms : List Member) → with_members 0 ms ≡ length ms
    all [] = refl
    all (m ∷ ms) = omega arith

  -- from an object to an alternative
  module _ (complete_can : (g : List Signed) (K : Document) → is_document K ≡ true → depth K ≤ d → meets T g K ≡ true
      → can g ≡ true)
      (counted : (object_frame T C S).lower ≤ C.bound)
      (ms : Members) (good : are_members ms ≡ true) (deep : members_depth ms ≤ d)
      (k : AreMet T ok S C laws ms good) where
    told : (j : ℕ) (l : List Signed) → j < length (entries ms) → Meets (arrangement T (cell_of T C) (entries ms)) j l
        → passes can (form T l) ≡ true
    told j l a m = go (form T l) (sym (meets-form T ok (entry_at (entries ms) j).1 l) ∙ m) where
      go : (o : Option (List Signed)) → meets_goal T o (entry_at (entries ms) j).1 ≡ true → passes can o ≡ true
      go None e = cc
      go (Some g) e =
          let i = at_in (entries ms) j a in
          let h = members_deep ms (entry_at (entries ms) j) i in
          complete_can g (entry_at (entries ms) j).1 (members_good ms good (entry_at (entries ms) j) i)
          (omega (arith, h, deep)) e

    pub object_follows : (q : Plan) × IsIn q (complete (plan_steps T (object_frame T C S)))
        × (is_met_by can T (object_frame T C S) q ≡ true)
    object_follows =
        let A = arrangement T (cell_of T C) (entries ms) in
        let a = is_arranged T ok S C (cap C) (caps_bound T C words) (room C) ms good
        (arranged T ok S C laws ms good k (cap C) (room C)) in
        let (q, i, f) = fits_some T (object_frame T C S) A a once can told in
        let n = rooms_met T (object_frame T C S) A a once can told q (λ c b e. leaves (count_in c q.members) c b e)
        (λ c e. let h = endless c e in let l =
        need_is q f.heads_long in omega (arith, h, l, counted, count_le c q.members)) f in (
          q,
          i,
          and_from (every (passes can) (goals T (object_frame T C S) q))
              (nat_le (need (object_frame T C S) q) (rooms_of can (fillers T (object_frame T C S) q)))
              (every_from (passes can) (goals T (object_frame T C S) q) (λ o j.
              let (s, b, e) = from_map (goal_of T (object_frame T C S)) o (placed (object_frame T C S) q) j in
              subst (λ z. passes can z ≡ true) (sym e)
              (placed_passes T (object_frame T C S) A a once can told q f s b)))
              (le-leb (need (object_frame T C S) q) (rooms_of can (fillers T (object_frame T C S) q)) n),
        )

  -- from an alternative to an object
  module _ (child : List Signed → Document)
      (sound : (g : List Signed) → can g ≡ true → (is_document (child g) ≡ true) × (depth (child g) ≤ d)
      × (meets T g (child g) ≡ true))
      (open_ : is_at_end (object_frame T C S).lower (object_frame T C S).below ≡ false)
      (q : Plan) (i : IsIn q (complete (plan_steps T (object_frame T C S))))
      (planned : ends (plan_steps T (object_frame T C S)) ≤ C.bound)
      (m : is_met_by can T (object_frame T C S) q ≡ true) where
    is_complete : IsComplete T (object_frame T C S) q
    unfolding plan_steps
    is_complete = complete_is T (object_frame T C S) (object_frame T C S).demands (empty_plan (object_frame T C S)) q
        (empty_kept T (object_frame T C S)) i

    -- no cell has more members than the tree has ends
    few : (c : ℕ) → count_in c q.members ≤ C.bound
    few c = let h = F.few T (object_frame T C S) c q i in omega (arith, h, planned)

    both : (every (passes can) (goals T (object_frame T C S) q) ≡ true)
        × (nat_le (need (object_frame T C S) q) (rooms_of can (fillers T (object_frame T C S) q)) ≡ true)
    both = and_parts (every (passes can) (goals T (object_frame T C S) q))
        (nat_le (need (object_frame T C S) q) (rooms_of can (fillers T (object_frame T C S) q))) m

    is_for : (c : ℕ) (ds : List Signed) (o : Option (List Signed)) → goal_of T (object_frame T C S) (In c, ds) ≡ o
        → passes can o ≡ true
        → IsFor T (object_frame T C S) d c ds (child_of can child o)
    is_for c ds None e p = cc
    is_for c ds (Some g) e p =
        let (a, b, h) = sound g p in
        record {
          good = a;
          deep = b;
          met = meets-form T ok (child g) (list_at (object_frame T C S) (In c) ds)
              ∙ ap (λ o. meets_goal T o (child g)) e ∙ h;
        }

    abbrev documents : List Member → List Document
    documents ms = map (λ m. child_of can child (goal_of T (object_frame T C S) (In m.cell, m.served))) ms

    are_for : (ms : List Member)
        → ((x : Member) → IsIn x ms → passes can (goal_of T (object_frame T C S) (In x.cell, x.served)) ≡ true)
        → AreFor T (object_frame T C S) d ms (documents ms)
    are_for [] h = tt
    are_for (x ∷ ms) h = (
      is_for x.cell x.served (goal_of T (object_frame T C S) (In x.cell, x.served)) refl (h x (inl refl)),
      are_for
          ms (λ y j. h y (inr j)),
    )

    member_passes : (x : Member) → IsIn x q.members
        → passes can (goal_of T (object_frame T C S) (In x.cell, x.served)) ≡ true
    member_passes x j =
        every_at (passes can) (goal_of T (object_frame T C S) (In x.cell, x.served)) (goals T (object_frame T C S) q)
        both.0
        (in_map (goal_of T (object_frame T C S)) (In x.cell, x.served) (placed (object_frame T C S) q)
        (in_right (In x.cell, x.served) _ (map (λ m. (In m.cell, m.served)) q.members)
        (in_map (λ m. (In m.cell, m.served)) x q.members j)))

    are_fillers : AreFillers T (object_frame T C S) d q
        (fill can child (need (object_frame T C S) q) (fillers T (object_frame T C S) q))
    are_fillers = record {
      cells = λ v j. let (f, a, b, e) =
          fill_from can child (need (object_frame T C S) q) (fillers T (object_frame T C S) q) v j in
          let (c, h, g) = fillers_from T (object_frame T C S) q f a in
          subst (λ z. IsIn z (object_frame T C S).cells) (sym (ap (λ z. z.0) e ∙ g.cell)) h;
      for = λ v j. let (f, a, b, e) =
          fill_from can child (need (object_frame T C S) q) (fillers T (object_frame T C S) q) v j in
          let (c, h, g) = fillers_from T (object_frame T C S) q f a in
          subst (λ z. IsFor T (object_frame T C S) d z [] v.1) (sym (ap (λ z. z.0) e ∙ g.cell))
          (subst (IsFor T (object_frame T C S) d c []) (sym (ap (λ z. z.1) e)) (is_for c [] (Some f.goal) g.goal b));
      rooms = λ c. let a = fill_times can child c (need (object_frame T C S) q) (fillers T (object_frame T C S) q) in
          let b = fillers_room T (object_frame T C S) q c once in omega (arith, a, b);
      enough = fill_length can child (need (object_frame T C S) q) (fillers T (object_frame T C S) q)
          (leb-true (need (object_frame T C S) q) (rooms_of can (fillers T (object_frame T C S) q)) both.1);
    }

    abbrev pub made : Document
    made = object_of C (values can child T (object_frame T C S) q)

    pub made_document : is_document made ≡ true
    made_document =
        built_members T S C words d q is_complete few open_ (documents q.members) (are_for q.members member_passes)
        (fill can child (need (object_frame T C S) q) (fillers T (object_frame T C S) q)) are_fillers

    pub made_depth : depth made ≤ suc d
    made_depth = built_depth T S C words d q is_complete few open_ (documents q.members)
        (are_for q.members member_passes)
        (fill can child (need (object_frame T C S) q) (fillers T (object_frame T C S) q)) are_fillers

    pub made_arranged : AreArranged T (object_frame T C S) (cell_of T C)
        (entries (sorted (named C [] (values can child T (object_frame T C S) q))))
    made_arranged =
        built_arranged T S C words d q is_complete few open_ (documents q.members) (are_for q.members member_passes)
        (fill can child (need (object_frame T C S) q) (fillers T (object_frame T C S) q)) are_fillers

    pub made_meets : IsSaturated T Object S → meets T S made ≡ true
    made_meets full =
        meets-saturated T ok made S
        (λ x h c. literals_met T ok S C laws (sorted (named C [] (values can child T (object_frame T C S) q)))
        made_document (λ y j. full.none_wrong y (in_has y S j)) (cap C) (room C) made_arranged x (has_in x S h) c)
        full.chosen

  -- where the set is met, its literals are
  pub meets_literals : (ms : Members) (good : are_members ms ≡ true) → meets T S (object ms) ≡ true
      → AreMet T ok S C laws ms good
  meets_literals ms good h x i c = every_at (met (λ p. holds T p (object ms))) x S h i
