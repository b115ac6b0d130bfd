-- Documents for the members of a complete plan and for enough fillers make an object that is arranged by the frame.
use Rattle.std.proofs.Common.{◌≡◌, ℕ, suc, ◌+◌, ◌-◌, ◌≤◌, max, inl, inr, ⊎_elim, Bool, true, false, cond, List, [], ◌∷◌, ◌++◌, flat_map, length, nat_eq, nat_lt, Option, Some, None, refl, ap, sym, ◌∙◌, subst, arith, length-append}
use Rattle.std.proofs.lemmas.Bool.{leb-false, lt-leb, ltb-true, ltb-false}
use Rattle.documents.specs.Document.{Document, entries, depth, is_document, are_members}
use Rattle.positions.specs.Position.{Position}
use Rattle.goals.specs.Signed.{Signed, meets}
use Rattle.frames.specs.Frame.{In, Frame, list_at, is_at_end}
use Rattle.frames.specs.Plan.{Member, Plan, count_in, used, with_members, size, need}
use Rattle.expansions.specs.SortedMembers.{sorted}
use Rattle.list_laws.specs.In.{IsIn}
use Rattle.list_laws.proofs.Lists.{every_at, every_from, in_left, in_right, from_append, in_flat_map}
use Rattle.frame_laws.proofs.Occurrences.{cells_of, times_append, cells_append}
use Rattle.object_laws.proofs.SortedMembersLaws.{sorted_members, in_sorted, sorted_in}
use Rattle.frame_laws.proofs.Arranged.{at_list}
use Rattle.frame_laws.proofs.CompletePlans.{IsComplete}
use Rattle.cells.specs.Cells.{Cells, cell_of}
use Rattle.frames.specs.ObjectFrame.{number, object_frame}
use Rattle.frames.specs.Fillers.{times}
use Rattle.expansions.specs.Leaves.{name}
use Rattle.object_laws.specs.ObjectValues.{named, object_of, with_cells}
use Rattle.object_laws.proofs.Sets.{AreArranged}
use Rattle.cell_laws.specs.RightCells.{AreWords}
use Rattle.object_laws.proofs.Names.{name_is, named_from, in_named, named_length, Fit, named_of, named_apart, named_fit, sorted_length, depth_below}

-- documents that meet what is at their members
module _ (T : List Position) (frame : Frame) (d : ℕ) where
  pub record IsFor (c : ℕ) (ds : List Signed) (J : Document) : Type 0 where
    pub good : is_document J ≡ true
    pub deep : depth J ≤ d
    pub met : meets T (list_at frame (In c) ds) J ≡ true

  abbrev pub AreFor : List Member → List Document → Type 0
  AreFor [] [] = Unit {0}
  AreFor (m ∷ ms) (J ∷ Js) = IsFor m.cell m.served J × AreFor ms Js
  AreFor _ _ = ⊥

  -- enough fillers for a plan: as many as it needs, no more in a cell than it has room for
  pub record AreFillers (q : Plan) (fs : List (ℕ × Document)) : Type 0 where
    pub cells : (f : ℕ × Document) → IsIn f fs → IsIn f.0 frame.cells
    pub for : (f : ℕ × Document) → IsIn f fs → IsFor f.0 [] f.1
    pub rooms : (c : ℕ) → times c (cells_of fs) ≤ frame.room c (count_in c q.members)
    pub enough : length fs ≡ need frame q

  pub for_length : (ms : List Member) (Js : List Document) → AreFor ms Js → length (with_cells ms Js) ≡ length ms
  for_length [] [] a = refl
  for_length (m ∷ ms) (J ∷ Js) a = ap suc (for_length ms Js a.1)
  for_length [] (J ∷ Js) a = absurd a
  for_length (m ∷ ms) [] a = absurd a

  pub for_times : (c : ℕ) (ms : List Member) (Js : List Document) → AreFor ms Js
      → times c (cells_of (with_cells ms Js)) ≡ count_in c ms
  for_times c [] [] a = refl
  for_times c (m ∷ ms) (J ∷ Js) a = ap (λ n. cond (nat_eq m.cell c) (suc n) n) (for_times c ms Js a.1)
  for_times c [] (J ∷ Js) a = absurd a
  for_times c (m ∷ ms) [] a = absurd a

  -- a value is that of a member, and each member has its value
  pub for_from : (ms : List Member) (Js : List Document) → AreFor ms Js → (v : ℕ × Document)
      → IsIn v (with_cells ms Js)
      → (m : Member) × IsIn m ms × (v.0 ≡ m.cell) × IsFor m.cell m.served v.1
  for_from [] [] a v i = absurd i
  for_from (m ∷ ms) (J ∷ Js) a v (inl e) =
      (m, inl refl, ap (λ z. z.0) e, subst (λ z. IsFor m.cell m.served z.1) (sym e) a.0)
  for_from (m ∷ ms) (J ∷ Js) a v (inr i) = let (x, j, e, k) = for_from ms Js a.1 v i in (x, inr j, e, k)
  for_from [] (J ∷ Js) a v i = absurd a
  for_from (m ∷ ms) [] a v i = absurd a

  pub for_in : (ms : List Member) (Js : List Document) → AreFor ms Js → (m : Member) → IsIn m ms
      → (J : Document) × IsIn (m.cell, J) (with_cells ms Js) × IsFor m.cell m.served J
  for_in [] Js a m i = absurd i
  for_in (x ∷ ms) (J ∷ Js) a m (inl e) =
      subst (λ z. (J' : Document) × IsIn (z.cell, J') ((x.cell, J) ∷ with_cells ms Js) × IsFor z.cell z.served J')
      (sym e) (J, inl refl, a.0)
  for_in (x ∷ ms) (J ∷ Js) a m (inr i) = let (K, j, k) = for_in ms Js a.1 m i in (K, inr j, k)
  for_in (x ∷ ms) [] a m i = absurd a

  -- what serves demands at a place meets what is required of each thing there
  pub each_met : (c : ℕ) (ds : List Signed) (J : Document) → IsFor c ds J
      → meets T (flat_map (frame.each (In c)) frame.set) J ≡ true
  each_met c ds J k = every_from _ (flat_map (frame.each (In c)) frame.set) (λ y i.
      every_at _ y (list_at frame (In c) ds) k.met
      (in_left y (flat_map (frame.each (In c)) frame.set) (flat_map (frame.serving (In c)) ds) i))

  pub serving_met : (c : ℕ) (ds : List Signed) (J : Document) → IsFor c ds J → (x : Signed) → IsIn x ds
      → meets T (frame.serving (In c) x) J ≡ true
  serving_met c ds J k x j = every_from _ (frame.serving (In c) x) (λ y i.
      every_at _ y (list_at frame (In c) ds) k.met
      (in_right y (flat_map (frame.each (In c)) frame.set) (flat_map (frame.serving (In c)) ds)
      (in_flat_map (frame.serving (In c)) y x ds j i)))

module _ (T : List Position) (S : List Signed) (C : Cells) (laws : AreWords T C) (d : ℕ) (q : Plan)
    (k : IsComplete T (object_frame T C S) q) (few : (c : ℕ) → count_in c q.members ≤ C.bound)
    (open_ : is_at_end (object_frame T C S).lower (object_frame T C S).below ≡ false)
    (Js : List Document) (a : AreFor T (object_frame T C S) d q.members Js)
    (fs : List (ℕ × Document)) (b : AreFillers T (object_frame T C S) d q fs) where
  abbrev frame : Frame
  frame = object_frame T C S

  abbrev vs : List (ℕ × Document)
  vs = with_cells q.members Js ++ fs

  abbrev es : List (List ℕ × Document)
  es = named C [] (with_cells q.members Js ++ fs)

  -- no cell has more members than names
  members_fit : (c : ℕ) → count_in c q.members ≤ number C c
  members_fit c = go (nat_lt (length (C.words c)) C.bound) refl where
    go : (t : Bool) → nat_lt (length (C.words c)) C.bound ≡ t → count_in c q.members ≤ number C c
    go true e =
        let l = ltb-true (length (C.words c)) C.bound e in
        let h = k.kept.capped c (length (C.words c)) (rw e refl) in
        omega (arith, l, h)
    go false e = omega (arith, ltb-false (length (C.words c)) C.bound e, few c)

  fit : Fit C T laws [] vs
  fit c =
      let e : times c (cells_of vs) ≡ times c (cells_of (with_cells q.members Js)) + times c (cells_of fs) =
      ap (times c) (cells_append (with_cells q.members Js) fs)
      ∙ times_append c (cells_of (with_cells q.members Js)) (cells_of fs) in
      let m = for_times T frame d c q.members Js a in
      let r : times c (cells_of fs) ≤ number C c - count_in c q.members = b.rooms c in
      omega (arith, e, m, r, members_fit c)

  no_heads : (xs : List (List Signed)) → length xs ≡ 0 → (x : Signed) (n : ℕ) → IsIn x (at_list xs n) → ⊥
  no_heads [] e x n i = i
  no_heads (y ∷ xs) e x n i = let f : ⊥ = omega (arith, e) in f

  none_used : (xs : List (List Signed)) → length xs ≡ 0 → used xs ≡ 0
  none_used [] e = refl
  none_used (y ∷ xs) e = absurd (omega (arith, e))

  size_is : size frame q ≡ length q.members
  size_is = omega (arith, none_used q.heads k.kept.heads_long, all q.members) where
    all : (ms : List Member) → with_members 0 ms ≡ length ms
    all [] = refl
    all (m ∷ ms) = omega arith

  count_is : length (entries (sorted es)) ≡ max frame.lower (size frame q)
  count_is =
      sorted_length es ∙ named_length C [] vs ∙ length-append (with_cells q.members Js) fs
      ∙ omega (arith, for_length T frame d q.members Js a, b.enough, size_is)

  -- a value: its cell is one of the frame's, and it meets what is required there
  value_at : (v : ℕ × Document) → IsIn v vs → IsIn v.0 frame.cells × ((ds : List Signed) × IsFor T frame d v.0 ds v.1)
  value_at v i = ⊎_elim
      (λ j. let (m, h, e, f) = for_from T frame d q.members Js a v j in (
        subst (λ z. IsIn z frame.cells) (sym e) (k.kept.cells m h),
        (m.served, subst (λ z. IsFor T frame d z m.served v.1) (sym e) f),
      ))
      (λ j. (b.cells v j, ([], b.for v j)))
      (from_append v (with_cells q.members Js) fs i)

  -- a member of the object
  entry_from : (m : List ℕ × Document) → IsIn m (entries (sorted es))
      → IsIn (cell_of T C m.0) frame.cells × ((ds : List Signed) × IsFor T frame d (cell_of T C m.0) ds m.1)
  entry_from m i =
      let n = named_from C [] vs m (in_sorted m es i) in
      let own = named_of C T laws [] vs fit m n in
      let (h, (ds, f)) = value_at n.value n.is_value in
      let same : n.value.1 ≡ m.1 = sym (ap (λ z. z.1) n.is) in (
        subst (λ z. IsIn z frame.cells) (sym own.1) h,
        (ds, subst (λ z. IsFor T frame d z ds m.1) (sym own.1) (subst (IsFor T frame d n.value.0 ds) same f)),
      )

  pub built_arranged : AreArranged T frame (cell_of T C) (entries (sorted es))
  built_arranged = record {
    low = let n = count_is in omega (arith, n);
    high = subst (λ z. is_at_end z frame.below ≡ false) (sym count_is)
        (at_most (frame.lower) (size frame q) frame.below open_ k.under);
    cells = λ m i. (entry_from m i).0;
    each = λ m i. let (h, (ds, f)) = entry_from m i in each_met T frame d (cell_of T C m.0) ds m.1 f;
    served = λ x i. ⊎_elim
        (λ s. ⊎_elim
        (λ (n, j). absurd (no_heads q.heads k.kept.heads_long x n j))
        (λ (m, j, h). by_member x m j h) s)
        (λ z. absurd z) (k.kept.served x i);
  } where
    at_most : (m n : ℕ) (o : Option ℕ) → is_at_end m o ≡ false → is_at_end n o ≡ false → is_at_end (max m n) o ≡ false
    at_most m n None e f = refl
    at_most m n (Some z) e f = lt-leb z (max m n) (omega (arith, leb-false z m e, leb-false z n f))

    by_member : (x : Signed) (m : Member) → IsIn m q.members → IsIn x m.served
        → (e : List ℕ × Document) × IsIn e (entries (sorted es))
        × (frame.inside x (cell_of T C e.0) ≡ true) × (meets T (frame.serving (In (cell_of T C e.0)) x) e.1 ≡ true)
    by_member x m j h =
        let (J, i, f) = for_in T frame d q.members Js a m j in
        let (n, at, l) = in_named C [] vs (m.cell, J) (in_left (m.cell, J) (with_cells q.members Js) fs i) in
        let r = fit m.cell in
        let own = name_is C T laws m.cell n (omega (arith, l, r)) in (
          (name C m.cell n, J),
          sorted_in (name C m.cell n, J) es at,
          subst (λ z. frame.inside x z ≡ true) (sym own.1) (k.kept.inside m x j h),
          serving_met T frame d m.cell m.served J f x h,
        )

  pub built_members : are_members (sorted es) ≡ true
  built_members =
      sorted_members es (named_apart C T laws [] vs fit)
      (named_fit C T laws [] vs fit (λ v i. (value_at v i).1.1.good))

  pub built_depth : depth (object_of C vs) ≤ suc d
  built_depth = let h = depth_below d (sorted es) (λ m i. (entry_from m i).1.1.deep) in omega (arith, h)
