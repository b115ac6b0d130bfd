-- A set at objects of which no alternative is met is refuted by its rows, the bounds of its cells and its plans.
use Rattle.std.proofs.Common.{◌≡◌, ℕ, ◌+◌, ◌-◌, ◌<◌, ◌≤◌, min, ⊎_elim, Bool, true, false, cond, List, [], ◌∷◌, ◌++◌, map, length, nat_lt, Option, Some, None, Ok, refl, ap, sym, ◌∙◌, subst, append_assoc, arith}
use Rattle.std.proofs.lemmas.Bool.{and_from, lt-ltb, ltb-true, ltb-false, both_ways}
use Rattle.documents.specs.Kind as K
use Rattle.word_states.specs.Classes.{characters}
use Rattle.word_states.specs.Rows.{AreRows}
use Rattle.positions.specs.Position.{Position}
use Rattle.goals.specs.Signed.{Signed}
use Rattle.cells.specs.Cells.{Cells}
use Rattle.frames.specs.Frame.{Frame, is_at_end}
use Rattle.frames.specs.Plan.{Plan, complete, plan_steps}
use Rattle.frames.specs.ObjectFrame as O
use Rattle.frames.specs.ObjectFrame.{object_frame}
use Rattle.list_laws.specs.In.{IsIn}
use Rattle.list_laws.proofs.Lists.{in_map}
use Rattle.alternatives.specs.Alternative.{Alternative, is_met}
use Rattle.alternatives.specs.Limit.{LimitKind, most_states}
use Rattle.expansions.specs.Leaves.{by_name, plan_alternative, object_leaf, result_map}
use Rattle.expansion_laws.proofs.Leaf.{ok_same}
use Rattle.expansion_laws.proofs.PlanLeaf.{IsOpen, leaf_is}
use Rattle.finders.specs.Limits.{limit_passed, unless_passed}
use Rattle.finders.specs.Names.{atoms_of_names, cells_of}
use Rattle.finder_laws.proofs.RowsFound.{none_passed}
use Rattle.verdicts.specs.Rules.{no_rows}
use Rattle.verdicts.specs.RowLines.{and_then, if_so, begin_table}
use Rattle.verdicts.specs.Bounds.{bounds_of}
use Rattle.verdicts.specs.Leaves.{are_within_limits, stated_frame}
use Rattle.verdicts.specs.Duties.{OfSet, OfRows, ForCells, OfObjects, plan_duty, run}
use Rattle.refutations.specs.StatedRows.{rows_of, row_lines}
use Rattle.refutations.specs.PlanTreeLines.{plan_lines}
use Rattle.refutations.specs.ObjectLines.{capped, cap_line, cells_at, frame_at, member_lines, object_lines}
use Rattle.refutation_laws.proofs.Does.{Does}
use Rattle.refutation_laws.proofs.CompleteLines.{can}
use Rattle.refutation_laws.proofs.PlanLeaves.{leaf_does}
use Rattle.refutation_laws.proofs.Rows.{whole_table, rows_done}
use Rattle.refutation_laws.proofs.Strings.{within, some_rows}
use Rattle.refutation_laws.proofs.Bounds.{Found, Own, stack, capped_rise, capped_good, bounds_done, bounds_agree}

-- rooms of cells of which the number of words is cut at 65,537, or isn't
module _ (T : List Position) (S : List Signed) (D : Cells) (bound : D.bound ≡ 65537) where
  room_left : (c b n : ℕ) → (object_frame T D S).cap c ≡ Some b → b - n ≤ (object_frame T D S).room c n
  room_left c b n e = go (nat_lt (length (D.words c)) D.bound) refl e where
    go : (t : Bool) → nat_lt (length (D.words c)) D.bound ≡ t
        → cond t (Some (length (D.words c))) None ≡ Some b → b - n ≤ min D.bound (length (D.words c)) - n
    go true p e =
        let q : length (D.words c) ≡ b = cc in
        let l = ltb-true (length (D.words c)) D.bound p in
        room b (length (D.words c)) D.bound n q l
      where
        room : (b x m n : ℕ) → x ≡ b → x < m → b - n ≤ min m x - n
        room b x m n q l = grind (arith, q, l)
    go false p e = cc

  room_whole : (c n : ℕ) → (object_frame T D S).cap c ≡ None → 65537 ≤ (object_frame T D S).room c n + n
  room_whole c n e = go (nat_lt (length (D.words c)) D.bound) refl e where
    room : (m x n : ℕ) → m ≤ x → m ≤ (min m x - n) + n
    room m x n l = grind (arith, l)

    go : (t : Bool) → nat_lt (length (D.words c)) D.bound ≡ t
        → cond t (Some (length (D.words c))) None ≡ None → 65537 ≤ (min D.bound (length (D.words c)) - n) + n
    go true p e = cc
    go false p e =
        let r = room D.bound (length (D.words c)) n (ltb-false (length (D.words c)) D.bound p) in
        omega (arith, r, bound)

module _ (T : List Position) (S : List Signed) (cite : ℕ → List Signed → Bool) (number : List Signed → Option ℕ)
    (cited : (g : List Signed) (k : ℕ) → number g ≡ Some k → cite k g ≡ true) where
  abbrev make : ℕ → Frame → Plan → Alternative
  make k frame q = plan_alternative by_name K.Object k T frame q

  AreUnmet : ℕ → Frame → Type 0
  AreUnmet k frame = (q : Plan) → IsIn q (complete (plan_steps T frame)) → is_met (can number) (make k frame q) ≡ false

  module _ (L : List (List ℕ)) (rows : AreRows (atoms_of_names T S) L) (few : length L ≤ most_states)
      (passed : limit_passed characters most_states (atoms_of_names T S) ≡ None) where
    plans_do : (k : ℕ) → O.lower T S ≤ 65536 → AreUnmet k (Own T S L rows few)
        → Does T cite
        (plan_duty OfObjects
        (stated_frame T S (whole_table (atoms_of_names T S) L rows)
        (stack T S L rows few (capped (Own T S L rows few)) [])))
        (plan_lines number OfObjects T (Own T S L rows few))
    unfolding AreUnmet
    plans_do k counted unmet =
        leaf_does OfObjects by_name K.Object k T (Own T S L rows few) cite number cited (omega arith) counted
        (room_left T S (Found T S L rows few) refl) (room_whole T S (Found T S L rows few) refl) unmet
        (bounds_of (stack T S L rows few (capped (Own T S L rows few)) [])) (λ c n. 0) (bounds_agree T S L rows few)

    lines_do : (k : ℕ) → O.lower T S ≤ 65536 → AreUnmet k (Own T S L rows few)
        → Does T cite (OfSet K.Object S)
        (member_lines number T S (atoms_of_names T S) L (Found T S L rows few) (Own T S L rows few))
    lines_do k counted unmet ds ms =
        let cs = capped (Own T S L rows few) in
        let caps = map (cap_line T (Found T S L rows few) L) cs in
        let plans = plan_lines number OfObjects T (Own T S L rows few) in
        let lines = row_lines (atoms_of_names T S) L in
        let n = length cs in
        ap (λ b. and_then (λ es. run T cite (es ++ ds) ((lines ++ (caps ++ plans)) ++ ms))
        (if_so no_rows b (OfRows (ForCells n) S (length L) begin_table ∷ [])))
        (and_from (nat_lt 0 (length L)) (are_within_limits (atoms_of_names T S))
        (lt-ltb 0 (length L) (some_rows (atoms_of_names T S) L rows)) (within (atoms_of_names T S) passed))
        ∙ ap (run T cite (OfRows (ForCells n) S (length L) begin_table ∷ ds))
        (append_assoc lines (caps ++ plans) ms ∙ ap (λ z. lines ++ z) (append_assoc caps plans ms))
        ∙ rows_done T cite (ForCells n) S L rows ds (caps ++ (plans ++ ms))
        ∙ bounds_done T S L rows few cite 0 cs [] (capped_rise T S L rows few) tt (capped_good T S L rows few) ds
        (plans ++ ms)
        ∙ plans_do k counted unmet ds ms

  not_passed : (k : ℕ) (more : List Alternative)
      → IsOpen (make k) T (O.lower T S) (result_map (λ D. object_frame T D S) (cells_of T S)) more
      → (limit_passed characters most_states (atoms_of_names T S) ≡ None)
      × (more ≡ map (make k (frame_at T S)) (complete (plan_steps T (frame_at T S))))
  not_passed k more o = go (limit_passed characters most_states (atoms_of_names T S)) refl o.is_frame where
    go : (m : Option LimitKind) → limit_passed characters most_states (atoms_of_names T S) ≡ m
        → result_map {C = LimitKind} (λ D. object_frame T D S) (unless_passed m (cells_at T S)) ≡ Ok o.frame
        → (limit_passed characters most_states (atoms_of_names T S) ≡ None)
        × (more ≡ map (make k (frame_at T S)) (complete (plan_steps T (frame_at T S))))
    go (Some l) p e = cc
    go None p e =
        let q = ok_same (frame_at T S) o.frame
        (result_map {C = LimitKind} (λ D. object_frame T D S) (Ok (cells_at T S))) refl e in
        (p, subst (λ f. more ≡ map (make k f) (complete (plan_steps T f))) (sym q) o.is)

  -- the lines of a set at objects do its duty, where no alternative of its leaf is met
  pub objects_do : (k : ℕ) (more : List Alternative) → is_at_end (O.lower T S) (O.below T S) ≡ false
      → object_leaf T k S (cells_of T S) ≡ Ok more
      → ((a : Alternative) → IsIn a more → is_met (can number) a ≡ false)
      → Does T cite (OfSet K.Object S) (object_lines number T S)
  unfolding AreUnmet
  objects_do k more free e unmet = ⊎_elim
      (λ (x, y). absurd (both_ways (is_at_end (O.lower T S) (O.below T S)) free x))
      (λ (x, o).
      let (p, is) = not_passed k more o in
      let (rows, few) = none_passed (atoms_of_names T S) most_states p in
      lines_do (rows_of (atoms_of_names T S)) rows few p k o.counted (λ q i.
      unmet (make k (frame_at T S) q)
      (subst (λ z. IsIn (make k (frame_at T S) q) z) (sym is)
      (in_map (make k (frame_at T S)) q (complete (plan_steps T (frame_at T S))) i))))
      (leaf_is (make k) T (O.lower T S) (O.below T S) (result_map (λ D. object_frame T D S) (cells_of T S)) more e)
