-- The lines of a goal cite no other numbers than those of goals.
use Rattle.std.proofs.Common.{◌≡◌, ℕ, suc, ◌-◌, inl, inr, ⊎_elim, Bool, true, false, cond, List, [], ◌∷◌, ◌++◌, map, flat_map, length, nat_eq, nat_lt, Option, Some, None, refl, ap, sym, ◌∙◌, subst}
use Rattle.documents.specs.Kind as K
use Rattle.documents.specs.Kind.{Kind, all_kinds}
use Rattle.word_states.specs.Atom.{Atom}
use Rattle.word_states.specs.Rows.{targets_of}
use Rattle.positions.specs.Position.{Position}
use Rattle.goals.specs.Signed.{Signed}
use Rattle.goals.specs.Tree.{Step, Clash, Wrong, Rule, Saturated, steps}
use Rattle.cells.specs.Cells.{Cells}
use Rattle.frames.specs.Frame.{Place, In, Frame, is_at_end}
use Rattle.frames.specs.Plan.{Plan, empty_plan, count_in, options, size, placed, goal_of, first_clash}
use Rattle.frames.specs.ArrayFrame.{array_frame}
use Rattle.finders.specs.Strings.{string_atoms}
use Rattle.finders.specs.Names.{atoms_of_names}
use Rattle.list_laws.specs.In.{IsIn}
use Rattle.list_laws.proofs.Lists.{from_append, from_map, from_flat_map}
use Rattle.certificate_lines.specs.Line as L
use Rattle.certificate_lines.specs.Line.{Line, Ending, ShortEntry}
use Rattle.verdicts.specs.Leaves.{crossed}
use Rattle.verdicts.specs.Duties.{Form, OfArrays, OfObjects, heads_placed}
use Rattle.refutations.specs.StatedRows.{rows_of, row_lines}
use Rattle.refutations.specs.StringLines.{length_lines}
use Rattle.refutations.specs.TreeLines.{step_lines, tree_lines}
use Rattle.refutations.specs.PlanTreeLines.{at_line, number_of, kept_unless, filler_entry, entry_at, cited_or, first_cited, complete_line, unless_clash, unless_over, lines_from, plan_lines}
use Rattle.refutations.specs.ObjectLines.{capped, cap_line, cells_at, frame_at, member_lines}
use Rattle.refutations.specs.GoalLines.{unless_crossed, open_lines, leaf_lines, kind_lines, goal_lines}
use Rattle.refutations.specs.Listing.{cited_by_ending, cited_by_entry, cited_by, cited}

module _ (number : List Signed → Option ℕ) where
  -- the number of a goal
  abbrev pub IsNumber : ℕ → Type 0
  IsNumber j = (g : List Signed) × (number g ≡ Some j)

  abbrev AreNumbers : List ℕ → Type 0
  AreNumbers js = (j : ℕ) → IsIn j js → IsNumber j

  abbrev Fine : List Line → Type 0
  Fine ls = (l : Line) → IsIn l ls → AreNumbers (cited_by l)

  nothing : AreNumbers []
  nothing j i = absurd i

  fine_none : Fine []
  fine_none l i = absurd i

  fine_more : (l : Line) (ls : List Line) → AreNumbers (cited_by l) → Fine ls → Fine (l ∷ ls)
  fine_more l ls h more k (inl q) = subst (λ z. AreNumbers (cited_by z)) (sym q) h
  fine_more l ls h more k (inr i) = more k i

  fine_both : (xs ys : List Line) → Fine xs → Fine ys → Fine (xs ++ ys)
  fine_both xs ys a b l i = ⊎_elim (λ x. a l x) (λ y. b l y) (from_append l xs ys i)

  fine_each : {A : Type 0} (f : A → List Line) (xs : List A) → ((x : A) → IsIn x xs → Fine (f x))
      → Fine (flat_map f xs)
  fine_each f xs h l i = let (x, a, b) = from_flat_map f l xs i in h x a l b

  fine_map : {A : Type 0} (f : A → Line) (xs : List A) → ((x : A) → AreNumbers (cited_by (f x))) → Fine (map f xs)
  fine_map f xs h l i =
      let (x, a, e) = from_map f l xs i in subst (λ z. AreNumbers (cited_by z)) (sym e) (h x)

  one_number : (g : List Signed) (k : ℕ) → number g ≡ Some k → AreNumbers (k ∷ [])
  one_number g k e j (inl q) = (g, e ∙ ap Some (sym q))
  one_number g k e j (inr i) = absurd i

  -- lines of plans

  fine_at : (form : Form) (frame : Frame) (p : Plan) (k : ℕ) (e : Ending) → AreNumbers (cited_by_ending e)
      → AreNumbers (cited_by (at_line form frame p k e))
  fine_at OfObjects frame p k e h = h
  fine_at OfArrays frame p k e h = go (nat_lt k (heads_placed frame p)) where
    go : (b : Bool) → AreNumbers (cited_by (cond b (L.OfIndex k e) (L.OfTail (k - heads_placed frame p) e)))
    go true = h
    go false = h

  entry_fine : (o : Option (List Signed)) → AreNumbers (cited_by_entry (filler_entry number o))
  entry_fine None = nothing
  entry_fine (Some g) = go (number g) refl where
    go : (o : Option ℕ) → number g ≡ o → AreNumbers (cited_by_entry (kept_unless number o))
    go None e = nothing
    go (Some k) e = one_number g k e

  module _ (form : Form) (T : List Position) (frame : Frame) where
    kept_fine : (p : Plan) (c : ℕ) → AreNumbers (cited_by_entry (entry_at number T frame p c))
    kept_fine p c = go (nat_eq (frame.room c (count_in c p.members)) 0) where
      go : (b : Bool)
          → AreNumbers (cited_by_entry (cond b L.Kept (filler_entry number (goal_of T frame (In c, [])))))
      go true = nothing
      go false = entry_fine (goal_of T frame (In c, []))

    short_fine : (p : Plan) (cs : List ℕ)
        → AreNumbers (flat_map cited_by_entry (map (entry_at number T frame p) cs))
    short_fine p cs j i =
        let (x, a, b) = from_flat_map cited_by_entry j (map (entry_at number T frame p) cs) i in
        let (c, d, e) = from_map (entry_at number T frame p) x cs a in
        kept_fine p c j (subst (λ z. IsIn j (cited_by_entry z)) e b)

    first_fine : (p : Plan) (k : ℕ) (ss : List (Place × List Signed)) (l : Line) → AreNumbers (cited_by l)
        → AreNumbers (cited_by (first_cited number form T frame p k ss l))
    first_fine p k [] l h = h
    first_fine p k (s ∷ ss) l h = go (goal_of T frame s) (first_fine p (suc k) ss l h) where
      by : (g : List Signed) (o : Option ℕ) → number g ≡ o
          → AreNumbers (cited_by (first_cited number form T frame p (suc k) ss l))
          → AreNumbers (cited_by (cited_or number form T frame p k o (first_cited number form T frame p (suc k) ss l)))
      by g None e more = more
      by g (Some n) e more = fine_at form frame p k (L.Cites n) (one_number g n e)

      go : (o : Option (List Signed)) → AreNumbers (cited_by (first_cited number form T frame p (suc k) ss l))
          → AreNumbers (cited_by (cited_or number form T frame p k (number_of number o)
          (first_cited number form T frame p (suc k) ss l)))
      go None more = more
      go (Some g) more = by g (number g) refl more

    over_fine : (p : Plan) (ls : List Line) → Fine ls → Fine (unless_over number form T frame p ls)
    over_fine p ls h = go (is_at_end (size frame p) frame.below) (first_clash T frame p) where
      go : (b : Bool) (o : Option ℕ) → Fine (cond b (L.Count ∷ []) (unless_clash number form T frame p o ls))
      go true o = fine_more L.Count [] nothing fine_none
      go false None = h
      go false (Some k) = fine_more (at_line form frame p k L.Clashes) []
          (fine_at form frame p k L.Clashes nothing) fine_none

    from_fine : (left : List Signed) (p : Plan) → Fine (lines_from number form T frame left p)
    from_fine [] p =
        over_fine p (complete_line number form T frame p ∷ [])
        (fine_more (complete_line number form T frame p) []
        (first_fine p 0 (placed frame p) (L.Short (map (entry_at number T frame p) frame.cells))
        (short_fine p frame.cells)) fine_none)
    from_fine (d ∷ left) p =
        over_fine p (L.Split ∷ flat_map (lines_from number form T frame left) (options frame d p))
        (fine_more L.Split (flat_map (lines_from number form T frame left) (options frame d p)) nothing
        (fine_each (lines_from number form T frame left) (options frame d p) (λ q i. from_fine left q)))

    plans_fine : Fine (plan_lines number form T frame)
    unfolding plan_lines
    plans_fine = from_fine frame.demands (empty_plan frame)

  -- lines of leaves

  rows_fine : (atoms : List Atom) (rows : List (List ℕ)) → Fine (row_lines atoms rows)
  rows_fine atoms rows = fine_map (λ w. L.Row (targets_of atoms rows w)) rows (λ w. nothing)

  lengths_fine : (atoms : List Atom) (rows : List (List ℕ)) → Fine (length_lines atoms rows)
  lengths_fine atoms rows =
      fine_more (L.Strings (length rows)) (row_lines atoms rows ++ L.Least (map length rows) ∷ []) nothing
      (fine_both (row_lines atoms rows) (L.Least (map length rows) ∷ []) (rows_fine atoms rows)
      (fine_more (L.Least (map length rows)) [] nothing fine_none))

  module _ (T : List Position) where
    members_fine : (S : List Signed) (atoms : List Atom) (rows : List (List ℕ)) (C : Cells) (frame : Frame)
        → Fine (member_lines number T S atoms rows C frame)
    members_fine S atoms rows C frame =
        fine_more (L.Objects (length rows) (length (capped frame)))
        (row_lines atoms rows ++ (map (cap_line T C rows) (capped frame) ++ plan_lines number OfObjects T frame))
        nothing
        (fine_both (row_lines atoms rows)
        (map (cap_line T C rows) (capped frame) ++ plan_lines number OfObjects T frame) (rows_fine atoms rows)
        (fine_both (map (cap_line T C rows) (capped frame)) (plan_lines number OfObjects T frame)
        (fine_map (cap_line T C rows) (capped frame) (λ c. nothing)) (plans_fine OfObjects T frame)))

    open_fine : (t : Kind) (S : List Signed) → Fine (open_lines number T t S)
    open_fine K.Null S = fine_none
    open_fine K.Boolean S = fine_more L.NoTruth [] nothing fine_none
    open_fine K.Number S = fine_more L.NoNumber [] nothing fine_none
    open_fine K.Text S = lengths_fine (string_atoms T S) (rows_of (string_atoms T S))
    open_fine K.Array S =
        fine_more L.Arrays (plan_lines number OfArrays T (array_frame T S)) nothing
        (plans_fine OfArrays T (array_frame T S))
    open_fine K.Object S =
        members_fine S (atoms_of_names T S) (rows_of (atoms_of_names T S)) (cells_at T S) (frame_at T S)

    crossed_fine : (o : Option Bool) (ls : List Line) → Fine ls → Fine (unless_crossed o ls)
    crossed_fine None ls h = h
    crossed_fine (Some true) ls h = fine_more L.Count [] nothing fine_none
    crossed_fine (Some false) ls h = h

    step_fine : (t : Kind) (s : Step) → Fine (step_lines (leaf_lines number T t) s)
    step_fine t (Clash p) = fine_more (L.Clash p) [] nothing fine_none
    step_fine t (Wrong x) = fine_more (L.OfKind x) [] nothing fine_none
    step_fine t (Rule x cs) = fine_more (L.Rule x) [] nothing fine_none
    step_fine t (Saturated S) = crossed_fine (crossed T S t) (open_lines number T t S) (open_fine t S)

    kind_fine : (g : List Signed) (t : Kind) → Fine (kind_lines number T g t)
    kind_fine g t =
        fine_more (L.At t) (tree_lines (leaf_lines number T t) (steps T t g)) nothing
        (fine_each (step_lines (leaf_lines number T t)) (steps T t g) (λ s i. step_fine t s))

    -- the lines of a goal cite numbers of goals alone
    pub cited_numbers : (g : List Signed) (j : ℕ) → IsIn j (cited (goal_lines number T g)) → IsNumber j
    unfolding goal_lines
    cited_numbers g j i =
        let (l, a, b) = from_flat_map cited_by j (flat_map (kind_lines number T g) all_kinds) i in
        fine_each (kind_lines number T g) all_kinds (λ t x. kind_fine g t) l a j b
