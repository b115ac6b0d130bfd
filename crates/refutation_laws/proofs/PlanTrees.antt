-- The lines of a tree of plans do its duty, where each complete plan's line does. The duty may be of a frame with other
-- bounds than those by which the lines go, which agree on the frame's cells.
use Rattle.std.proofs.Common.{◌≡◌, ℕ, suc, ◌+◌, inl, inr, Bool, true, false, ◌&&◌, not, cond, List, [], ◌∷◌, ◌++◌, map, flat_map, length, Option, Some, None, Ok, slice_get, refl, ap, ap₂, sym, ◌∙◌, subst, arith}
use Rattle.std.specs.Option.{is_none}
use Rattle.std.specs.List.{range_with_len}
use Rattle.positions.specs.Position.{Position}
use Rattle.goals.specs.Signed.{Signed}
use Rattle.frames.specs.Frame.{Place, In, Frame, list_at, is_at_end}
use Rattle.frames.specs.Plan.{Plan, Member, plan, member, empty_plan, serve_head, serve_member, servers, options, has_room, count_in, size, placed, goal_of, clash_from, first_clash, PlanStep, Over, Clashing, Split, Complete, by_clash, unless_dropped, steps, complete, plan_steps, need}
use Rattle.frames.specs.PlanLines as P
use Rattle.frames.specs.PlanLines.{PlanLine, Entry, is_refuted, is_refuted_at, rooms, plus, room_of, is_short, where_true}
use Rattle.list_laws.specs.In.{IsIn}
use Rattle.cell_laws.proofs.Listed.{filter_same}
use Rattle.certificate_lines.specs.Line as L
use Rattle.certificate_lines.specs.Line.{Line}
use Rattle.verdicts.specs.RowLines.{and_then}
use Rattle.verdicts.specs.Duties.{OfPlan, Form, OfArrays, OfObjects, plan_line, plan_duties, plan_duty, after_plan, after}
use Rattle.refutations.specs.PlanTreeLines.{at_line, complete_line, unless_clash, unless_over, lines_from, plan_lines}
use Rattle.refutation_laws.proofs.Does.{Does, line_does, none_left, all_do}
use Rattle.refutation_laws.proofs.CompleteLines.{Shows, at_shows}

-- the frame with other bounds and rooms
abbrev pub with_bounds : Frame → (ℕ → Option ℕ) → (ℕ → ℕ → ℕ) → Frame
with_bounds frame caps room = record {
  set = frame.set;
  lower = frame.lower;
  below = frame.below;
  floor = frame.floor;
  heads = frame.heads;
  demands = frame.demands;
  each = frame.each;
  serving = frame.serving;
  cells = frame.cells;
  inside = frame.inside;
  cap = caps;
  room = room;
}

line_same : (form : Form) (frame : Frame) (caps : ℕ → Option ℕ) (room : ℕ → ℕ → ℕ) (p : Plan) (l : Line)
    → plan_line form (with_bounds frame caps room) p l ≡ plan_line form frame p l
line_same OfObjects frame caps room p (L.OfMember m e) = refl
line_same OfArrays frame caps room p (L.OfIndex i e) = refl
line_same OfArrays frame caps room p (L.OfTail j e) = refl
line_same OfObjects frame caps room p (L.OfIndex i e) = refl
line_same OfObjects frame caps room p (L.OfTail j e) = refl
line_same OfArrays frame caps room p (L.OfMember m e) = refl
line_same f frame caps room p L.Version = refl
line_same f frame caps room p (L.Goals n) = refl
line_same f frame caps room p (L.Goal g) = refl
line_same f frame caps room p (L.Entry n) = refl
line_same f frame caps room p (L.At t) = refl
line_same f frame caps room p (L.Rule x) = refl
line_same f frame caps room p (L.Clash n) = refl
line_same f frame caps room p (L.OfKind x) = refl
line_same f frame caps room p L.Count = refl
line_same f frame caps room p L.NoTruth = refl
line_same f frame caps room p L.NoNumber = refl
line_same f frame caps room p (L.Strings n) = refl
line_same f frame caps room p (L.Row ts) = refl
line_same f frame caps room p (L.Least ts) = refl
line_same f frame caps room p L.Arrays = refl
line_same f frame caps room p (L.Objects n m) = refl
line_same f frame caps room p (L.Cap n ts) = refl
line_same f frame caps room p L.Split = refl
line_same f frame caps room p (L.Short es) = refl
line_same f frame caps room p L.End = refl

in_left_complete : (p : Plan) (xs ys : List PlanStep) → IsIn p (complete xs) → IsIn p (complete (xs ++ ys))
in_left_complete p [] ys i = absurd i
in_left_complete p (Complete q ∷ xs) ys (inl e) = inl e
in_left_complete p (Complete q ∷ xs) ys (inr i) = inr (in_left_complete p xs ys i)
in_left_complete p (Over ∷ xs) ys i = in_left_complete p xs ys i
in_left_complete p (Clashing n ∷ xs) ys i = in_left_complete p xs ys i
in_left_complete p (Split n ∷ xs) ys i = in_left_complete p xs ys i

in_right_complete : (p : Plan) (xs ys : List PlanStep) → IsIn p (complete ys) → IsIn p (complete (xs ++ ys))
in_right_complete p [] ys i = i
in_right_complete p (Complete q ∷ xs) ys i = inr (in_right_complete p xs ys i)
in_right_complete p (Over ∷ xs) ys i = in_right_complete p xs ys i
in_right_complete p (Clashing n ∷ xs) ys i = in_right_complete p xs ys i
in_right_complete p (Split n ∷ xs) ys i = in_right_complete p xs ys i

in_complete_of : (f : Plan → List PlanStep) (p q : Plan) (qs : List Plan) → IsIn q qs → IsIn p (complete (f q))
    → IsIn p (complete (flat_map f qs))
in_complete_of f p q [] i h = absurd i
in_complete_of f p q (x ∷ qs) (inl e) h =
    in_left_complete p (f x) (flat_map f qs) (subst (λ z. IsIn p (complete (f z))) e h)
in_complete_of f p q (x ∷ qs) (inr i) h = in_right_complete p (f x) (flat_map f qs) (in_complete_of f p q qs i h)

module _ (form : Form) (T : List Position) (frame : Frame) (cite : ℕ → List Signed → Bool)
    (number : List Signed → Option ℕ) (caps : ℕ → Option ℕ) (room : ℕ → ℕ → ℕ)
    (agree : (c : ℕ) → IsIn c frame.cells → caps c ≡ frame.cap c) where
  abbrev Stated : Frame
  Stated = with_bounds frame caps room

  -- what bounds decide

  options_same : (d : Signed) (p : Plan) → options Stated d p ≡ options frame d p
  options_same d p =
      ap (λ z. map (λ k. plan (serve_head d p.heads k) p.members) (range_with_len 0 (length p.heads))
      ++ map (λ k. plan p.heads (serve_member d p.members k)) (servers frame d 0 p.members)
      ++ map (λ c. plan p.heads (p.members ++ member c (d ∷ []) ∷ [])) z)
      (filter_same (λ c. frame.inside d c && has_room Stated p.members c)
      (λ c. frame.inside d c && has_room frame p.members c) frame.cells
      (λ c i. ap (λ o. frame.inside d c && not (is_at_end (count_in c p.members) o)) (agree c i)))

  rooms_same : (ms : List Member) (cs : List ℕ) (es : List Entry) → ((c : ℕ) → IsIn c cs → caps c ≡ frame.cap c)
      → rooms T cite Stated ms cs es ≡ rooms T cite frame ms cs es
  rooms_same ms [] [] h = refl
  rooms_same ms [] (e ∷ es) h = refl
  rooms_same ms (c ∷ cs) [] h = refl
  rooms_same ms (c ∷ cs) (P.Kept ∷ es) h =
      ap₂ (λ o r. plus (room_of (count_in c ms) o) r) (h c (inl refl)) (rooms_same ms cs es (λ x i. h x (inr i)))
  rooms_same ms (c ∷ cs) (P.Ends e ∷ es) h =
      ap (λ r. cond (is_refuted T cite (list_at frame (In c) []) e) r None)
      (rooms_same ms cs es (λ x i. h x (inr i)))

  after_same : (p : Plan) (left : List Signed) (l : PlanLine)
      → P.after T cite Stated p left l ≡ P.after T cite frame p left l
  after_same p [] P.Count = refl
  after_same p (d ∷ left) P.Count = refl
  after_same p [] P.Split = refl
  after_same p (d ∷ left) P.Split = ap Ok (options_same d p)
  after_same p [] (P.At k e) = refl
  after_same p (d ∷ left) (P.At k e) = refl
  after_same p [] (P.Short es) =
      ap (λ r. where_true (is_short (need frame p) r) 24)
      (rooms_same p.members frame.cells es agree)
  after_same p (d ∷ left) (P.Short es) = refl

  abbrev DoesPlan : List Signed → Plan → List Line → Type 0
  DoesPlan left p ls = Does T cite (OfPlan form Stated p left) ls

  after_line : (p : Plan) (left : List Signed) (l : Line) (line : PlanLine) (qs : List Plan)
      → plan_line form frame p l ≡ Ok line → P.after T cite frame p left line ≡ Ok qs
      → after T cite (OfPlan form Stated p left) l ≡ Ok (plan_duties form Stated left qs)
  after_line p left l line qs e f =
      ap (and_then (after_plan T cite form Stated p left)) (line_same form frame caps room p l ∙ e)
      ∙ ap (and_then (λ qs. Ok (plan_duties form Stated left qs))) (after_same p left line ∙ f)

  shown_does : (p : Plan) (left : List Signed) (l : Line) → Shows form T frame cite p left l
      → DoesPlan left p (l ∷ [])
  shown_does p left l s =
      line_does T cite (OfPlan form Stated p left) l [] [] (after_line p left l s.line [] s.is_line s.ends)
      (none_left T cite)

  clash_at : (k n : ℕ) (ss : List (Place × List Signed)) → clash_from T frame n ss ≡ Some k
      → (i : ℕ) × (k ≡ n + i) × (is_refuted_at T cite frame (slice_get ss i) P.Clashes ≡ true)
  clash_at k n [] e = cc
  clash_at k n (s ∷ ss) e = go (is_none (goal_of T frame s)) refl e (clash_at k (suc n) ss) where
    go : (b : Bool) → is_none (goal_of T frame s) ≡ b → cond b (Some n) (clash_from T frame (suc n) ss) ≡ Some k
        → (clash_from T frame (suc n) ss ≡ Some k
        → (i : ℕ) × (k ≡ suc n + i) × (is_refuted_at T cite frame (slice_get ss i) P.Clashes ≡ true))
        → (i : ℕ) × (k ≡ n + i) × (is_refuted_at T cite frame (slice_get (s ∷ ss) i) P.Clashes ≡ true)
    go true h e more = (0, (let q : n ≡ k = cc in omega (arith, q)), h)
    go false h e more = let (i, q, r) = more e in (suc i, omega (arith, q), r)

  -- a dropped plan by its line, and another one by what comes
  unless_does : (left : List Signed) (p : Plan) (ls : List Line) (ss : List PlanStep)
      → (unless_dropped T frame p ss ≡ ss → DoesPlan left p ls)
      → DoesPlan left p (unless_over number form T frame p ls)
  unless_does left p ls ss more =
      go (is_at_end (size frame p) frame.below) refl (first_clash T frame p) refl where
        counted : (left : List Signed) → is_at_end (size frame p) frame.below ≡ true
            → P.after T cite frame p left P.Count ≡ Ok []
        counted [] e = ap (λ b. where_true b 24) e
        counted (d ∷ left) e = ap (λ b. where_true b 24) e

        go : (b : Bool) → is_at_end (size frame p) frame.below ≡ b → (o : Option ℕ) → first_clash T frame p ≡ o
            → DoesPlan left p (cond b (L.Count ∷ []) (unless_clash number form T frame p o ls))
        go true e o f = shown_does p left L.Count (record {
          line = P.Count;
          is_line = refl;
          ends = counted left e;
        })
        go false e (Some k) f =
            let (i, q, r) = clash_at k 0 (placed frame p) f in
            let z : k ≡ i = omega (arith, q) in
            shown_does p left (at_line form frame p k L.Clashes)
            (at_shows form T frame cite p left k L.Clashes
            (subst (λ n. is_refuted_at T cite frame (slice_get (placed frame p) n) P.Clashes ≡ true) (sym z) r))
        go false e None f =
            more (ap (λ b. cond b (Over ∷ []) (by_clash (first_clash T frame p) ss)) e ∙ ap (λ o. by_clash o ss) f)

  plans_do : (left : List Signed) (p : Plan)
      → ((q : Plan) → IsIn q (complete (steps T frame left p))
      → Shows form T frame cite q [] (complete_line number form T frame q))
      → DoesPlan left p (lines_from number form T frame left p)
  plans_do [] p h =
      unless_does [] p (complete_line number form T frame p ∷ []) (Complete p ∷ []) (λ e.
      shown_does p [] (complete_line number form T frame p)
      (h p (subst (λ ss. IsIn p (complete ss)) (sym e) (inl refl))))
  plans_do (d ∷ left) p h =
      unless_does (d ∷ left) p (L.Split ∷ flat_map (lines_from number form T frame left) (options frame d p))
      (Split (length (options frame d p)) ∷ flat_map (steps T frame left) (options frame d p)) (λ e.
      line_does T cite (OfPlan form Stated p (d ∷ left)) L.Split
      (plan_duties form Stated (d ∷ left) (options frame d p))
      (flat_map (lines_from number form T frame left) (options frame d p))
      (after_line p (d ∷ left) L.Split P.Split (options frame d p) refl refl)
      (all_do T cite (λ q. OfPlan form Stated q left) (lines_from number form T frame left) (options frame d p)
      (λ q i. plans_do left q (λ r j. h r (subst (λ ss. IsIn r (complete ss)) (sym e)
      (in_complete_of (steps T frame left) r q (options frame d p) i j))))))

  -- where each complete plan's line shows that nothing fits it, the lines of all plans do the frame's duty
  pub plan_does : ((q : Plan) → IsIn q (complete (plan_steps T frame))
      → Shows form T frame cite q [] (complete_line number form T frame q))
      → Does T cite (plan_duty form Stated) (plan_lines number form T frame)
  unfolding plan_steps plan_lines
  plan_does h = plans_do frame.demands (empty_plan frame) h
