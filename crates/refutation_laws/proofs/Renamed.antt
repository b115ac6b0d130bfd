-- Lines with other numbers do the same duties, where each number may be cited for what its other number may.
use Rattle.std.proofs.Common.{◌≡◌, ℕ, ◌+◌, inl, Bool, true, false, cond, List, [], ◌∷◌, ◌++◌, map, flat_map, nat_lt, Option, Some, None, Result, Ok, Err, slice_get, refl, ap, ◌∙◌}
use Rattle.positions.specs.Position.{Position}
use Rattle.goals.specs.Signed.{Signed}
use Rattle.goals.specs.Goal.{form}
use Rattle.documents.specs.Kind.{Kind}
use Rattle.frames.specs.Frame.{Place, In, Frame, list_at}
use Rattle.frames.specs.Plan.{Member, Plan, count_in, placed, need}
use Rattle.frames.specs.PlanLines as P
use Rattle.frames.specs.PlanLines.{PlanLine, is_cited, is_refuted, rooms, plus, room_of, is_short, is_refuted_at, where_true}
use Rattle.list_laws.specs.In.{IsIn}
use Rattle.list_laws.proofs.Lists.{in_left, in_right}
use Rattle.certificate_lines.specs.Line as L
use Rattle.certificate_lines.specs.Line.{Line, ShortEntry}
use Rattle.verdicts.specs.Rules.{not_refuted}
use Rattle.verdicts.specs.RowLines.{and_then, if_so}
use Rattle.verdicts.specs.Duties.{Duty, OfGoal, AtKind, OfSet, OfRows, OfLeast, OfBounds, OfPlan, Form, OfArrays, OfObjects, ending, entry, heads_placed, plan_line, plan_duties, after_set, after_plan, after, run}
use Rattle.refutations.specs.Listing.{cited_by_ending, cited_by_entry, cited_by, cited, renamed_ending, renamed_entry, renamed}

module _ (T : List Position) (cite other : ℕ → List Signed → Bool) (rename : ℕ → ℕ) (ks : List ℕ)
    (carry : (k : ℕ) (g : List Signed) → IsIn k ks → cite k g ≡ true → other (rename k) g ≡ true) where
  abbrev AreKnown : List ℕ → Type 0
  AreKnown js = (k : ℕ) → IsIn k js → IsIn k ks

  refuted_again : (l : List Signed) (e : L.Ending) → AreKnown (cited_by_ending e)
      → is_refuted T cite l (ending e) ≡ true → is_refuted T other l (ending (renamed_ending rename e)) ≡ true
  refuted_again l L.Clashes h r = r
  refuted_again l (L.Cites k) h r = go (form T l) r where
    go : (o : Option (List Signed)) → is_cited T cite k o ≡ true → is_cited T other (rename k) o ≡ true
    go None r = cc r
    go (Some g) r = carry k g (h k (inl refl)) r

  module _ (frame : Frame) (ms : List Member) where
    abbrev Rooms : (ℕ → List Signed → Bool) → List ℕ → List P.Entry → Option ℕ
    Rooms c cs es = rooms T c frame ms cs es

    rooms_again : (cs : List ℕ) (es : List ShortEntry) (n : ℕ) → AreKnown (flat_map cited_by_entry es)
        → Rooms cite cs (map entry es) ≡ Some n
        → Rooms other cs (map entry (map (renamed_entry rename) es)) ≡ Some n
    rooms_again [] [] n h e = e
    rooms_again [] (x ∷ es) n h e = cc e
    rooms_again (c ∷ cs) [] n h e = cc e
    rooms_again (c ∷ cs) (L.Kept ∷ es) n h e =
        go (room_of (count_in c ms) (frame.cap c)) (Rooms cite cs (map entry es)) refl e
        (λ m f. rooms_again cs es m h f) where
          go : (o r : Option ℕ) → Rooms cite cs (map entry es) ≡ r → plus o r ≡ Some n
              → ((m : ℕ) → Rooms cite cs (map entry es) ≡ Some m
              → Rooms other cs (map entry (map (renamed_entry rename) es)) ≡ Some m)
              → plus o (Rooms other cs (map entry (map (renamed_entry rename) es))) ≡ Some n
          go o (Some m) f e more = ap (plus o) (more m f) ∙ e
          go (Some m) None f e more = cc e
          go None None f e more = cc e
    rooms_again (c ∷ cs) (L.Ends x ∷ es) n h e =
        go (is_refuted T cite (list_at frame (In c) []) (ending x)) refl e
        (λ f. rooms_again cs es n (λ k i. h k (in_right k (cited_by_ending x) (flat_map cited_by_entry es) i)) f) where
          go : (b : Bool) → is_refuted T cite (list_at frame (In c) []) (ending x) ≡ b
              → cond b (Rooms cite cs (map entry es)) None ≡ Some n
              → (Rooms cite cs (map entry es) ≡ Some n
              → Rooms other cs (map entry (map (renamed_entry rename) es)) ≡ Some n)
              → cond (is_refuted T other (list_at frame (In c) []) (ending (renamed_ending rename x)))
              (Rooms other cs (map entry (map (renamed_entry rename) es))) None ≡ Some n
          go true r e more =
              ap (λ b. cond b (Rooms other cs (map entry (map (renamed_entry rename) es))) None)
              (refuted_again (list_at frame (In c) []) x
              (λ k i. h k (in_left k (cited_by_ending x) (flat_map cited_by_entry es) i)) r)
              ∙ more e
          go false r e more = cc e

    short_again : (cs : List ℕ) (es : List ShortEntry) (n : ℕ) → AreKnown (flat_map cited_by_entry es)
        → is_short n (Rooms cite cs (map entry es)) ≡ true
        → is_short n (Rooms other cs (map entry (map (renamed_entry rename) es))) ≡ true
    short_again cs es n h e = go (Rooms cite cs (map entry es)) refl e where
      go : (r : Option ℕ) → Rooms cite cs (map entry es) ≡ r → is_short n r ≡ true
          → is_short n (Rooms other cs (map entry (map (renamed_entry rename) es))) ≡ true
      go None f e = cc e
      go (Some m) f e = ap (is_short n) (rooms_again cs es m h f) ∙ e

  -- what passes by a test that still holds passes again
  passes_again : (b c : Bool) (r : ℕ) (qs : List Plan) → (b ≡ true → c ≡ true) → where_true b r ≡ Ok qs
      → where_true c r ≡ Ok qs
  passes_again true c r qs h e = ap (λ z. where_true z r) (h refl) ∙ e
  passes_again false c r qs h e = cc e

  at_again : (frame : Frame) (p : Plan) (left : List Signed) (k : ℕ) (e : L.Ending) (qs : List Plan)
      → AreKnown (cited_by_ending e) → P.after T cite frame p left (P.At k (ending e)) ≡ Ok qs
      → P.after T other frame p left (P.At k (ending (renamed_ending rename e))) ≡ Ok qs
  at_again frame p left k e qs h = by left (λ a. go (slice_get (placed frame p) k) a) where
    go : (o : Option (Place × List Signed)) → is_refuted_at T cite frame o (ending e) ≡ true
        → is_refuted_at T other frame o (ending (renamed_ending rename e)) ≡ true
    go None a = cc a
    go (Some s) a = refuted_again (list_at frame s.0 s.1) e h a

    by : (left : List Signed)
        → (is_refuted_at T cite frame (slice_get (placed frame p) k) (ending e) ≡ true
        → is_refuted_at T other frame (slice_get (placed frame p) k) (ending (renamed_ending rename e))
        ≡ true)
        → P.after T cite frame p left (P.At k (ending e)) ≡ Ok qs
        → P.after T other frame p left (P.At k (ending (renamed_ending rename e))) ≡ Ok qs
    by [] a x = passes_again _ _ 23 qs a x
    by (d ∷ left) a x = passes_again _ _ 23 qs a x

  lines_again : (frame : Frame) (p : Plan) (left : List Signed) (es : List ShortEntry) (qs : List Plan)
      → AreKnown (flat_map cited_by_entry es) → P.after T cite frame p left (P.Short (map entry es)) ≡ Ok qs
      → P.after T other frame p left (P.Short (map entry (map (renamed_entry rename) es))) ≡ Ok qs
  lines_again frame p [] es qs h x =
      passes_again _ _ 24 qs (short_again frame p.members frame.cells es (need frame p) h) x
  lines_again frame p (d ∷ left) es qs h x = cc x

  -- the plans that a line leaves, as duties
  then_again : (form : Form) (frame : Frame) (p : Plan) (left : List Signed) (k l : PlanLine) (es : List Duty)
      → ((qs : List Plan) → P.after T cite frame p left k ≡ Ok qs → P.after T other frame p left l ≡ Ok qs)
      → after_plan T cite form frame p left k ≡ Ok es → after_plan T other form frame p left l ≡ Ok es
  then_again form frame p left k l es h e = go (P.after T cite frame p left k) refl e where
    go : (r : Result (List Plan) ℕ) → P.after T cite frame p left k ≡ r
        → and_then (λ qs. Ok (plan_duties form frame left qs)) r ≡ Ok es
        → and_then (λ qs. Ok (plan_duties form frame left qs)) (P.after T other frame p left l) ≡ Ok es
    go (Ok qs) f e = ap (and_then (λ qs. Ok (plan_duties form frame left qs))) (h qs f) ∙ e
    go (Err x) f e = cc e

  plan_again : (form : Form) (frame : Frame) (p : Plan) (left : List Signed) (l : Line) (es : List Duty)
      → AreKnown (cited_by l)
      → and_then (after_plan T cite form frame p left) (plan_line form frame p l) ≡ Ok es
      → and_then (after_plan T other form frame p left) (plan_line form frame p (renamed rename l)) ≡ Ok es
  plan_again form frame p [] L.Count es h e = e
  plan_again form frame p (d ∷ left) L.Count es h e = e
  plan_again form frame p [] L.Split es h e = e
  plan_again form frame p (d ∷ left) L.Split es h e = e
  plan_again form frame p left (L.Short xs) es h e =
      then_again form frame p left (P.Short (map entry xs)) (P.Short (map entry (map (renamed_entry rename) xs))) es
      (λ qs f. lines_again frame p left xs qs h f) e
  plan_again OfObjects frame p left (L.OfMember m x) es h e =
      then_again OfObjects frame p left (P.At m (ending x)) (P.At m (ending (renamed_ending rename x))) es
      (λ qs f. at_again frame p left m x qs h f) e
  plan_again OfArrays frame p left (L.OfIndex i x) es h e = go (nat_lt i (heads_placed frame p)) e where
    go : (b : Bool)
        → and_then (after_plan T cite OfArrays frame p left) (if_so not_refuted b (P.At i (ending x))) ≡ Ok es
        → and_then (after_plan T other OfArrays frame p left)
        (if_so not_refuted b (P.At i (ending (renamed_ending rename x)))) ≡ Ok es
    go true e = then_again OfArrays frame p left (P.At i (ending x)) (P.At i (ending (renamed_ending rename x))) es
        (λ qs f. at_again frame p left i x qs h f) e
    go false e = cc e
  plan_again OfArrays frame p left (L.OfTail j x) es h e =
      then_again OfArrays frame p left (P.At (heads_placed frame p + j) (ending x))
      (P.At (heads_placed frame p + j) (ending (renamed_ending rename x))) es
      (λ qs f. at_again frame p left (heads_placed frame p + j) x qs h f) e
  plan_again _ frame p left _ es h e = cc

  set_again : (t : Kind) (S : List Signed) (l : Line) (es : List Duty) → after_set T t S l ≡ Ok es
      → after_set T t S (renamed rename l) ≡ Ok es
  set_again t S (L.Rule x) es e = e
  set_again t S (L.Clash x) es e = e
  set_again t S (L.OfKind x) es e = e
  set_again t S L.Count es e = e
  set_again t S L.NoTruth es e = e
  set_again t S L.NoNumber es e = e
  set_again t S (L.Strings n) es e = e
  set_again t S L.Arrays es e = e
  set_again t S (L.Objects n m) es e = e
  set_again t S _ es e = cc

  line_again : (d : Duty) (l : Line) (es : List Duty) → AreKnown (cited_by l) → after T cite d l ≡ Ok es
      → after T other d (renamed rename l) ≡ Ok es
  line_again (OfGoal n g) (L.Entry m) es h e = e
  line_again (AtKind t g) (L.At u) es h e = e
  line_again (OfSet t S) l es h e = set_again t S l es e
  line_again (OfRows u S count t) (L.Row ts) es h e = e
  line_again (OfLeast S t) (L.Least ds) es h e = e
  line_again (OfBounds S t left bs) (L.Cap c ds) es h e = e
  line_again (OfPlan form frame p left) l es h e = plan_again form frame p left l es h e
  line_again _ _ es h e = cc

  -- renumbered lines leave of duties what the lines leave
  pub run_again : (ds : List Duty) (ls : List Line) (es : List Duty) → AreKnown (cited ls)
      → run T cite ds ls ≡ Ok es → run T other ds (map (renamed rename) ls) ≡ Ok es
  run_again ds [] es h e = e
  run_again [] (l ∷ ls) es h e = cc e
  run_again (d ∷ ds) (l ∷ ls) es h e =
      go (after T cite d l) refl e
      (λ xs f. run_again (xs ++ ds) ls es (λ k i. h k (in_right k (cited_by l) (cited ls) i)) f) where
        go : (r : Result (List Duty) ℕ) → after T cite d l ≡ r → and_then (λ xs. run T cite (xs ++ ds) ls) r ≡ Ok es
            → ((xs : List Duty) → run T cite (xs ++ ds) ls ≡ Ok es
            → run T other (xs ++ ds) (map (renamed rename) ls) ≡ Ok es)
            → and_then (λ xs. run T other (xs ++ ds) (map (renamed rename) ls)) (after T other d (renamed rename l))
            ≡ Ok es
        go (Err x) f e more = cc e
        go (Ok xs) f e more =
            ap (and_then (λ xs. run T other (xs ++ ds) (map (renamed rename) ls)))
            (line_again d l xs (λ k i. h k (in_left k (cited_by l) (cited ls) i)) f)
            ∙ more xs e
