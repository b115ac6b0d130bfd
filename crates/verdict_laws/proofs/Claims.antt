-- What each duty claims of documents up to a depth, and that a line leaves duties which carry the claim.
use Rattle.std.proofs.Common.{◌≡◌, ℕ, zero, suc, ◌-◌, ◌<◌, ◌≤◌, inl, inr, ⊎_elim, Bool, true, false, ◌&&◌, cond, List, [], ◌∷◌, ◌++◌, map, length, nat_eq, nat_lt, nat_le, Option, Some, None, Result, Ok, Err, refl, ap, sym, ◌∙◌, subst, ℤ}
use Rattle.std.proofs.lemmas.Bool.{and_parts, and_from, eqb-true, leb-true, ltb-true, not-true, both_ways}
use Rattle.documents.specs.Tests.{every, some}
use Rattle.documents.specs.Kind as K
use Rattle.documents.specs.Kind.{Kind, all_kinds, same_kind}
use Rattle.documents.specs.Document.{Document, null, boolean, number, string, array, object, kind_of, depth, is_document}
use Rattle.positions.specs.Position.{Position}
use Rattle.positions.specs.Holds.{holds, IsTable}
use Rattle.goals.specs.Signed.{Signed, Plus, Minus, has, add_all, met, meets}
use Rattle.goals.specs.Choices.{choices, is_wrong}
use Rattle.goal_laws.proofs.Rules.{meets-clash, meets-wrong}
use Rattle.goal_laws.proofs.Branches.{meets-choices}
use Rattle.list_laws.specs.In.{IsIn}
use Rattle.list_laws.proofs.Lists.{every_at, every_from, in_map, in_left, in_right}
use Rattle.list_laws.proofs.Tests.{some_find, none_at}
use Rattle.frames.specs.Frame.{Frame, is_at_end}
use Rattle.frames.specs.Plan.{Plan}
use Rattle.frames.specs.PlanLines as P
use Rattle.frames.specs.PlanLines.{PlanLine}
use Rattle.frames.specs.ArrayFrame as A
use Rattle.frames.specs.ArrayFrame.{array_frame}
use Rattle.frames.specs.ObjectFrame as O
use Rattle.frame_laws.proofs.Refuted.{after_free}
use Rattle.expansions.specs.Leaves.{agrees}
use Rattle.finders.specs.Strings as W
use Rattle.finders.specs.Strings.{string_atoms}
use Rattle.finders.specs.Names.{atoms_of_names}
use Rattle.finder_laws.proofs.Strings.{scalars_same}
use Rattle.finder_laws.proofs.Wanted.{wanted_from}
use Rattle.certificate_lines.specs.Line as L
use Rattle.certificate_lines.specs.Line.{Line}
use Rattle.verdicts.specs.Rules.{other_entry, other_kind, no_clash, not_wrong, other_leaf, bounds_meet, truth_left, number_left, no_rows, wrong_least, wanted_left, wrong_bound}
use Rattle.verdicts.specs.RowLines.{Table, and_then, if_so, begin_table, row_taken, stated}
use Rattle.verdicts.specs.Bounds.{Bound, is_right}
use Rattle.verdicts.specs.Leaves.{are_within_limits, crossed, has_no_truth, has_no_number, least_right, least_past, table_cells, comes_after, bound_right}
use Rattle.verdicts.specs.Duties.{Form, OfArrays, Purpose, ForLengths, ForCells, Duty, OfGoal, AtKind, OfSet, OfRows, OfLeast, OfBounds, OfPlan, leaf, by_choices, by_bounds, plan_line, rest, plan_duty, plan_duties, atoms_for, begin_rows, next_bounds, after_rows, next_rows, after_set, after_row, after_least, after_bound, after_plan, after, run}
use Rattle.verdict_laws.proofs.RowsTaken.{RowsTaken, rows_begin, rows_more, AreStated, rows_stated}
use Rattle.verdict_laws.proofs.Lengths.{wanted_past}
use Rattle.verdict_laws.proofs.Containers as C
use Rattle.verdict_laws.proofs.Containers.{Free, no_array, no_object, array_bounds}
use Rattle.frame_laws.proofs.Ends.{at_end_down}
use Rattle.position_laws.proofs.SameKind.{same_kind-true}
use Rattle.expansion_laws.proofs.Scalars.{agrees_met}
use Rattle.expansion_laws.proofs.Containers.{object_bounds}

in_kinds : (t : Kind) → IsIn t all_kinds
in_kinds K.Null = inl refl
in_kinds K.Boolean = inr (inl refl)
in_kinds K.Number = inr (inr (inl refl))
in_kinds K.Text = inr (inr (inr (inl refl)))
in_kinds K.Array = inr (inr (inr (inr (inl refl))))
in_kinds K.Object = inr (inr (inr (inr (inr (inl refl)))))

so : {X : Type 0} (r : ℕ) (b : Bool) (x y : X) → if_so r b x ≡ Ok y → (b ≡ true) × (x ≡ y)
so r true x y e = (refl, cc)
so r false x y e = cc

leaf_so : (u t : Kind) (r : Result (List Duty) ℕ) (es : List Duty) → leaf u t r ≡ Ok es → (u ≡ t) × (r ≡ Ok es)
leaf_so u t r es e = go (same_kind u t) refl e where
  go : (b : Bool) → same_kind u t ≡ b → cond b r (Err other_leaf) ≡ Ok es → (u ≡ t) × (r ≡ Ok es)
  go true h e = (same_kind-true u t h, e)
  go false h e = cc

-- truth values

any_truth : (b : Bool) → IsIn b (false ∷ true ∷ [])
any_truth false = inl refl
any_truth true = inr (inl refl)

module _ (T : List Position) (ok : IsTable T) where
  no_boolean : (S : List Signed) → has_no_truth T S ≡ true → (b : Bool) → meets T S (boolean b) ≡ true → ⊥
  no_boolean S e b m =
      let f = none_at (λ b. every (agrees T b) S) b (false ∷ true ∷ [])
      (not-true (some (λ b. every (agrees T b) S) (false ∷ true ∷ [])) e) (any_truth b) in
      let h = every_from (agrees T b) S
      (λ x i. agrees_met T ok b x (every_at (met (λ p. holds T p (boolean b))) x S m i)) in
      both_ways (every (agrees T b) S) f h

abbrev pub kind_for : Purpose → Kind
kind_for ForLengths = K.Text
kind_for (ForCells n) = K.Object

-- `numbers`: where a set has no number, none meets it; `cite` cites nothing for what a document of lesser depth than n
-- meets
module _ (T : List Position) (ok : IsTable T)
    (numbers : (S : List Signed) → has_no_number T S ≡ true → (x : ℤ) → meets T S (number x) ≡ true → ⊥)
    (cite : ℕ → List Signed → Bool) (n : ℕ)
    (safe : (k : ℕ) (g : List Signed) (J : Document) → is_document J ≡ true → depth J < n → meets T g J ≡ true
    → cite k g ≡ false) where
  -- no document of the kind, of that depth at most, meets the set
  abbrev pub No : Kind → List Signed → Type 0
  No = C.No T ok cite n safe

  abbrev pub IsFree : Frame → Plan → List Signed → Type 0
  IsFree = Free T ok cite n safe

  abbrev Right : List Signed → Table (List ℕ) → List Bound → Type 0
  Right S t bs = every (is_right T (atoms_of_names T S) t.words (stated t) (table_cells T S t)) bs ≡ true

  abbrev pub Claim : Duty → Type 0
  Claim (OfGoal k g) = (J : Document) → is_document J ≡ true → depth J ≤ n → meets T g J ≡ true → ⊥
  Claim (AtKind t g) = No t g
  Claim (OfSet t S) = No t S
  Claim (OfRows u S count t) = RowsTaken (atoms_for T u S) count t → No (kind_for u) S
  Claim (OfLeast S t) = AreStated (string_atoms T S) t → No K.Text S
  Claim (OfBounds S t left bs) = AreStated (atoms_of_names T S) t → Right S t bs → No K.Object S
  Claim (OfPlan form frame p left) = IsFree frame p left

  abbrev pub Claims : List Duty → Type 0
  Claims es = (d : Duty) → IsIn d es → Claim d

  claim_of : (d : Duty) (es : List Duty) → d ∷ [] ≡ es → Claims es → Claim d
  claim_of d es e h = subst Claims (sym e) h d (inl refl)

  -- sets

  choices_claim : (t : Kind) (S : List Signed) (x : Signed) (es : List Duty)
      → by_choices t S (has x S) (choices T t x) ≡ Ok es → Claims es → No t S
  choices_claim t S x es e h J good deep kind m = go (has x S) refl (choices T t x) refl e where
    go : (b : Bool) → has x S ≡ b → (o : Option (List (List Signed))) → choices T t x ≡ o
        → by_choices t S b o ≡ Ok es → ⊥
    go true i (Some cs) c e =
        let same : map (λ C. OfSet t (add_all C S)) cs ≡ es = cc in
        let c' : choices T (kind_of J) x ≡ Some cs = ap (λ u. choices T u x) kind ∙ c in
        let (C, j, q) = some_find (λ C. meets T (add_all C S) J) cs (sym (meets-choices T ok J S x cs i c') ∙ m) in
        subst Claims (sym same) h (OfSet t (add_all C S)) (in_map (λ C. OfSet t (add_all C S)) C cs j)
        J good deep kind q
    go true i None c e = cc
    go false i (Some cs) c e = cc
    go false i None c e = cc

  clash_claim : (t : Kind) (S : List Signed) (p : ℕ) → (has (Plus p) S && has (Minus p) S) ≡ true → No t S
  clash_claim t S p e J good deep kind m =
      let (a, b) = and_parts (has (Plus p) S) (has (Minus p) S) e in
      both_ways (meets T S J) (meets-clash T ok J S (Plus p) a b) m

  wrong_claim : (t : Kind) (S : List Signed) (x : Signed) → (has x S && is_wrong T t x) ≡ true → No t S
  wrong_claim t S x e J good deep kind m =
      let (a, b) = and_parts (has x S) (is_wrong T t x) e in
      both_ways (meets T S J) (meets-wrong T ok J S x a (ap (λ u. is_wrong T u x) kind ∙ b)) m

  by_boolean : (S : List Signed) → ((b : Bool) → meets T S (boolean b) ≡ true → ⊥) → No K.Boolean S
  by_boolean S h (boolean b) good deep kind m = h b m
  by_boolean S h null good deep kind m = cc
  by_boolean S h (number x) good deep kind m = cc
  by_boolean S h (string w) good deep kind m = cc
  by_boolean S h (array ds) good deep kind m = cc
  by_boolean S h (object ms) good deep kind m = cc

  by_number : (S : List Signed) → ((x : ℤ) → meets T S (number x) ≡ true → ⊥) → No K.Number S
  by_number S h (number x) good deep kind m = h x m
  by_number S h null good deep kind m = cc
  by_number S h (boolean b) good deep kind m = cc
  by_number S h (string w) good deep kind m = cc
  by_number S h (array ds) good deep kind m = cc
  by_number S h (object ms) good deep kind m = cc

  by_string : (S : List Signed)
      → ((w : List ℕ) → is_document (string w) ≡ true → meets T S (string w) ≡ true → ⊥) → No K.Text S
  by_string S h (string w) good deep kind m = h w good m
  by_string S h null good deep kind m = cc
  by_string S h (boolean b) good deep kind m = cc
  by_string S h (number x) good deep kind m = cc
  by_string S h (array ds) good deep kind m = cc
  by_string S h (object ms) good deep kind m = cc

  -- crossed bounds

  open_string : (S : List Signed) (w : List ℕ) → meets T S (string w) ≡ true
      → is_at_end (W.lower T S) (W.below T S) ≡ false
  open_string S w m =
      let (a, b) = wanted_from T ok S w m in
      let (c, d) = and_parts (every (W.wants T w) S) (nat_le (W.lower T S) (length w)) a in
      at_end_down (W.lower T S) (length w) (W.below T S) (leb-true (W.lower T S) (length w) d) b

  crossed_array : (S : List Signed) → is_at_end (A.lower T S) (A.below T S) ≡ true → No K.Array S
  crossed_array S h (array ds) good deep kind m =
      both_ways (is_at_end (A.lower T S) (A.below T S)) (array_bounds T ok S ds m) h
  crossed_array S h null good deep kind m = cc
  crossed_array S h (boolean b) good deep kind m = cc
  crossed_array S h (number x) good deep kind m = cc
  crossed_array S h (string w) good deep kind m = cc
  crossed_array S h (object ms) good deep kind m = cc

  crossed_object : (S : List Signed) → is_at_end (O.lower T S) (O.below T S) ≡ true → No K.Object S
  crossed_object S h (object ms) good deep kind m =
      both_ways (is_at_end (O.lower T S) (O.below T S)) (object_bounds T ok S ms m) h
  crossed_object S h null good deep kind m = cc
  crossed_object S h (boolean b) good deep kind m = cc
  crossed_object S h (number x) good deep kind m = cc
  crossed_object S h (string w) good deep kind m = cc
  crossed_object S h (array ds) good deep kind m = cc

  bounds_claim : (t : Kind) (S : List Signed) (es : List Duty) → by_bounds (crossed T S t) ≡ Ok es → No t S
  bounds_claim K.Text S es e =
      by_string S
      (λ w good m. both_ways (is_at_end (W.lower T S) (W.below T S)) (open_string S w m)
      (so bounds_meet (is_at_end (W.lower T S) (W.below T S)) [] es e).0)
  bounds_claim K.Array S es e = crossed_array S (so bounds_meet (is_at_end (A.lower T S) (A.below T S)) [] es e).0
  bounds_claim K.Object S es e = crossed_object S (so bounds_meet (is_at_end (O.lower T S) (O.below T S)) [] es e).0
  bounds_claim K.Null S es e = cc
  bounds_claim K.Boolean S es e = cc
  bounds_claim K.Number S es e = cc

  -- rows, least lengths and bounds of cells

  bounds_next : (left : ℕ) (S : List Signed) (t : Table (List ℕ)) (bs : List Bound)
      → AreStated (atoms_of_names T S) t → Right S t bs → Claim (next_bounds T S t left bs) → No K.Object S
  bounds_next zero S t bs k right h = no_object T ok cite n safe S t k bs right h
  bounds_next (suc m) S t bs k right h = h k right

  rows_end : (u : Purpose) (S : List Signed) (t : Table (List ℕ)) → AreStated (atoms_for T u S) t
      → Claim (after_rows T u S t) → No (kind_for u) S
  rows_end ForLengths S t k h = h k
  rows_end (ForCells m) S t k h = bounds_next m S t [] k refl h

  rows_next : (u : Purpose) (S : List Signed) (count : ℕ) (t : Table (List ℕ)) → RowsTaken (atoms_for T u S) count t
      → Claim (next_rows T u S count t) → No (kind_for u) S
  rows_next u S count t k h = go (nat_eq (length t.targets) count) refl h where
    go : (b : Bool) → nat_eq (length t.targets) count ≡ b → Claim (cond b (after_rows T u S t) (OfRows u S count t))
        → No (kind_for u) S
    go true e h = rows_end u S t (rows_stated (atoms_for T u S) count t k (eqb-true (length t.targets) count e)) h
    go false e h = h k

  rows_claim : (u : Purpose) (S : List Signed) (count : ℕ) (es : List Duty) → begin_rows T u S count ≡ Ok es
      → Claims es → No (kind_for u) S
  rows_claim u S count es e h =
      let (a, q) = so no_rows (nat_lt 0 count && are_within_limits (atoms_for T u S))
      (OfRows u S count begin_table ∷ []) es e in
      let (l, f) = and_parts (nat_lt 0 count) (are_within_limits (atoms_for T u S)) a in
      claim_of (OfRows u S count begin_table) es q h (rows_begin (atoms_for T u S) count (ltb-true 0 count l))

  row_claim : (u : Purpose) (S : List Signed) (count : ℕ) (t : Table (List ℕ)) (ts : List ℕ) (es : List Duty)
      → after_row T u S count t ts ≡ Ok es → Claims es → RowsTaken (atoms_for T u S) count t → No (kind_for u) S
  row_claim u S count t ts es e h k = go (row_taken (atoms_for T u S) count t ts) refl e where
    go : (r : Result (Table (List ℕ)) ℕ) → row_taken (atoms_for T u S) count t ts ≡ r
        → and_then (λ v. Ok (next_rows T u S count v ∷ [])) r ≡ Ok es → No (kind_for u) S
    go (Err r) f e = cc
    go (Ok v) f e =
        let q : next_rows T u S count v ∷ [] ≡ es = cc in
        rows_next u S count v (rows_more (atoms_for T u S) count t v ts k f)
        (claim_of (next_rows T u S count v) es q h)

  least_claim : (S : List Signed) (t : Table (List ℕ)) (ds : List ℕ) (es : List Duty) → after_least T S t ds ≡ Ok es
      → AreStated (string_atoms T S) t → No K.Text S
  least_claim S t ds es e k = go (least_right T S (string_atoms T S) t ds) refl e where
    go : (b : Bool) → least_right T S (string_atoms T S) t ds ≡ b
        → cond b (if_so wanted_left (least_past T S t ds) []) (Err wrong_least) ≡ Ok es → No K.Text S
    go false r e = cc
    go true r e =
        let past = (so wanted_left (least_past T S t ds) [] es e).0 in
        by_string S (λ w good m.
        let (a, b) = wanted_from T ok S w m in
        both_ways (is_at_end (length w) (W.below T S)) b
        (wanted_past T S t k ds r past w (sym (scalars_same w) ∙ good) a))

  bound_claim : (S : List Signed) (t : Table (List ℕ)) (left : ℕ) (bs : List Bound) (b : Bound) (es : List Duty)
      → after_bound T S t left bs b ≡ Ok es → Claims es → AreStated (atoms_of_names T S) t → Right S t bs
      → No K.Object S
  bound_claim S t left bs b es e h k right =
      let own = is_right T (atoms_of_names T S) t.words (stated t) (table_cells T S t) b in
      let (a, q) = so wrong_bound (bound_right T S t bs b) (next_bounds T S t (left - 1) (b ∷ bs) ∷ []) es e in
      let (x, y) = and_parts (nat_lt b.0 (length (table_cells T S t).vectors))
      (comes_after bs b.0 && own) a in
      let (z, r) = and_parts (comes_after bs b.0) own y in
      bounds_next (left - 1) S t (b ∷ bs) k
      (and_from own (every (is_right T (atoms_of_names T S) t.words (stated t) (table_cells T S t)) bs) r right)
      (claim_of (next_bounds T S t (left - 1) (b ∷ bs)) es q h)

  -- plans

  free_after : (frame : Frame) (p : Plan) (left : List Signed) (k : PlanLine) (qs : List Plan)
      → P.after T cite frame p left k ≡ Ok qs → ((q : Plan) → IsIn q qs → IsFree frame q (rest left))
      → IsFree frame p left
  free_after frame p [] k qs e h A a once told =
      after_free T frame A a cite once told p [] k qs e (λ q i. h q i A a once told)
  free_after frame p (d ∷ left) k qs e h A a once told =
      after_free T frame A a cite once told p (d ∷ left) k qs e (λ q i. h q i A a once told)

  plan_claim : (form : Form) (frame : Frame) (p : Plan) (left : List Signed) (l : Line) (es : List Duty)
      → and_then (after_plan T cite form frame p left) (plan_line form frame p l) ≡ Ok es → Claims es
      → IsFree frame p left
  plan_claim form frame p left l es e h = go (plan_line form frame p l) e where
    by : (k : PlanLine) (r : Result (List Plan) ℕ) → P.after T cite frame p left k ≡ r
        → and_then (λ qs. Ok (plan_duties form frame left qs)) r ≡ Ok es → IsFree frame p left
    by k (Err x) f e = cc
    by k (Ok qs) f e =
        let same : plan_duties form frame left qs ≡ es = cc in
        free_after frame p left k qs f (λ q i.
        subst Claims (sym same) h (OfPlan form frame q (rest left))
        (in_map (λ q. OfPlan form frame q (rest left)) q qs i))

    go : (r : Result PlanLine ℕ) → and_then (after_plan T cite form frame p left) r ≡ Ok es → IsFree frame p left
    go (Err x) e = cc
    go (Ok k) e = by k (P.after T cite frame p left k) refl e

  -- lines

  set_claim : (t : Kind) (S : List Signed) (l : Line) (es : List Duty) → after_set T t S l ≡ Ok es → Claims es
      → No t S
  set_claim t S (L.Rule x) es e h = choices_claim t S x es e h
  set_claim t S (L.Clash p) es e h =
      clash_claim t S p (so no_clash (has (Plus p) S && has (Minus p) S) [] es e).0
  set_claim t S (L.OfKind x) es e h = wrong_claim t S x (so not_wrong (has x S && is_wrong T t x) [] es e).0
  set_claim t S L.Count es e h = bounds_claim t S es e
  set_claim t S L.NoTruth es e h =
      let (k, r) = leaf_so K.Boolean t (if_so truth_left (has_no_truth T S) []) es e in
      subst (λ u. No u S) k (by_boolean S (no_boolean T ok S (so truth_left (has_no_truth T S) [] es r).0))
  set_claim t S L.NoNumber es e h =
      let (k, r) = leaf_so K.Number t (if_so number_left (has_no_number T S) []) es e in
      subst (λ u. No u S) k (by_number S (numbers S (so number_left (has_no_number T S) [] es r).0))
  set_claim t S (L.Strings count) es e h =
      let (k, r) = leaf_so K.Text t (begin_rows T ForLengths S count) es e in
      subst (λ u. No u S) k (rows_claim ForLengths S count es r h)
  set_claim t S L.Arrays es e h =
      let (k, r) = leaf_so K.Array t (Ok (plan_duty OfArrays (array_frame T S) ∷ [])) es e in
      let q : plan_duty OfArrays (array_frame T S) ∷ [] ≡ es = cc in
      subst (λ u. No u S) k (no_array T ok cite n safe S (claim_of (plan_duty OfArrays (array_frame T S)) es q h))
  set_claim t S (L.Objects count m) es e h =
      let (k, r) = leaf_so K.Object t (begin_rows T (ForCells m) S count) es e in
      subst (λ u. No u S) k (rows_claim (ForCells m) S count es r h)
  set_claim t S _ es e h = cc

  pub after_claim : (d : Duty) (l : Line) (es : List Duty) → after T cite d l ≡ Ok es → Claims es → Claim d
  after_claim (OfGoal k g) (L.Entry m) es e h =
      let (a, q) = so other_entry (nat_eq k m) (map (λ t. AtKind t g) all_kinds) es e in
      λ J good deep met. subst Claims (sym q) h (AtKind (kind_of J) g)
      (in_map (λ t. AtKind t g) (kind_of J) all_kinds (in_kinds (kind_of J))) J good deep refl met
  after_claim (AtKind t g) (L.At u) es e h =
      claim_of (OfSet t g) es (so other_kind (same_kind t u) (OfSet t g ∷ []) es e).1 h
  after_claim (OfSet t S) l es e h = set_claim t S l es e h
  after_claim (OfRows u S count t) (L.Row ts) es e h = row_claim u S count t ts es e h
  after_claim (OfLeast S t) (L.Least ds) es e h = least_claim S t ds es e
  after_claim (OfBounds S t left bs) (L.Cap c ds) es e h = bound_claim S t left bs (c, ds) es e h
  after_claim (OfPlan form frame p left) l es e h = plan_claim form frame p left l es e h
  after_claim _ _ es e h = cc

  -- what the duties that are left claim makes true what the duties claimed
  pub run_claims : (ds : List Duty) (ls : List Line) (es : List Duty) → run T cite ds ls ≡ Ok es → Claims es
      → Claims ds
  run_claims ds [] es e h = let q : ds ≡ es = cc in subst Claims (sym q) h
  run_claims [] (l ∷ ls) es e h = cc
  run_claims (d ∷ ds) (l ∷ ls) es e h =
      go (after T cite d l) refl e (λ xs f. run_claims (xs ++ ds) ls es f h) where
        go : (r : Result (List Duty) ℕ) → after T cite d l ≡ r
            → and_then (λ xs. run T cite (xs ++ ds) ls) r ≡ Ok es
            → ((xs : List Duty) → run T cite (xs ++ ds) ls ≡ Ok es → Claims (xs ++ ds)) → Claims (d ∷ ds)
        go (Err x) f e more = cc
        go (Ok xs) f e more = λ y i. ⊎_elim
            (λ q. subst Claim (sym q) (after_claim d l xs f (λ z j. more xs e z (in_left z xs ds j))))
            (λ j. more xs e y (in_right y xs ds j)) i
