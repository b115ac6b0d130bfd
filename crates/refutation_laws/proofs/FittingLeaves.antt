-- The lines of a set at a kind are in the grammar, where its leaf passes no limit.
use Rattle.std.proofs.Common.{◌≡◌, ℕ, zero, suc, ◌+◌, ◌<◌, ◌≤◌, min, inl, inr, ⊎_elim, Bool, true, false, not, cond, if◌then◌else◌, nat_le, nat_lt, List, [], ◌∷◌, ◌++◌, map, filter, length, get_or, Option, Some, None, is_some, Result, Ok, Err, refl, ap, sym, ◌∙◌, subst, arith, length-append}
use Rattle.std.proofs.lemmas.Bool.{and_parts, leb-true, ltb-true, both_ways}
use Rattle.std.proofs.lemmas.List.{length-map}
use Rattle.std.specs.List.{list_any, position_or_len, range_with_len}
use Rattle.documents.specs.Kind as K
use Rattle.documents.specs.Kind.{Kind}
use Rattle.word_states.specs.Atom.{Atom}
use Rattle.word_states.specs.AtomPositions.{positions_of}
use Rattle.word_states.specs.Classes.{characters, class_firsts, class_count}
use Rattle.word_states.specs.Mention.{mention, mention_all}
use Rattle.word_states.specs.WordState.{have_same_state}
use Rattle.word_states.specs.Rows.{row_of, targets_of}
use Rattle.word_laws.proofs.Mentions as M
use Rattle.word_laws.proofs.States.{same_laws}
use Rattle.positions.specs.Position.{Position}
use Rattle.goals.specs.Signed.{Signed}
use Rattle.cells.specs.Cells.{Cells, naming, vector, same_vector, vectors_of}
use Rattle.list_laws.specs.In.{IsIn}
use Rattle.list_laws.proofs.Lists.{get_or-in, from_map}
use Rattle.list_laws.proofs.Tests.{from_filter, from_range}
use Rattle.frames.specs.Frame.{Frame, is_at_end}
use Rattle.frames.specs.Plan.{Plan, empty_plan, size, ends, plan_steps}
use Rattle.frames.specs.ArrayFrame as A
use Rattle.frames.specs.ArrayFrame.{array_frame}
use Rattle.frames.specs.ObjectFrame as O
use Rattle.frames.specs.ObjectFrame.{object_frame}
use Rattle.alternatives.specs.Alternative as Alt
use Rattle.alternatives.specs.Alternative.{Shape, Alternative}
use Rattle.alternatives.specs.Limit.{LimitKind, most_positions, most_classes, most_states}
use Rattle.expansions.specs.Leaves.{by_index, by_name, plan_alternative, scalar_leaf, result_map, leaf}
use Rattle.expansion_laws.proofs.Leaf.{ok_same}
use Rattle.expansion_laws.proofs.PlanLeaf.{leaf_is}
use Rattle.finders.specs.RowsFound.{longer, rows_by}
use Rattle.finders.specs.Limits.{limit_passed, unless_passed}
use Rattle.finders.specs.Strings as W
use Rattle.finders.specs.Strings.{string_atoms, if_below, strings_of}
use Rattle.finders.specs.Names.{atoms_of_names, cells_of}
use Rattle.finders.specs.WordsFound.{first_of}
use Rattle.finder_laws.proofs.RowsFound.{none_passed}
use Rattle.finder_laws.proofs.Strings.{wanted_words}
use Rattle.certificate_lines.specs.Line as C
use Rattle.certificate_lines.specs.Line.{Line}
use Rattle.verdicts.specs.Duties.{OfArrays, OfObjects}
use Rattle.refutations.specs.StatedRows.{rows_of, row_lines}
use Rattle.refutations.specs.StringLines.{length_lines, string_lines}
use Rattle.refutations.specs.PlanTreeLines.{plan_lines}
use Rattle.refutations.specs.ObjectLines.{capped, label_of, words_from, cap_line, cells_at, frame_at, member_lines, object_lines}
use Rattle.refutations.specs.GoalLines.{unless_crossed, leaf_lines}
use Rattle.refutations.specs.Expansions.{finders_of}
use Rattle.refutation_laws.proofs.Strings.{within}
use Rattle.refutation_laws.proofs.Texts.{strings_fits, row_fits, least_fits, objects_fits, cap_fits}
use Rattle.refutation_laws.proofs.FittingPlans.{AllFit, fit_none, fit_more, fit_both, fit_map, IsLow, plans_fit, empty_size}
use Rattle.std.proofs.lemmas.List.FromFn.{length-range_with_len}

-- lengths

position_low : {A : Type 0} (p : A → Bool) (xs : List A) → position_or_len p xs ≤ length xs
position_low p [] = omega arith
position_low p (x ∷ xs) = go (p x) (position_low p xs) where
  go : (b : Bool) → position_or_len p xs ≤ length xs → cond (not b) (1 + position_or_len p xs) 0 ≤ suc (length xs)
  go true l = omega arith
  go false l = omega (arith, l)

pub filter_low : {A : Type 0} (p : A → Bool) (xs : List A) → length (filter p xs) ≤ length xs
filter_low p [] = omega arith
filter_low p (x ∷ xs) = go (p x) (filter_low p xs) where
  go : (b : Bool) → length (filter p xs) ≤ length xs → length (cond b (x ∷ filter p xs) (filter p xs)) ≤ suc (length xs)
  go true l = omega (arith, l)
  go false l = omega (arith, l)

mention_low : {A : Type 0} (same : A → A → Bool) (xs : List A) (x : A) → length (mention same xs x) ≤ suc (length xs)
mention_low same xs x = go (list_any (same x) xs) where
  go : (b : Bool) → length (if b then xs else xs ++ x ∷ []) ≤ suc (length xs)
  go true = omega arith
  go false = let a = length-append xs (x ∷ []) in omega (arith, a)

mentions_low : {A : Type 0} (same : A → A → Bool) (xs ys : List A)
    → length (mention_all same xs ys) ≤ length xs + length ys
mentions_low same xs [] = omega arith
mentions_low same xs (y ∷ ys) =
    let a = mention_low same xs y in
    let b = mentions_low same (mention same xs y) ys in
    omega (arith, a, b)

cut_low : (t n : ℕ) → t ≡ min 65537 n → t < 100000
cut_low t n e = grind (arith, e)

least_low : (l n m : ℕ) → l ≤ 65536 → n ≤ l → min n m ≤ 4294967296
least_low l n m a b = grind (arith, a, b)

other_low : (n m : ℕ) → m ≤ 65536 → min n m ≤ 4294967296
other_low n m a = grind (arith, a)

none_low : (n x y : ℕ) → x ≡ 0 → y ≤ 4294967296 → min n x + y ≤ 4294967296
none_low n x y a b = grind (arith, a, b)

-- cells are no more than rows
vectors_low : (T : List Position) (xs : List Signed) (L : List (List ℕ)) → length L ≤ 65536
    → length (vectors_of T xs L) ≤ 65536
vectors_low T xs L l =
    let a = mentions_low same_vector [] (map (vector T xs) L) in
    let b = length-map L (vector T xs) in
    omega (arith, a, b, l)

allowed_low : (p : ℕ → Bool) (n : ℕ) → n ≤ 65536 → length (filter p (range_with_len 0 n)) ≤ 65536
allowed_low p n l =
    let a = filter_low p (range_with_len 0 n) in
    let b = length-range_with_len 0 n in
    omega (arith, a, b, l)

allowed_below : (p : ℕ → Bool) (n c : ℕ) → n ≤ 65536 → IsIn c (filter p (range_with_len 0 n)) → c < 65536
allowed_below p n c l i =
    let a = from_range n c (from_filter p c (range_with_len 0 n) i).0 in omega (arith, a, l)

-- rows

-- what was mentioned after some steps is no longer than these
grown_short : (atoms : List Atom) (n : ℕ) (w : List ℕ) → IsIn w (rows_by (class_firsts atoms) atoms n) → length w ≤ n
grown_short atoms zero w (inl e) = let q : length w ≡ 0 = ap length e in omega (arith, q)
grown_short atoms zero w (inr i) = absurd i
grown_short atoms (suc n) w i =
    go (rows_by (class_firsts atoms) atoms n) (grown_short atoms n)
    (nat_lt n (length (rows_by (class_firsts atoms) atoms n)))
    refl i where
      go : (G : List (List ℕ)) → ((v : List ℕ) → IsIn v G → length v ≤ n) → (b : Bool) → nat_lt n (length G) ≡ b
          → IsIn w (cond b (mention_all (have_same_state atoms) G (longer (class_firsts atoms) (get_or G n []))) G)
          → length w ≤ suc n
      go G h false e i = let l = h w i in omega (arith, l)
      go G h true e i = ⊎_elim
          (λ j. let l = h w j in omega (arith, l))
          (λ j.
          let (c, k, q) = from_map (λ c. get_or G n [] ++ c ∷ []) w (class_firsts atoms) j in
          let l = h (get_or G n []) (get_or-in G n [] (ltb-true n (length G) e)) in
          let a : length w ≡ length (get_or G n []) + 1 = ap length q ∙ length-append (get_or G n []) (c ∷ []) in
          omega (arith, l, a))
          (M.mentions_only (have_same_state atoms) (same_laws atoms) G (longer (class_firsts atoms) (get_or G n [])) w
          i)

record AreFew (atoms : List Atom) (L : List (List ℕ)) : Type 0 where
  rows : length L ≤ 65536
  classes : class_count atoms ≤ 1024
  words : (w : List ℕ) → IsIn w L → length w ≤ 65536

few_rows : (atoms : List Atom) → limit_passed characters most_states atoms ≡ None → AreFew atoms (rows_of atoms)
few_rows atoms e = record {
  rows = (none_passed atoms most_states e).1;
  classes = leb-true (class_count atoms) most_classes
      (and_parts (nat_le (positions_of atoms) most_positions) (nat_le (class_count atoms) most_classes)
      (within atoms e)).1;
  words = grown_short atoms most_states;
}

module _ (rename : ℕ → ℕ) (low : (k : ℕ) → rename k < 100000) where
  abbrev All : List Line → Type 0
  All ls = AllFit rename low ls

  module _ (atoms : List Atom) (L : List (List ℕ)) (h : AreFew atoms L) where
    rows_fit : All (row_lines atoms L)
    rows_fit = fit_map rename low (λ w. C.Row (targets_of atoms L w)) L (λ w i.
        row_fits rename low (targets_of atoms L w)
        (λ t j. let (c, k, e) = from_map (λ c. row_of atoms L (w ++ c ∷ [])) t (class_firsts atoms) j in
        let a = position_low (have_same_state atoms (w ++ c ∷ [])) L in
        let b = h.rows in
        omega (arith, a, b, e))
        (let a = length-map (class_firsts atoms) (λ c. row_of atoms L (w ++ c ∷ [])) in
        let b = h.classes in
        omega (arith, a, b)))

    lengths_fit : All (length_lines atoms L)
    lengths_fit =
        fit_more rename low (C.Strings (length L)) (row_lines atoms L ++ C.Least (map length L) ∷ [])
        (strings_fits rename low (length L) (let a = h.rows in omega (arith, a)))
        (fit_both rename low (row_lines atoms L) (C.Least (map length L) ∷ []) rows_fit
        (fit_more rename low (C.Least (map length L)) []
        (least_fits rename low (map length L)
        (λ t i. let (w, j, e) = from_map length t L i in let a = h.words w j in omega (arith, a, e))
        (let a = length-map L (length {A = ℕ}) in let b = h.rows in omega (arith, a, b)))
        (fit_none rename low)))

  -- a set of so many literals
  module _ (number : List Signed → Option ℕ) (T : List Position) (S : List Signed) (few : length S ≤ 4294967296) where
    strings_fit : is_at_end (W.lower T S) (W.below T S) ≡ false → (o : Option (List ℕ)) → strings_of T S ≡ Ok o
        → All (string_lines T S)
    strings_fit free o e =
        lengths_fit (string_atoms T S) (rows_of (string_atoms T S))
        (few_rows (string_atoms T S)
        (go (is_at_end (W.lower T S) (W.below T S)) (limit_passed characters most_states (string_atoms T S)) free refl
        e)) where
          go : (c : Bool) (m : Option LimitKind) → c ≡ false
              → limit_passed characters most_states (string_atoms T S) ≡ m
              → cond c (Ok None) (unless_passed m (if_below (W.below T S) (first_of (wanted_words T S)))) ≡ Ok o
              → limit_passed characters most_states (string_atoms T S) ≡ None
          go true m p q x = cc p
          go false (Some k) p q x = cc x
          go false None p q x = q

    low_array : A.lower T S ≤ 65536 → IsLow OfArrays (array_frame T S) (empty_plan (array_frame T S))
    low_array l = (
      least_low (A.lower T S) (size (array_frame T S) (empty_plan (array_frame T S)))
          (length (empty_plan (array_frame T S)).heads) l (empty_size (array_frame T S)),
      omega arith,
    )

    demands_low : (p : Signed → Bool) (n : ℕ) → n ≤ length (filter p S) → n ≤ 4294967296
    demands_low p n m = let a = filter_low p S in omega (arith, a, m, few)

    lowered_array : (array_frame T S).heads ≤ 65536 → (q : Plan) → length q.heads ≡ (array_frame T S).heads
        → length q.members ≤ length (array_frame T S).demands → IsLow OfArrays (array_frame T S) q
    lowered_array h q e m = (
      other_low (size (array_frame T S) q) (length q.heads) (subst (λ z. z ≤ 65536) (sym e) h),
      demands_low (A.is_demand T) (length q.members) m,
    )

    arrays_fit : A.lower T S ≤ 65536 → ends (plan_steps T (array_frame T S)) ≤ 65536
        → All (C.Arrays ∷ plan_lines number OfArrays T (array_frame T S))
    arrays_fit l e =
        fit_more rename low C.Arrays (plan_lines number OfArrays T (array_frame T S)) (refl, refl)
        (plans_fit rename low number OfArrays T (array_frame T S) (omega arith) lowered_array (low_array l) e)

    lowered_object : (D : Cells) → (object_frame T D S).heads ≤ 65536 → (q : Plan)
        → length q.heads ≡ (object_frame T D S).heads
        → length q.members ≤ length (object_frame T D S).demands → IsLow OfObjects (object_frame T D S) q
    lowered_object D k q e m =
        none_low (size (object_frame T D S) q) (length q.heads) (length q.members) e
        (demands_low (O.is_demand T) (length q.members) m)

    own_plans_fit : (D : Cells) → length (object_frame T D S).cells ≤ 65536
        → ends (plan_steps T (object_frame T D S)) ≤ 65536
        → All (plan_lines number OfObjects T (object_frame T D S))
    own_plans_fit D l e =
        plans_fit rename low number OfObjects T (object_frame T D S) l (lowered_object D)
        (lowered_object D (omega arith) (empty_plan (object_frame T D S)) refl (omega arith)) e

    module _ (atoms : List Atom) (L : List (List ℕ)) (h : AreFew atoms L) (D : Cells) (frame : Frame)
        (cells : length frame.cells ≤ 65536) (below : (c : ℕ) → IsIn c frame.cells → c < 65536) where
      caps_fit : All (map (cap_line T D L) (capped frame))
      caps_fit = fit_map rename low (cap_line T D L) (capped frame) (λ c i.
          cap_fits rename low c (map (label_of T D c) L)
          (λ t j. ⊎_elim
          (λ q. let l = below c (from_filter (λ c. is_some (frame.cap c)) c frame.cells i).0 in
          let e : t ≡ c = q in omega (arith, l, e))
          (λ k. let (w, x, e) = from_map (label_of T D c) t L k in cut_low t (length (words_from T D c w)) e) j)
          (let a = length-map L (label_of T D c) in
          let b = h.rows in
          omega (arith, a, b)))

      members_fit : All (plan_lines number OfObjects T frame) → All (member_lines number T S atoms L D frame)
      members_fit plans =
          fit_more rename low (C.Objects (length L) (length (capped frame)))
          (row_lines atoms L ++ (map (cap_line T D L) (capped frame) ++ plan_lines number OfObjects T frame))
          (objects_fits rename low (length L) (length (capped frame)) (let a = h.rows in omega (arith, a))
          (let a = filter_low (λ c. is_some (frame.cap c)) frame.cells in omega (arith, a, cells)))
          (fit_both rename low (row_lines atoms L)
          (map (cap_line T D L) (capped frame) ++ plan_lines number OfObjects T frame) (rows_fit atoms L h)
          (fit_both rename low (map (cap_line T D L) (capped frame)) (plan_lines number OfObjects T frame) caps_fit
          plans))

    objects_fit : AreFew (atoms_of_names T S) (rows_of (atoms_of_names T S))
        → ends (plan_steps T (frame_at T S)) ≤ 65536 → All (object_lines number T S)
    objects_fit h e =
        let v = vectors_low T (naming T S) (rows_of (atoms_of_names T S)) h.rows in
        let l = allowed_low (O.is_allowed T (cells_at T S) S) (length (cells_at T S).vectors) v in
        members_fit (atoms_of_names T S) (rows_of (atoms_of_names T S)) h (cells_at T S) (frame_at T S) l
        (λ c i. allowed_below (O.is_allowed T (cells_at T S) S) (length (cells_at T S).vectors) c v i)
        (own_plans_fit (cells_at T S) l e)

    bounded_fit : (b : Bool) (ls : List Line) → (b ≡ false → All ls) → All (unless_crossed (Some b) ls)
    bounded_fit true ls h = fit_more rename low C.Count [] (refl, refl) (fit_none rename low)
    bounded_fit false ls h = h refl

    found : {A : Type 0} (t : Kind) (shape : A → Shape) (k : ℕ) (r : Result (Option A) LimitKind)
        (more : List Alternative) → scalar_leaf t shape k r ≡ Ok more → (o : Option A) × (r ≡ Ok o)
    found t shape k (Ok o) more e = (o, refl)
    found t shape k (Err l) more e = cc

    arrays_leaf : (k : ℕ) (more : List Alternative) → leaf (finders_of T) T K.Array k S ≡ Ok more
        → is_at_end (A.lower T S) (A.below T S) ≡ false
        → All (C.Arrays ∷ plan_lines number OfArrays T (array_frame T S))
    arrays_leaf k more e free = ⊎_elim
        (λ (x, y). absurd (both_ways (is_at_end (A.lower T S) (A.below T S)) free x))
        (λ (x, o).
        let q = ok_same (array_frame T S) o.frame (Ok (array_frame T S)) refl o.is_frame in
        arrays_fit o.counted (subst (λ f. ends (plan_steps T f) ≤ 65536) (sym q) o.planned))
        (leaf_is (plan_alternative by_index K.Array k T) T (A.lower T S) (A.below T S) (Ok (array_frame T S)) more e)

    objects_leaf : (k : ℕ) (more : List Alternative) → leaf (finders_of T) T K.Object k S ≡ Ok more
        → is_at_end (O.lower T S) (O.below T S) ≡ false → All (object_lines number T S)
    objects_leaf k more e free = ⊎_elim
        (λ (x, y). absurd (both_ways (is_at_end (O.lower T S) (O.below T S)) free x))
        (λ (x, o).
        go o.frame o.planned (limit_passed characters most_states (atoms_of_names T S)) refl o.is_frame)
        (leaf_is (plan_alternative by_name K.Object k T) T (O.lower T S) (O.below T S)
        (result_map (λ D. object_frame T D S) (cells_of T S)) more e)
      where
        go : (frame : Frame) → ends (plan_steps T frame) ≤ 65536 → (m : Option LimitKind)
            → limit_passed characters most_states (atoms_of_names T S) ≡ m
            → result_map {C = LimitKind} (λ D. object_frame T D S) (unless_passed m (cells_at T S)) ≡ Ok frame
            → All (object_lines number T S)
        go frame planned (Some l) p x = cc
        go frame planned None p x =
            let q = ok_same (frame_at T S) frame
            (result_map {C = LimitKind} (λ D. object_frame T D S) (Ok (cells_at T S))) refl x in
            objects_fit (few_rows (atoms_of_names T S) p)
            (subst (λ f. ends (plan_steps T f) ≤ 65536) (sym q) planned)

    -- the lines of a leaf that passes no limit are in the grammar
    pub leaf_fits : (t : Kind) (k : ℕ) (more : List Alternative) → leaf (finders_of T) T t k S ≡ Ok more
        → All (leaf_lines number T t S)
    leaf_fits K.Null k more e = fit_none rename low
    leaf_fits K.Boolean k more e = fit_more rename low C.NoTruth [] (refl, refl) (fit_none rename low)
    leaf_fits K.Number k more e = fit_more rename low C.NoNumber [] (refl, refl) (fit_none rename low)
    leaf_fits K.Text k more e =
        let (o, q) = found K.Text (λ w. Alt.Text) k (strings_of T S) more e in
        bounded_fit (is_at_end (W.lower T S) (W.below T S)) (string_lines T S) (λ free. strings_fit free o q)
    leaf_fits K.Array k more e =
        bounded_fit (is_at_end (A.lower T S) (A.below T S))
        (C.Arrays ∷ plan_lines number OfArrays T (array_frame T S)) (λ free. arrays_leaf k more e free)
    leaf_fits K.Object k more e =
        bounded_fit (is_at_end (O.lower T S) (O.below T S)) (object_lines number T S)
        (λ free. objects_leaf k more e free)
