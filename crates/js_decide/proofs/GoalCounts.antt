-- The hole of a goal means that the count which the limit names is over its number.
use Rattle.std.proofs.Common.{◌≡◌, ℕ, zero, suc, ◌+◌, ◌<◌, ◌≤◌, ◌⊎◌, inl, inr, ⊎_elim, Bool, true, false, cond, nat_lt, List, [], ◌∷◌, ◌++◌, flat_map, get_or, length, Option, Some, None, Result, Ok, Err, slice_get, refl, ap, sym, ◌∙◌, subst, zero-add}
use Rattle.std.specs.List.{list_all, IsDistinct}
use Rattle.std.proofs.lemmas.Bool.{ltb-true, ltb-false}
use Rattle.documents.specs.Kind as K
use Rattle.documents.specs.Kind.{Kind, all_kinds}
use Rattle.documents.specs.Tests.{some}
use Rattle.list_laws.specs.In.{IsIn}
use Rattle.list_laws.proofs.Lists.{from_map, get_or-in, in_right, from_flat_map}
use Rattle.list_laws.proofs.Tests.{some_find, all_from}
use Rattle.patterns.specs.CharSet.{is_scalar}
use Rattle.word_states.specs.Atom.{Atom}
use Rattle.word_states.specs.AtomPositions.{positions_of}
use Rattle.word_states.specs.Classes.{characters, class_firsts, class_count}
use Rattle.word_states.specs.Mention.{mention_all}
use Rattle.word_states.specs.WordState.{have_same_state}
use Rattle.word_states.specs.Rows.{HaveStates}
use Rattle.word_laws.proofs.Mentions.{mentions_only, mentions_distinct}
use Rattle.word_laws.proofs.Classes.{firsts_scalar}
use Rattle.word_laws.proofs.States.{same_laws}
use Rattle.word_laws.proofs.RowLaws.{all_end}
use Rattle.positions.specs.Position.{Position}
use Rattle.goals.specs.Signed.{Signed}
use Rattle.goals.specs.Tree as G
use Rattle.cells.specs.Cells.{Cells}
use Rattle.frames.specs.Frame.{is_at_end}
use Rattle.frames.specs.ObjectFrame.{object_frame}
use Rattle.number_groups.specs.Cases.{Cases, Found, Empty, LimitMultiples, LimitCandidates}
use Rattle.number_groups.specs.Outcome.{outcome}
use Rattle.number_groups.specs.Correct.{IsRight}
use Rattle.alternatives.specs.Alternative.{Alternative, named}
use Rattle.alternatives.specs.Limit as L
use Rattle.alternatives.specs.Limit.{LimitKind, most_ends, most_positions, most_classes, most_states, most_candidates, most_width, most_places, most_words}
use Rattle.alternatives.specs.Expansion.{is_wide, nothing, keep_all}
use Rattle.expansions.specs.Leaves.{result_map}
use Rattle.expansions.specs.Expansion.{from_branch, at_kind, expansion}
use Rattle.expansion_laws.proofs.Leaf.{Answer}
use Rattle.expansion_laws.proofs.Kept.{branch_from}
use Rattle.expansion_laws.proofs.Holes.{Exceeds, first_limit_is, PassesPlans, IsLimit, leaf_limit}
use Rattle.number_finder.specs.SetGroup.{number_group}
use Rattle.number_finder.specs.NumbersOf.{answer_of, numbers_of}
use Rattle.finders.specs.RowsFound.{longer, rows_by}
use Rattle.finders.specs.Limits.{limit_passed, unless_passed}
use Rattle.finders.specs.WordsFound.{far}
use Rattle.finders.specs.Strings.{lower, below, string_atoms, string_found}
use Rattle.finders.specs.Names.{atoms_of_names, names_found, cells_of}
use Rattle.js_expander.specs.Found.{finders, leaf_of, goal_expansion}
use Rattle.js_decide.specs.Counted.{HaveManyStates, OfBranch, OfAtoms, OfNumbers, HasManyParts, HasManyPlans, HasWide, Passes}
use Rattle.std.proofs.lemmas.Option.{same_Some}

err_same : {A : Type 0} (k l : LimitKind) (r : Result A LimitKind) → r ≡ Err k → r ≡ Err l → k ≡ l
err_same k l r a b = cc

-- an automaton's limits

module _ (atoms : List Atom) where
  abbrev Rows : ℕ → List (List ℕ)
  Rows n = rows_by (class_firsts atoms) atoms n

  abbrev AreWords : List (List ℕ) → Type 0
  AreWords K = (w : List ℕ) → IsIn w K → list_all is_scalar w ≡ true

  -- rows that are found are words
  row_words : (n : ℕ) → AreWords (Rows n)
  row_words zero w (inl e) = subst (λ z. list_all is_scalar z ≡ true) (sym e) refl
  row_words zero w (inr i) = absurd i
  row_words (suc n) w i = go (row_words n) (nat_lt n (length (Rows n))) refl i where
    more : AreWords (Rows n) → n < length (Rows n) → IsIn w (longer (class_firsts atoms) (get_or (Rows n) n []))
        → list_all is_scalar w ≡ true
    more h l j =
        let (c, i, e) = from_map (λ c. get_or (Rows n) n [] ++ c ∷ []) w (class_firsts atoms) j in
        subst (λ z. list_all is_scalar z ≡ true) (sym e)
        (all_end (get_or (Rows n) n []) c (h (get_or (Rows n) n []) (get_or-in (Rows n) n [] l))
        (firsts_scalar atoms c i))

    go : AreWords (Rows n) → (b : Bool) → nat_lt n (length (Rows n)) ≡ b
        → IsIn w (cond b (mention_all (have_same_state atoms) (Rows n) (longer (class_firsts atoms)
        (get_or (Rows n) n []))) (Rows n))
        → list_all is_scalar w ≡ true
    go h false e i = h w i
    go h true e i = ⊎_elim
        (λ j. h w j)
        (λ j. more h (ltb-true n (length (Rows n)) e) j)
        (mentions_only (have_same_state atoms) (same_laws atoms) (Rows n)
        (longer (class_firsts atoms) (get_or (Rows n) n [])) w i)

  -- no two rows have the same state
  rows_apart : (n : ℕ) → IsDistinct (have_same_state atoms) (Rows n)
  unfolding IsDistinct
  rows_apart zero = (tt, tt)
  rows_apart (suc n) = go (nat_lt n (length (Rows n))) (rows_apart n) where
    go : (b : Bool) → IsDistinct (have_same_state atoms) (Rows n)
        → IsDistinct (have_same_state atoms) (cond b (mention_all (have_same_state atoms) (Rows n)
        (longer (class_firsts atoms) (get_or (Rows n) n []))) (Rows n))
    go true d =
        mentions_distinct (have_same_state atoms) (same_laws atoms) (Rows n)
        (longer (class_firsts atoms) (get_or (Rows n) n [])) d
    go false d = d

  row_states : (n : ℕ) → HaveStates atoms (length (Rows n))
  row_states n = (
    Rows n,
    refl,
    (all_from (list_all is_scalar) (Rows n)) (row_words n),
    rows_apart n,
  )

  -- the count of atoms that a limit names
  abbrev AtomsPass : ℕ → LimitKind → Type 0
  AtomsPass most L.Positions = most_positions < positions_of atoms
  AtomsPass most L.Classes = most_classes < class_count atoms
  AtomsPass most L.States = HaveManyStates most atoms
  AtomsPass most l = ⊥

  atoms_pass : (most : ℕ) (l : LimitKind) → limit_passed characters most atoms ≡ Some l → AtomsPass most l
  atoms_pass most l e =
      go (nat_lt most_positions (positions_of atoms)) (nat_lt most_classes (class_count atoms))
      (nat_lt most (length (Rows most))) refl refl refl e where
        go : (a b c : Bool) → nat_lt most_positions (positions_of atoms) ≡ a
            → nat_lt most_classes (class_count atoms) ≡ b → nat_lt most (length (Rows most)) ≡ c
            → cond a (Some L.Positions) (cond b (Some L.Classes) (cond c (Some L.States) None)) ≡ Some l
            → AtomsPass most l
        go true b c p q r e =
            subst (AtomsPass most) (same_Some L.Positions l e) (ltb-true most_positions (positions_of atoms) p)
        go false true c p q r e =
            subst (AtomsPass most) (same_Some L.Classes l e) (ltb-true most_classes (class_count atoms) q)
        go false false true p q r e =
            subst (AtomsPass most) (same_Some L.States l e)
            (length (Rows most), ltb-true most (length (Rows most)) r, row_states most)
        go false false false p q r e = cc

passed_err : {A : Type 0} (o : Option LimitKind) (x : A) (l : LimitKind) → unless_passed o x ≡ Err l → o ≡ Some l
passed_err None x l e = cc
passed_err (Some k) x l e = ap Some (err_same k l (unless_passed (Some k) x) refl e)

cond_err : {A : Type 0} (b : Bool) (o : Option LimitKind) (x y : A) (l : LimitKind)
    → cond b (Ok y) (unless_passed o x) ≡ Err l → o ≡ Some l
cond_err true o x y l e = cc
cond_err false o x y l e = passed_err o x l e

module _ (T : List Position) where
  strings_pass : (most long : ℕ) (S : List Signed) (l : LimitKind) → string_found characters most long T S ≡ Err l
      → AtomsPass (string_atoms T S) most l
  strings_pass most long S l e =
      atoms_pass (string_atoms T S) most l
      (cond_err (is_at_end (lower T S) (below T S)) (limit_passed characters most (string_atoms T S)) _ None l e)

  names_pass : (most long bound : ℕ) (S : List Signed) (l : LimitKind)
      → names_found characters most long bound T S ≡ Err l → AtomsPass (atoms_of_names T S) most l
  names_pass most long bound S l e =
      atoms_pass (atoms_of_names T S) most l (passed_err (limit_passed characters most (atoms_of_names T S)) _ l e)

  module _ (right : (S : List Signed) → IsRight most_candidates (number_group T S)
      (outcome most_candidates (number_group T S))) where
    -- the count of numbers that a limit names
    abbrev NumbersPass : List Signed → LimitKind → Type 0
    NumbersPass S L.Multiples = OfNumbers T LimitMultiples K.Number 0 S
    NumbersPass S L.Candidates = OfNumbers T LimitCandidates K.Number 0 S
    NumbersPass S l = ⊥

    numbers_pass : (S : List Signed) (l : LimitKind) → numbers_of T S ≡ Err l → NumbersPass S l
    numbers_pass S l e = go (outcome most_candidates (number_group T S)) (right S) e where
      go : (c : Cases) → IsRight most_candidates (number_group T S) c → answer_of c ≡ Err l → NumbersPass S l
      go (Found n) r e = cc
      go Empty r e = cc
      go LimitMultiples r e =
          subst (NumbersPass S) (err_same L.Multiples l (answer_of LimitMultiples) refl e) r.says
      go LimitCandidates r e =
          subst (NumbersPass S) (err_same L.Candidates l (answer_of LimitCandidates) refl e) r.says

    module _ (g : List Signed) where
      -- what a leaf passes, its branch passes
      module _ (k : ℕ) (S : List Signed) where
        abbrev IsAt : Kind → Type 0
        IsAt t = (G.ends (G.steps T t g) ≤ most_ends) × (slice_get (G.branches (G.steps T t g)) k ≡ Some S)

        branch : (t : Kind) (P : Kind → ℕ → List Signed → Type 0) → IsAt t → P t k S → OfBranch T g P
        branch t P (few, at) p = record { kind = t; number = k; set = S; few = few; at = at; holds = p }

        text_passes : IsAt K.Text → (l : LimitKind) → AtomsPass (string_atoms T S) most_states l → Passes T g l
        text_passes at L.Positions p = branch K.Text (OfAtoms T (λ atoms. most_positions < positions_of atoms)) at p
        text_passes at L.Classes p = branch K.Text (OfAtoms T (λ atoms. most_classes < class_count atoms)) at p
        text_passes at L.States p = branch K.Text (OfAtoms T (HaveManyStates most_states)) at p
        text_passes at _ p = absurd p

        names_passes : IsAt K.Object → (l : LimitKind) → AtomsPass (atoms_of_names T S) most_states l → Passes T g l
        names_passes at L.Positions p = branch K.Object (OfAtoms T (λ atoms. most_positions < positions_of atoms)) at p
        names_passes at L.Classes p = branch K.Object (OfAtoms T (λ atoms. most_classes < class_count atoms)) at p
        names_passes at L.States p = branch K.Object (OfAtoms T (HaveManyStates most_states)) at p
        names_passes at _ p = absurd p

        numbers_passes : IsAt K.Number → (l : LimitKind) → NumbersPass S l → Passes T g l
        numbers_passes at L.Multiples p = branch K.Number (OfNumbers T LimitMultiples) at p
        numbers_passes at L.Candidates p = branch K.Number (OfNumbers T LimitCandidates) at p
        numbers_passes at _ p = absurd p

        frame_passes : IsAt K.Object → (r : Result Cells LimitKind) → cells_of T S ≡ r → (l : LimitKind)
            → PassesPlans T (result_map (λ C. object_frame T C S) r) l → Passes T g l
        frame_passes at (Ok C) e l (q, many) =
            subst (Passes T g) (sym q) (branch K.Object (HasManyPlans T) at (C, e, many))
        frame_passes at (Err k) e l q =
            names_passes at l (names_pass most_states far most_words S l (e ∙ ap Err q))

        leaf_passes : (t : Kind) → IsAt t → (l : LimitKind) → IsLimit (finders T) T t S l → Passes T g l
        leaf_passes K.Null at l p = absurd p
        leaf_passes K.Boolean at l p = absurd p
        leaf_passes K.Number at l p = numbers_passes at l (numbers_pass S l p)
        leaf_passes K.Text at l p = text_passes at l (strings_pass most_states far S l p)
        leaf_passes K.Array at l (open_, inl (q, many)) =
            subst (Passes T g) (sym q) (branch K.Array (HasManyParts T) at many)
        leaf_passes K.Array at l (open_, inr (low, (q, many))) =
            subst (Passes T g) (sym q) (branch K.Array (HasManyPlans T) at many)
        leaf_passes K.Object at l (open_, inl (q, many)) =
            subst (Passes T g) (sym q) (branch K.Object (HasManyParts T) at many)
        leaf_passes K.Object at l (open_, inr (low, p)) = frame_passes at (cells_of T S) refl l p

      -- an answer of a goal is that of a branch, or that its tree has too many ends
      record IsOf (r : Answer) : Type 0 where
        pub kind : Kind
        pub number : ℕ
        pub set : List Signed
        pub few : G.ends (G.steps T kind g) ≤ most_ends
        pub at : slice_get (G.branches (G.steps T kind g)) number ≡ Some set
        pub is : r ≡ leaf_of T kind number set

      abbrev IsOver : Answer → Type 0
      IsOver r = (r ≡ Err L.Branches) × ((t : Kind) × (most_ends < G.ends (G.steps T t g)))

      answer_from : (r : Answer) → IsIn r (flat_map (at_kind T (leaf_of T) g) all_kinds) → IsOver r ⊎ IsOf r
      answer_from r i =
          let (t, u, v) = from_flat_map (at_kind T (leaf_of T) g) r all_kinds i in
          go t (nat_lt most_ends (G.ends (G.steps T t g))) refl v where
            go : (t : Kind) (b : Bool) → nat_lt most_ends (G.ends (G.steps T t g)) ≡ b
                → IsIn r (cond b (Err L.Branches ∷ []) (from_branch T (leaf_of T) t 0 (G.branches (G.steps T t g))))
                → IsOver r ⊎ IsOf r
            go t true p (inl q) = inl (q, (t, ltb-true most_ends (G.ends (G.steps T t g)) p))
            go t true p (inr q) = absurd q
            go t false p v =
                let (k, (S, at, e)) = branch_from T (leaf_of T) t 0 (G.branches (G.steps T t g)) r v in
                inr (record {
                  kind = t;
                  number = k;
                  set = S;
                  few = ltb-false most_ends (G.ends (G.steps T t g)) p;
                  at = at;
                  is = e ∙ ap (λ z. leaf_of T t z S) (zero-add k);
                })

      err_passes : (l : LimitKind) (r : Answer) → r ≡ Err l → IsOver r ⊎ IsOf r → Passes T g l
      err_passes l r e (inl (q, ends)) = subst (Passes T g) (err_same L.Branches l r q e) ends
      err_passes l r e (inr o) =
          leaf_passes o.number o.set o.kind (o.few, o.at) l
          (leaf_limit (finders T) T o.kind o.number o.set l (sym o.is ∙ e))

      wide_passes : (more : List Alternative) → some is_wide (named more) ≡ true
          → IsOver (Ok more) ⊎ IsOf (Ok more)
          → Passes T g L.Width
      wide_passes more w (inl (q, ends)) = cc
      wide_passes more w (inr o) =
          let (h, i, l) = some_find is_wide (named more) w in
          branch o.number o.set o.kind (HasWide T) (o.few, o.at)
          (more, sym o.is, (h, i, ltb-true most_width (length h) l))

      passes : (before after : List Answer) (r : Answer) (l : LimitKind)
          → flat_map (at_kind T (leaf_of T) g) all_kinds ≡ before ++ r ∷ after
          → Exceeds (keep_all nothing before) r l → IsOver r ⊎ IsOf r → Passes T g l
      passes before after (Err k) l is q o = err_passes l (Err k) (ap Err q) o
      passes before after (Ok more) l is (inl (q, w)) o = subst (Passes T g) (sym q) (wide_passes more w o)
      passes before after (Ok more) l is (inr (q, many)) o =
          subst (Passes T g) (sym q)
          (record { before = before; own = more; after = after; is = is; many = many })

      -- where a goal has a hole, the count of the limit that the hole names is over its number
      pub goal_counted : (l : LimitKind) → (goal_expansion T g).hole ≡ Some l → Passes T g l
      unfolding expansion
      goal_counted l e =
          let f = first_limit_is (flat_map (at_kind T (leaf_of T) g) all_kinds) nothing l refl e in
          passes f.before f.after f.answer l f.is f.exceeds
          (answer_from f.answer
          (subst (λ z. IsIn f.answer z) (sym f.is) (in_right f.answer f.before (f.answer ∷ f.after) (inl refl))))
