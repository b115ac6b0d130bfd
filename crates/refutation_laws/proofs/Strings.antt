-- A set at strings of which no word is found is refuted by its rows and the lengths of their words.
use Rattle.std.proofs.Common.{◌≡◌, ℕ, suc, ◌<◌, ◌≤◌, inl, inr, List, [], ◌∷◌, ◌++◌, Bool, true, false, ◌||◌, not, cond, get_or, map, length, nat_eq, nat_le, nat_lt, Option, Some, None, Result, Ok, Err, refl, ap, sym, ◌∙◌, subst, append_assoc, arith}
use Rattle.std.proofs.lemmas.Bool.{and_from, lt-ltb, le-leb, eq-eqb}
use Rattle.std.proofs.lemmas.List.{length-map, get_or-map}
use Rattle.std.specs.List.{list_all, range_with_len}
use Rattle.documents.specs.Kind as K
use Rattle.documents.specs.Tests.{every}
use Rattle.patterns.specs.CharSet.{is_scalar}
use Rattle.word_states.specs.Atom.{Atom}
use Rattle.word_states.specs.Classes.{characters, class_firsts, class_count}
use Rattle.word_states.specs.WordState.{have_same_state}
use Rattle.word_states.specs.Rows.{AreRows, targets_of}
use Rattle.word_laws.proofs.RowLaws.{rows_words, all_end, row_zero}
use Rattle.word_laws.proofs.Classes.{firsts_scalar}
use Rattle.positions.specs.Position.{Position}
use Rattle.goals.specs.Signed.{Signed}
use Rattle.list_laws.proofs.Lists.{get_or-in, in-get_or, length-end}
use Rattle.cell_laws.proofs.Rows.{target_in, leads_on, one_row, first_row}
use Rattle.frames.specs.Frame.{is_at_end}
use Rattle.alternatives.specs.Limit.{LimitKind, most_states}
use Rattle.finders.specs.Limits.{limit_passed, unless_passed}
use Rattle.finders.specs.WordsFound.{first_of}
use Rattle.finders.specs.Strings.{string_atoms, lower, below, is_wanted, if_below, strings_of}
use Rattle.finder_laws.proofs.RowsFound.{none_passed}
use Rattle.finder_laws.proofs.RowOrder.{NoLater, word_row}
use Rattle.finder_laws.proofs.Strings.{wanted_words, wanted_first}
use Rattle.certificate_lines.specs.Line as C
use Rattle.certificate_lines.specs.Line.{Line}
use Rattle.verdicts.specs.Rules.{no_rows, wanted_left, wrong_least}
use Rattle.verdicts.specs.RowLines.{and_then, if_so, begin_table, stated}
use Rattle.verdicts.specs.Leaves.{are_within_limits, least_right, least_past}
use Rattle.verdicts.specs.Duties.{OfSet, OfRows, OfLeast, ForLengths, after, run}
use Rattle.verdict_laws.proofs.Limits.{past_limits}
use Rattle.refutations.specs.StatedRows.{rows_of, row_lines}
use Rattle.refutations.specs.StringLines.{length_lines, string_lines}
use Rattle.refutation_laws.proofs.Does.{Does}
use Rattle.refutation_laws.proofs.Rows.{whole_table, rows_done}
use Rattle.list_laws.proofs.Tests.{every-range}
use Rattle.frame_laws.proofs.Ends.{at_end_up}

-- rows of atoms that pass no limit

pub within : (atoms : List Atom) → limit_passed characters most_states atoms ≡ None → are_within_limits atoms ≡ true
within atoms e = go (are_within_limits atoms) refl where
  no_limit : (k : LimitKind) → limit_passed characters most_states atoms ≡ Some k → ⊥
  no_limit k p = cc

  go : (b : Bool) → are_within_limits atoms ≡ b → b ≡ true
  go true h = refl
  go false h = elim (past_limits most_states atoms h) [
    | inl p ↦ absurd (no_limit _ p)
    | inr p ↦ absurd (no_limit _ p)
  ]

module _ (atoms : List Atom) (L : List (List ℕ)) (rows : AreRows atoms L) where
  pub some_rows : 0 < length L
  some_rows = (first_row atoms L rows).0

  short : (v w : List ℕ) → NoLater v w → length v ≤ length w
  short v w (inl e) = let q : length v ≡ length w = ap length e in omega (arith, q)
  short v w (inr (inl l)) = omega (arith, l)
  short v w (inr (inr (e, x))) = omega (arith, e)

  -- the word of a target is no longer than the one with which it is reached
  target_short : (r k : ℕ) → r < length L → k < class_count atoms
      → length (get_or L (target_in atoms L r k) []) ≤ suc (length (get_or L r []))
  target_short r k l m =
      let v = get_or L r [] in
      let f = get_or (class_firsts atoms) k 0 in
      let s = all_end v f (rows_words atoms L rows v (get_or-in L r [] l))
      (firsts_scalar atoms f (get_or-in (class_firsts atoms) k 0 m)) in
      let h = word_row atoms L rows (v ++ f ∷ []) s in
      let (j, n, e) = in-get_or L h.first [] h.is_in in
      let same = subst (λ z. have_same_state atoms (v ++ f ∷ []) z ≡ true) e h.is_same in
      let q = one_row atoms L rows (v ++ f ∷ []) (target_in atoms L r k) j (leads_on atoms L rows r k l m) (n, same) in
      let here : length h.first ≤ length (v ++ f ∷ []) = short h.first (v ++ f ∷ []) h.no_later in
      let there : length (get_or L (target_in atoms L r k) []) ≡ length h.first =
      ap (λ z. length (get_or L z [])) q ∙ ap length (sym e) in
      let one : length (v ++ f ∷ []) ≡ suc (length v) = length-end v f in
      omega (arith, here, there, one)

  pub stated_is : (r k : ℕ) → r < length L → stated (whole_table atoms L rows) r k ≡ target_in atoms L r k
  stated_is r k l = ap (λ ts. get_or ts k 0) (get_or-map (targets_of atoms L) L r [] [] l)

  pub labels_right : (T : List Position) (S : List Signed)
      → least_right T S atoms (whole_table atoms L rows) (map length L) ≡ true
  labels_right T S =
      and_from (nat_eq (length (map length L)) (length L)) _
      (eq-eqb (length (map length L)) (length L) (length-map L length))
      (and_from (nat_eq (get_or (map length L) 0 0) 0) _
      (eq-eqb (get_or (map length L) 0 0) 0 (get_or-map length L 0 [] 0 some_rows ∙ ap length (row_zero atoms L rows)))
      (every-range one_up (length L) (λ r l.
      every-range (λ k. nat_le (get_or (map length L) (stated (whole_table atoms L rows) r k) 0)
      (suc (get_or (map length L) r 0))) (class_count atoms) (λ k m.
      le-leb (get_or (map length L) (stated (whole_table atoms L rows) r k) 0) (suc (get_or (map length L) r 0))
      (up r k l m)))))
    where
      one_up : ℕ → Bool
      one_up r = every (λ k. nat_le (get_or (map length L) (stated (whole_table atoms L rows) r k) 0)
          (suc (get_or (map length L) r 0))) (range_with_len 0 (class_count atoms))

      up : (r k : ℕ) → r < length L → k < class_count atoms
          → get_or (map length L) (stated (whole_table atoms L rows) r k) 0 ≤ suc (get_or (map length L) r 0)
      up r k l m =
          let a = get_or-map length L r [] 0 l in
          let b : get_or (map length L) (stated (whole_table atoms L rows) r k) 0
          ≡ length (get_or L (target_in atoms L r k) []) =
          ap (λ z. get_or (map length L) z 0) (stated_is r k l)
          ∙ get_or-map length L (target_in atoms L r k) [] 0 (leads_on atoms L rows r k l m).0 in
          let c = target_short r k l m in
          omega (arith, a, b, c)

-- no word is found

module _ (T : List Position) (S : List Signed) where
  pub record IsNone : Type 0 where
    pub passed : limit_passed characters most_states (string_atoms T S) ≡ None
    pub none : if_below (below T S) (first_of (wanted_words T S)) ≡ None

  none_is : is_at_end (lower T S) (below T S) ≡ false → strings_of T S ≡ Ok None → IsNone
  none_is free e =
      go (is_at_end (lower T S) (below T S)) (limit_passed characters most_states (string_atoms T S)) free refl e where
        inner : (x : Option (List ℕ)) (r : Result (Option (List ℕ)) LimitKind) → r ≡ Ok x → r ≡ Ok None → x ≡ None
        inner x r a b = cc

        go : (c : Bool) (m : Option LimitKind) → c ≡ false
            → limit_passed characters most_states (string_atoms T S) ≡ m
            → cond c (Ok None) (unless_passed m (if_below (below T S) (first_of (wanted_words T S)))) ≡ Ok None
            → IsNone
        go true m o p h = cc o
        go false (Some k) o p h = cc h
        go false None o p h = record {
          passed = p;
          none = inner (if_below (below T S) (first_of (wanted_words T S))) _ refl h;
        }

  module _ (h : IsNone) (L : List (List ℕ)) (rows : AreRows (string_atoms T S) L) (few : length L ≤ most_states) where
    wanted_long : (w : List ℕ) → list_all is_scalar w ≡ true → is_wanted T S w ≡ true
        → is_at_end (length w) (below T S) ≡ true
    wanted_long w s t =
        let (v, e, l) = wanted_first T S L rows few w s t in
        at_end_up (length v) (length w) (below T S) l
        (go v (is_at_end (length v) (below T S)) refl (ap (if_below (below T S)) (sym e) ∙ h.none)) where
          go : (v : List ℕ) (b : Bool) → is_at_end (length v) (below T S) ≡ b → cond b None (Some v) ≡ None → b ≡ true
          go v true p q = refl
          go v false p q = cc q

    past : least_past T S (whole_table (string_atoms T S) L rows) (map length L) ≡ true
    past = every-range
        (λ r. not (is_wanted T S (get_or L r [])) || is_at_end (get_or (map length L) r 0) (below T S)) (length L)
        (λ r l. go r l (is_wanted T S (get_or L r [])) refl) where
          go : (r : ℕ) → r < length L → (b : Bool) → is_wanted T S (get_or L r []) ≡ b
              → (not b || is_at_end (get_or (map length L) r 0) (below T S)) ≡ true
          go r l false e = refl
          go r l true e =
              ap (λ n. is_at_end n (below T S)) (get_or-map length L r [] 0 l)
              ∙ wanted_long (get_or L r [])
              (rows_words (string_atoms T S) L rows (get_or L r []) (get_or-in L r [] l)) e

    least_done : (cite : ℕ → List Signed → Bool)
        → after T cite (OfLeast S (whole_table (string_atoms T S) L rows)) (C.Least (map length L)) ≡ Ok []
    least_done cite =
        ap (λ b. cond b (if_so wanted_left (least_past T S (whole_table (string_atoms T S) L rows) (map length L)) [])
        (Err wrong_least)) (labels_right (string_atoms T S) L rows T S)
        ∙ ap (λ b. if_so wanted_left b []) past

  lengths_do : (cite : ℕ → List Signed → Bool) → (h : IsNone) (L : List (List ℕ))
      → (rows : AreRows (string_atoms T S) L) → length L ≤ most_states
      → Does T cite (OfSet K.Text S) (length_lines (string_atoms T S) L)
  lengths_do cite h L rows few ds ms =
      ap (λ b. and_then
      (λ es. run T cite (es ++ ds) ((row_lines (string_atoms T S) L ++ C.Least (map length L) ∷ []) ++ ms))
      (if_so no_rows b (OfRows ForLengths S (length L) begin_table ∷ [])))
      (and_from (nat_lt 0 (length L)) (are_within_limits (string_atoms T S))
      (lt-ltb 0 (length L) (some_rows (string_atoms T S) L rows)) (within (string_atoms T S) h.passed))
      ∙ ap (run T cite (OfRows ForLengths S (length L) begin_table ∷ ds))
      (append_assoc (row_lines (string_atoms T S) L) (C.Least (map length L) ∷ []) ms)
      ∙ rows_done T cite ForLengths S L rows ds (C.Least (map length L) ∷ ms)
      ∙ ap (λ r. and_then (λ es. run T cite (es ++ ds) ms) r) (least_done h L rows few cite)

  -- the lines of a set at strings do its duty, where no word is found
  pub strings_do : (cite : ℕ → List Signed → Bool) → is_at_end (lower T S) (below T S) ≡ false
      → strings_of T S ≡ Ok None
      → Does T cite (OfSet K.Text S) (string_lines T S)
  strings_do cite free e =
      let h = none_is free e in
      let (rows, few) = none_passed (string_atoms T S) most_states h.passed in
      lengths_do cite h (rows_of (string_atoms T S)) rows few
