-- The rows that are found are the rows of the atoms, and the limits are those that the automaton has.
use Rattle.std.proofs.Common.{◌≡◌, ℕ, zero, suc, ◌≤◌, ◌<◌, inl, inr, ⊎_elim, List, [], ◌∷◌, ◌++◌, Bool, true, false, cond, Option, Some, None, take, get_or, length, nat_lt, refl, sym, subst, arith}
use Rattle.list_laws.specs.In.{IsIn}
use Rattle.list_laws.proofs.Lists.{from_map, get_or-in}
use Rattle.std.specs.List.{list_all, IsDistinct, AllByRecursion}
use Rattle.std.proofs.lemmas.Bool.{cases_lt, lt-ltb, le-ltb, ltb-true, ltb-false}
use Rattle.patterns.specs.CharSet.{is_scalar}
use Rattle.word_states.specs.Atom.{Atom}
use Rattle.word_states.specs.AtomPositions.{positions_of}
use Rattle.word_states.specs.Classes.{class_firsts, class_count, characters}
use Rattle.word_states.specs.Mention.{mention_all}
use Rattle.word_states.specs.WordState.{have_same_state}
use Rattle.word_states.specs.Rows.{AreRows, HaveStates}
use Rattle.word_laws.proofs.Mentions as M
use Rattle.word_laws.proofs.Classes.{firsts_scalar}
use Rattle.word_laws.proofs.States.{same_laws}
use Rattle.word_laws.proofs.RowLaws.{rows_one, rows_bound, all_end}
use Rattle.alternatives.specs.Limit.{LimitKind, Positions, Classes, States, most_positions, most_classes}
use Rattle.finders.specs.RowsFound.{longer, rows_by}
use Rattle.finders.specs.Limits.{limit_passed}
use Rattle.finder_laws.proofs.Grow.{grow_rows, grow_distinct}
use Rattle.list_laws.proofs.Tests.{all_from}

distinct_take : {A : Type 0} (same : A → A → Bool) (n : ℕ) (K : List A) → IsDistinct same K → IsDistinct same (take n K)
unfolding IsDistinct
distinct_take same zero K d = tt
distinct_take same (suc n) [] d = tt
distinct_take {A = A} same (suc n) (x ∷ K) d = (apart n K d.0, distinct_take same n K d.1) where
  apart : (n : ℕ) (K : List A) → AllByRecursion (λ y. same x y ≡ false) K
      → AllByRecursion (λ y. same x y ≡ false) (take n K)
  apart zero K a = tt
  apart (suc n) [] a = tt
  apart (suc n) (y ∷ K) a = (a.0, apart n K a.1)

module _ (atoms : List Atom) where
  extended_words : (w : List ℕ) → list_all is_scalar w ≡ true → (v : List ℕ) → IsIn v (longer (class_firsts atoms) w)
      → list_all is_scalar v ≡ true
  extended_words w s v i =
      let (c, j, e) = from_map (λ c. w ++ c ∷ []) v (class_firsts atoms) i in
      subst (λ z. list_all is_scalar z ≡ true) (sym e) (all_end w c s (firsts_scalar atoms c j))

  -- rows that are found are words
  grown_words : (n : ℕ) (w : List ℕ) → IsIn w (rows_by (class_firsts atoms) atoms n) → list_all is_scalar w ≡ true
  grown_words zero w (inl e) = subst (λ z. list_all is_scalar z ≡ true) (sym e) refl
  grown_words zero w (inr i) = absurd i
  grown_words (suc n) w i =
      go (rows_by (class_firsts atoms) atoms n) (grown_words n)
      (nat_lt n (length (rows_by (class_firsts atoms) atoms n)))
      refl i where
        go : (G : List (List ℕ)) → ((v : List ℕ) → IsIn v G → list_all is_scalar v ≡ true) → (b : Bool)
            → nat_lt n (length G) ≡ b
            → IsIn w (cond b (mention_all (have_same_state atoms) G (longer (class_firsts atoms) (get_or G n []))) G)
            → list_all is_scalar w ≡ true
        go G h false e i = h w i
        go G h true e i = ⊎_elim
            (λ j. h w j)
            (λ j. extended_words (get_or G n []) (h (get_or G n []) (get_or-in G n [] (ltb-true n (length G) e))) w j)
            (M.mentions_only (have_same_state atoms) (same_laws atoms) G (longer (class_firsts atoms) (get_or G n [])) w
            i)

  grown_states : (n : ℕ) → HaveStates atoms (length (rows_by (class_firsts atoms) atoms n))
  grown_states n = (
    rows_by (class_firsts atoms) atoms n,
    refl,
    (all_from (list_all is_scalar) (rows_by (class_firsts atoms) atoms n)) (grown_words n),
    grow_distinct (have_same_state atoms) (same_laws atoms) (longer (class_firsts atoms)) [] n,
  )

  -- the rows, where there are no more of them
  pub rows_grown : (n : ℕ) (L : List (List ℕ)) → AreRows atoms L → length L ≤ n
      → rows_by (class_firsts atoms) atoms n ≡ L
  rows_grown n L rows l =
      let m = rows_bound atoms L rows (length (rows_by (class_firsts atoms) atoms n)) (grown_states n) in
      rows_one atoms (rows_by (class_firsts atoms) atoms n) L
      (grow_rows (have_same_state atoms) (same_laws atoms) (longer (class_firsts atoms)) [] n (omega (arith, l, m)))
      rows

  pub rows_are : (n : ℕ) → length (rows_by (class_firsts atoms) atoms n) ≤ n
      → AreRows atoms (rows_by (class_firsts atoms) atoms n)
  rows_are n l = grow_rows (have_same_state atoms) (same_laws atoms) (longer (class_firsts atoms)) [] n l

  -- more states than may be gone through are more rows
  pub grown_past : (n : ℕ) → HaveStates atoms (suc n) → n < length (rows_by (class_firsts atoms) atoms n)
  grown_past n h = elim (cases_lt n (length (rows_by (class_firsts atoms) atoms n))) [
    | inl l ↦ l
    | inr l ↦
        let m = rows_bound atoms (rows_by (class_firsts atoms) atoms n) (rows_are n l) (suc n) h in
        absurd (omega (arith, l, m))
  ]

  -- the limits

  abbrev pub passed_at : ℕ → Option LimitKind
  passed_at most = limit_passed characters most atoms

  pub passes_positions : (most : ℕ) → most_positions < positions_of atoms → passed_at most ≡ Some Positions
  passes_positions most l = rw (lt-ltb most_positions (positions_of atoms) l) refl

  pub passes_classes : (most : ℕ) → positions_of atoms ≤ most_positions → most_classes < class_count atoms
      → passed_at most ≡ Some Classes
  passes_classes most l m =
      rw (le-ltb most_positions (positions_of atoms) l, lt-ltb most_classes (class_count atoms) m) refl

  pub passes_states : (most : ℕ) → positions_of atoms ≤ most_positions → class_count atoms ≤ most_classes
      → HaveStates atoms (suc most)
      → passed_at most ≡ Some States
  passes_states most l m h =
      rw (
        le-ltb most_positions (positions_of atoms) l,
        le-ltb most_classes (class_count atoms) m,
        lt-ltb most (length (rows_by (class_firsts atoms) atoms most)) (grown_past most h),
      ) refl

  pub passes_none : (most : ℕ) → positions_of atoms ≤ most_positions → class_count atoms ≤ most_classes
      → (L : List (List ℕ)) → AreRows atoms L → length L ≤ most → passed_at most ≡ None
  passes_none most l m L rows n =
      let e : length (rows_by (class_firsts atoms) atoms most) ≤ most =
      subst (λ z. length z ≤ most) (sym (rows_grown most L rows n)) n in
      rw (
        le-ltb most_positions (positions_of atoms) l,
        le-ltb most_classes (class_count atoms) m,
        le-ltb most (length (rows_by (class_firsts atoms) atoms most)) e,
      ) refl

  -- where none is passed, what is found are the rows
  pub none_passed : (most : ℕ) → passed_at most ≡ None
      → AreRows atoms (rows_by (class_firsts atoms) atoms most)
      × (length (rows_by (class_firsts atoms) atoms most) ≤ most)
  none_passed most e =
      let l = go (nat_lt most_positions (positions_of atoms)) (nat_lt most_classes (class_count atoms))
      (nat_lt most (length (rows_by (class_firsts atoms) atoms most))) refl e in (rows_are most l, l) where
        go : (a b c : Bool) → nat_lt most (length (rows_by (class_firsts atoms) atoms most)) ≡ c
            → cond a (Some Positions) (cond b (Some Classes) (cond c (Some States) None)) ≡ None
            → length (rows_by (class_firsts atoms) atoms most) ≤ most
        go true b c h e = cc e
        go false true c h e = cc e
        go false false true h e = cc e
        go false false false h e = ltb-false most (length (rows_by (class_firsts atoms) atoms most)) h
