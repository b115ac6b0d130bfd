-- The lines of bounds of cells are right where the cell's words aren't cut, and state the bounds of its words.
use Rattle.std.proofs.Common.{◌≡◌, ℕ, zero, suc, ◌+◌, ◌-◌, ◌*◌, ◌<◌, ◌≤◌, ◌⊎◌, min, inl, inr, Bool, true, false, cond, List, [], ◌∷◌, ◌++◌, map, filter, length, get_or, nat_eq, nat_lt, Some, None, is_some, Ok, refl, ap, ap₂, sym, ◌∙◌, subst, arith}
use Rattle.std.proofs.lemmas.Bool.{and_from, lt-ltb, le-leb, ltb-true, eq-eqb, eqb-true, false≢true}
use Rattle.std.proofs.lemmas.List.{length-map, get_or-map}
use Rattle.std.specs.List.{range_with_len}
use Rattle.word_states.specs.Atom.{Atom}
use Rattle.word_states.specs.Classes.{characters, class_of, class_count}
use Rattle.word_states.specs.WordState.{have_same_state}
use Rattle.word_states.specs.Rows.{AreRows}
use Rattle.word_laws.proofs.States.{same_laws}
use Rattle.positions.specs.Position.{Position}
use Rattle.goals.specs.Signed.{Signed}
use Rattle.list_laws.specs.In.{IsIn}
use Rattle.list_laws.proofs.Tests.{from_filter, from_range, every-range}
use Rattle.list_laws.proofs.Lists.{in_filter}
use Rattle.cells.specs.Cells.{Cells, naming, vector, place, cells}
use Rattle.cell_laws.specs.Counting.{sum_to, asked_by}
use Rattle.cell_laws.proofs.Groups.{width}
use Rattle.cell_laws.proofs.Classes.{asked_widths, asked_by_like}
use Rattle.cell_laws.proofs.Widths.{width_is}
use Rattle.cell_laws.proofs.Rows.{target_in, leads_on, first_row, row_reached}
use Rattle.cell_laws.proofs.Labels as N
use Rattle.cell_laws.proofs.Characters.{scalars, different, whole}
use Rattle.alternatives.specs.Limit.{most_states, most_words}
use Rattle.frames.specs.Frame.{Frame}
use Rattle.frames.specs.ObjectFrame as O
use Rattle.frames.specs.ObjectFrame.{object_frame}
use Rattle.finders.specs.WordsFound.{far}
use Rattle.finders.specs.Names.{atoms_of_names}
use Rattle.certificate_lines.specs.Line as C
use Rattle.certificate_lines.specs.Line.{Line}
use Rattle.verdicts.specs.Rules.{wrong_bound}
use Rattle.verdicts.specs.RowLines.{Table, and_then, if_so, stated}
use Rattle.verdicts.specs.Bounds.{Bound, bounds_of, width_of, has_row, keeps, is_right}
use Rattle.verdicts.specs.Leaves.{comes_after, stated_frame}
use Rattle.verdicts.specs.Duties.{Duty, OfBounds, OfObjects, plan_duty, next_bounds, after, run}
use Rattle.refutations.specs.ObjectLines.{capped, label_of, cap_line}
use Rattle.refutation_laws.proofs.Rows.{whole_table}
use Rattle.refutation_laws.proofs.Strings.{some_rows, stated_is}
use Rattle.list_laws.proofs.Numbers.{suc-sub_one, min-right}
use Rattle.std.proofs.Math.Numerals.{suc-eq-add-one}
use Rattle.word_laws.proofs.RowLaws.{row_zero}
use Rattle.finder_laws.proofs.Names.{vector_same}

sums_same : (n : ℕ) (f g : ℕ → ℕ) → ((k : ℕ) → f k ≡ g k) → sum_to n f ≡ sum_to n g
sums_same zero f g h = refl
sums_same (suc n) f g h = ap₂ (λ a b. a + b) (h n) (sums_same n f g h)

module _ (T : List Position) (S : List Signed) (L : List (List ℕ)) (rows : AreRows (atoms_of_names T S) L)
    (few : length L ≤ most_states) where
  abbrev atoms : List Atom
  atoms = atoms_of_names T S

  abbrev pub Found : Cells
  Found = cells characters far most_words T S L

  abbrev pub labels : ℕ → List ℕ
  labels c = map (label_of T Found c) L

  abbrev Stated : Table (List ℕ)
  Stated = whole_table (atoms_of_names T S) L rows

  -- a word is in the cell
  abbrev is_in : ℕ → List ℕ → Bool
  is_in c w = nat_eq (place (vector T (naming T S) w) Found.vectors) c

  is_in_shared : (c : ℕ) (v w : List ℕ) → have_same_state (atoms_of_names T S) v w ≡ true → is_in c v ≡ is_in c w
  is_in_shared c v w e = ap (λ z. nat_eq (place z Found.vectors) c) (vector_same T S v w e)

  enough : length L * most_words ≤ far
  unfolding far
  enough = product (length L) most_states most_words few where
    product : (a b c : ℕ) → a ≤ b → a * c ≤ b * c
    product a b c l = grind (arith, l)

  abbrev label : ℕ → ℕ → ℕ
  label c r = get_or (labels c) r 0

  abbrev widths : ℕ → ℕ
  widths k = width (class_of (atoms_of_names T S)) characters k

  -- the number of words from a row by recursion
  abbrev printed : ℕ → ℕ → ℕ
  printed c r = N.printed (atoms_of_names T S) L (target_in (atoms_of_names T S) L)
      (leads_on (atoms_of_names T S) L rows) (is_in c) (is_in_shared c) characters (different 0x110000)
      (scalars 0x110000) whole most_words far enough r

  label_at : (c r : ℕ) → r < length L → label c r ≡ printed c r
  label_at c r l =
      get_or-map (label_of T Found c) L r [] 0 l
      ∙ sym (N.number_by_is (atoms_of_names T S) L (target_in (atoms_of_names T S) L)
      (leads_on (atoms_of_names T S) L rows) (is_in c) (is_in_shared c) characters (different 0x110000)
      (scalars 0x110000) whole r (get_or L r []) (l, (same_laws (atoms_of_names T S)).refl (get_or L r [])) most_words
      far)

  -- the first label counts the words of the cell
  pub first_label : (c : ℕ) → label c 0 ≡ min most_words (length (Found.words c))
  first_label c =
      get_or-map (label_of T Found c) L 0 [] 0 (some_rows (atoms_of_names T S) L rows)
      ∙ ap (label_of T Found c) (row_zero (atoms_of_names T S) L rows)

  module _ (c : ℕ) (low : length (Found.words c) < most_words) where
    asked_equal : (r : ℕ) → r < length L
        → asked_by (class_count (atoms_of_names T S)) (width_of (atoms_of_names T S)) (stated Stated)
        (has_row T (atoms_of_names T S) L (stated Stated) Found c) (label c) r ≡ label c r
    asked_equal r l =
        ap (λ z. cond (has_row T (atoms_of_names T S) L (stated Stated) Found c r) 1 0 + z)
        (sums_same (class_count (atoms_of_names T S))
        (λ k. width_of (atoms_of_names T S) k * label c (stated Stated r k))
        (λ k. width_of (atoms_of_names T S) k * label c (target_in (atoms_of_names T S) L r k))
        (λ k. ap (λ z. width_of (atoms_of_names T S) k * label c z) (stated_is (atoms_of_names T S) L rows r k l)))
        ∙ asked_by_like (length L) (class_count (atoms_of_names T S)) (width_of (atoms_of_names T S))
        (target_in (atoms_of_names T S) L) (λ r. is_in c (get_or L r []))
        (λ q k m j. (leads_on (atoms_of_names T S) L rows q k m j).0) (label c) (printed c) (label_at c) r l
        ∙ sym (asked_widths (class_count (atoms_of_names T S)) widths (width_of (atoms_of_names T S))
        (target_in (atoms_of_names T S) L) (λ r. is_in c (get_or L r [])) (λ r. is_in c (get_or L r [])) (printed c)
        (λ j i. width_is (atoms_of_names T S) j i) (λ r. refl) r)
        ∙ N.printed_equal (atoms_of_names T S) L (target_in (atoms_of_names T S) L)
        (leads_on (atoms_of_names T S) L rows) (is_in c) (is_in_shared c) characters (different 0x110000)
        (scalars 0x110000) whole most_words far enough 0 (first_row (atoms_of_names T S) L rows)
        (row_reached (atoms_of_names T S) L rows) low r l
        ∙ sym (label_at c r l)

    pub labels_right : is_right T (atoms_of_names T S) L (stated Stated) Found (c, labels c) ≡ true
    labels_right =
        and_from (nat_eq (length (labels c)) (length L)) _
        (eq-eqb (length (labels c)) (length L) (length-map L (label_of T Found c)))
        (every-range (keeps T (atoms_of_names T S) L (stated Stated) Found c (labels c)) (length L) (λ r l.
        le-leb (asked_by (class_count (atoms_of_names T S)) (width_of (atoms_of_names T S)) (stated Stated)
        (has_row T (atoms_of_names T S) L (stated Stated) Found c) (label c) r) (label c r)
        (let e = asked_equal r l in omega (arith, e))))

  -- the bounds of all cells, one after another

  -- the bounds that are stated, the last one first
  abbrev pub stack : List ℕ → List Bound → List Bound
  stack [] bs = bs
  stack (c ∷ cs) bs = stack cs ((c, labels c) ∷ bs)

  abbrev pub RisesFrom : ℕ → List ℕ → Type 0
  RisesFrom m [] = Unit {0}
  RisesFrom m (c ∷ cs) = (m ≤ c) × RisesFrom (suc c) cs

  abbrev IsUnder : ℕ → List Bound → Type 0
  IsUnder m [] = Unit {0}
  IsUnder m (b ∷ bs) = b.0 < m

  abbrev IsGood : ℕ → Type 0
  IsGood c = (c < length Found.vectors) × (length (Found.words c) < most_words)

  under_after : (m c : ℕ) (bs : List Bound) → IsUnder m bs → m ≤ c → comes_after bs c ≡ true
  under_after m c [] u l = refl
  under_after m c (b ∷ bs) u l = lt-ltb b.0 c (omega (arith, u, l))

  bound_done : (c n m : ℕ) (bs : List Bound) (cite : ℕ → List Signed → Bool) → IsGood c → IsUnder m bs → m ≤ c
      → after T cite (OfBounds S Stated (suc n) bs) (C.Cap c (labels c))
      ≡ Ok (next_bounds T S Stated n ((c, labels c) ∷ bs) ∷ [])
  bound_done c n m bs cite (v, w) u l =
      ap (λ b. if_so wrong_bound b (next_bounds T S Stated (suc n - 1) ((c, labels c) ∷ bs) ∷ []))
      (and_from (nat_lt c (length Found.vectors)) _ (lt-ltb c (length Found.vectors) v)
      (and_from (comes_after bs c) _ (under_after m c bs u l) (labels_right c w)))
      ∙ ap (λ k. Ok (next_bounds T S Stated k ((c, labels c) ∷ bs) ∷ [])) (suc-sub_one n)

  pub bounds_done : (cite : ℕ → List Signed → Bool) (m : ℕ) (cs : List ℕ) (bs : List Bound) → RisesFrom m cs
      → IsUnder m bs
      → ((c : ℕ) → IsIn c cs → IsGood c) → (ds : List Duty) (ms : List Line)
      → run T cite (next_bounds T S Stated (length cs) bs ∷ ds) (map (cap_line T Found L) cs ++ ms)
      ≡ run T cite (plan_duty OfObjects (stated_frame T S Stated (stack cs bs)) ∷ ds) ms
  bounds_done cite m [] bs r u h ds ms = refl
  bounds_done cite m (c ∷ cs) bs (l, r) u h ds ms =
      ap (λ x. and_then (λ es. run T cite (es ++ ds) (map (cap_line T Found L) cs ++ ms)) x)
      (bound_done c (length cs) m bs cite (h c (inl refl)) u l)
      ∙ bounds_done cite (suc c) cs ((c, labels c) ∷ bs) r (omega arith) (λ d i. h d (inr i)) ds ms

  -- what the stated bounds say

  stack_has : (cs : List ℕ) (bs : List Bound) (c : ℕ) → (bounds_of bs c ≡ Some (label c 0)) ⊎ IsIn c cs
      → bounds_of (stack cs bs) c ≡ Some (label c 0)
  stack_has [] bs c (inl e) = e
  stack_has [] bs c (inr i) = absurd i
  stack_has (d ∷ cs) bs c h = stack_has cs ((d, labels d) ∷ bs) c (go (nat_eq d c) refl h) where
    go : (b : Bool) → nat_eq d c ≡ b → (bounds_of bs c ≡ Some (label c 0)) ⊎ IsIn c (d ∷ cs)
        → (cond b (Some (label d 0)) (bounds_of bs c) ≡ Some (label c 0)) ⊎ IsIn c cs
    go true e h = inl (ap (λ z. Some (label z 0)) (eqb-true d c e))
    go false e (inl q) = inl q
    go false e (inr (inl q)) = absurd (differ (eq-eqb d c (sym q)) e) where
      differ : nat_eq d c ≡ true → nat_eq d c ≡ false → ⊥
      differ x y = cc
    go false e (inr (inr i)) = inr i

  stack_lacks : (cs : List ℕ) (bs : List Bound) (c : ℕ) → bounds_of bs c ≡ None → (IsIn c cs → ⊥)
      → bounds_of (stack cs bs) c ≡ None
  stack_lacks [] bs c e h = e
  stack_lacks (d ∷ cs) bs c e h =
      stack_lacks cs ((d, labels d) ∷ bs) c (go (nat_eq d c) refl) (λ i. h (inr i)) where
        go : (b : Bool) → nat_eq d c ≡ b → cond b (Some (label d 0)) (bounds_of bs c) ≡ None
        go true q = absurd (h (inl (sym (eqb-true d c q))))
        go false q = e

  -- cells of the frame, in order

  rises_range : (a n : ℕ) → RisesFrom a (range_with_len a n)
  rises_range a zero = tt
  rises_range a (suc n) =
      (omega arith, subst (λ b. RisesFrom (suc a) (range_with_len b n)) (suc-eq-add-one a) (rises_range (suc a) n))

  rises_more : (m n : ℕ) (cs : List ℕ) → m ≤ n → RisesFrom n cs → RisesFrom m cs
  rises_more m n [] l r = tt
  rises_more m n (c ∷ cs) l (k, r) = (omega (arith, l, k), r)

  rises_filter : (p : ℕ → Bool) (m : ℕ) (cs : List ℕ) → RisesFrom m cs → RisesFrom m (filter p cs)
  rises_filter p m [] r = tt
  rises_filter p m (c ∷ cs) (l, r) = go (p c) (rises_filter p (suc c) cs r) where
    go : (b : Bool) → RisesFrom (suc c) (filter p cs) → RisesFrom m (cond b (c ∷ filter p cs) (filter p cs))
    go true h = (l, h)
    go false h = rises_more m (suc c) (filter p cs) (omega (arith, l)) h

  abbrev pub Own : Frame
  Own = object_frame T Found S

  pub capped_rise : RisesFrom 0 (capped Own)
  capped_rise =
      rises_filter (λ c. is_some (Own.cap c)) 0 Own.cells
      (rises_filter (O.is_allowed T Found S) 0 (range_with_len 0 (length Found.vectors))
      (rises_range 0 (length Found.vectors)))

  uncut : (c : ℕ) → is_some (Own.cap c) ≡ true → length (Found.words c) < most_words
  uncut c e = go (nat_lt (length (Found.words c)) most_words) refl e where
    go : (b : Bool) → nat_lt (length (Found.words c)) most_words ≡ b
        → is_some (cond b (Some (length (Found.words c))) None) ≡ true
        → length (Found.words c) < most_words
    go true p e = ltb-true (length (Found.words c)) most_words p
    go false p e = cc e

  pub capped_good : (c : ℕ) → IsIn c (capped Own) → IsGood c
  capped_good c i =
      let (a, e) = from_filter (λ c. is_some (Own.cap c)) c Own.cells i in
      let (b, f) = from_filter (O.is_allowed T Found S) c (range_with_len 0 (length Found.vectors)) a in
      (from_range (length Found.vectors) c b, uncut c e)

  pub bounds_agree : (c : ℕ) → IsIn c Own.cells → bounds_of (stack (capped Own) []) c ≡ Own.cap c
  bounds_agree c i = go (nat_lt (length (Found.words c)) most_words) refl where
    some_in : is_some (Own.cap c) ≡ true → IsIn c (capped Own)
    some_in e = in_filter (λ c. is_some (Own.cap c)) c Own.cells i e

    go : (b : Bool) → nat_lt (length (Found.words c)) most_words ≡ b
        → bounds_of (stack (capped Own) []) c ≡ cond b (Some (length (Found.words c))) None
    go true e =
        stack_has (capped Own) [] c
        (inr (some_in (ap (λ b. is_some (cond b (Some (length (Found.words c))) None)) e)))
        ∙ ap Some (first_label c ∙ min-right most_words (length (Found.words c))
        (ltb-true (length (Found.words c)) most_words e))
    go false e =
        stack_lacks (capped Own) [] c refl (λ j.
        let (a, s) = from_filter (λ c. is_some (Own.cap c)) c Own.cells j in
        false≢true (ap (λ b. is_some (cond b (Some (length (Found.words c))) None)) (sym e) ∙ s))
