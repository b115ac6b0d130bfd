-- The lines of the rows of an automaton do the duty of rows: after some of them, the words that were mentioned are
-- those which these rows mention.
use Rattle.std.proofs.Common.{◌≡◌, ℕ, suc, ◌+◌, ◌<◌, List, [], ◌∷◌, ◌++◌, Bool, true, false, ◌&&◌, ◌||◌, not, cond, if◌then◌else◌, get_or, map, length, nat_eq, nat_lt, Ok, Err, refl, ap, ap₂, sym, ◌∙◌, append_assoc, length-append, arith}
use Rattle.std.specs.Cmp.{IsEquivalence}
use Rattle.std.specs.List.{list_any, position_or_len}
use Rattle.std.proofs.lemmas.Bool.{and_from, lt-ltb, le-ltb, eq-eqb}
use Rattle.std.proofs.lemmas.List.{length-map, map_push}
use Rattle.std.proofs.Math.Seq.{get_or-append_seam}
use Rattle.positions.specs.Position.{Position}
use Rattle.goals.specs.Signed.{Signed}
use Rattle.word_states.specs.Atom.{Atom}
use Rattle.word_states.specs.Classes.{class_firsts}
use Rattle.word_states.specs.Mention.{mention, mention_all}
use Rattle.word_states.specs.WordState.{have_same_state}
use Rattle.word_states.specs.Rows.{AreRows, row_of, targets_of}
use Rattle.word_laws.proofs.Mentions as M
use Rattle.word_laws.proofs.Rows as R
use Rattle.word_laws.proofs.RowLaws as W
use Rattle.word_laws.proofs.Places.{place_below, place_same}
use Rattle.word_laws.proofs.States.{same_laws}
use Rattle.list_laws.specs.In.{IsIn}
use Rattle.certificate_lines.specs.Line as C
use Rattle.certificate_lines.specs.Line.{Line}
use Rattle.verdicts.specs.Rules.{no_row, wrong_target}
use Rattle.verdicts.specs.RowLines.{Table, table, and_then, if_so, target, targets, row, begin_table, extend, row_taken}
use Rattle.verdicts.specs.Duties.{Duty, Purpose, OfRows, atoms_for, after_rows, next_rows, after, run}
use Rattle.refutations.specs.StatedRows.{row_lines}
use Rattle.list_laws.proofs.Numbers.{lt-nat_eq}
use Rattle.finder_laws.proofs.Grow.{mentioned_more}

-- the place in a longer list of what a beginning has is its place there
place_left : {A : Type 0} (same : A → A → Bool) (x : A) (L X : List A) → list_any (same x) L ≡ true
    → position_or_len (same x) (L ++ X) ≡ position_or_len (same x) L
place_left same x [] X h = cc h
place_left same x (y ∷ L) X h = go (same x y) h (place_left same x L X) where
  go : (b : Bool) → (b || list_any (same x) L) ≡ true
      → (list_any (same x) L ≡ true → position_or_len (same x) (L ++ X) ≡ position_or_len (same x) L)
      → cond (not b) (1 + position_or_len (same x) (L ++ X)) 0 ≡ cond (not b) (1 + position_or_len (same x) L) 0
  go true h more = refl
  go false h more = ap (λ z. 1 + z) (more h)

-- a word that the list hasn't comes behind it
place_next : {A : Type 0} (same : A → A → Bool) (laws : IsEquivalence same) (x : A) (L X : List A)
    → list_any (same x) L ≡ false → position_or_len (same x) (L ++ x ∷ X) ≡ length L
place_next same laws x [] X h = ap (λ b. cond (not b) (1 + position_or_len (same x) X) 0) (laws.refl x)
place_next same laws x (y ∷ L) X h = go (same x y) h (place_next same laws x L X) where
  go : (b : Bool) → (b || list_any (same x) L) ≡ false
      → (list_any (same x) L ≡ false → position_or_len (same x) (L ++ x ∷ X) ≡ length L)
      → cond (not b) (1 + position_or_len (same x) (L ++ x ∷ X)) 0 ≡ suc (length L)
  go true h more = cc h
  go false h more = let q = more h in omega (arith, q)

module _ {A : Type 0} (same : A → A → Bool) (laws : IsEquivalence same) (extend : A → List A) (start : A)
    (size : A → ℕ) (larger : (x y : A) → IsIn y (extend x) → size x < size y)
    (follows : (x y z : A) → same x y ≡ true → IsIn z (extend x)
    → (u : A) × IsIn u (extend y) × (same z u ≡ true)) where
  -- the target of an element is right, and the words go on as it is mentioned
  target_right : (L ws Z : List A) (y : A) → L ≡ mention same ws y ++ Z
      → target same extend start (length L) ws y (position_or_len (same y) L) ≡ Ok (mention same ws y)
  target_right L ws Z y e = go (list_any (same y) ws) refl e where
    go : (b : Bool) → list_any (same y) ws ≡ b → L ≡ (if b then ws else ws ++ y ∷ []) ++ Z
        → target same extend start (length L) ws y (position_or_len (same y) L)
        ≡ Ok (if b then ws else ws ++ y ∷ [])
    go true h e =
        let p : position_or_len (same y) L ≡ position_or_len (same y) ws =
        ap (position_or_len (same y)) e ∙ place_left same y ws Z h in
        let l = place_below same laws y ws h in
        let s = place_same same laws y start ws h in
        ap (target same extend start (length L) ws y) p
        ∙ ap (λ b. cond b (if_so wrong_target (same y (get_or ws (position_or_len (same y) ws) start)) ws)
        (if_so wrong_target
        (nat_eq (position_or_len (same y) ws) (length ws) && nat_lt (position_or_len (same y) ws) (length L))
        (ws ++ y ∷ []))) (lt-ltb (position_or_len (same y) ws) (length ws) l)
        ∙ ap (λ b. if_so wrong_target b ws) s
    go false h e =
        let f : L ≡ ws ++ y ∷ Z = e ∙ append_assoc ws (y ∷ []) Z in
        let p : position_or_len (same y) L ≡ length ws =
        ap (position_or_len (same y)) f ∙ place_next same laws y ws Z h in
        let n : length L ≡ length ws + length (y ∷ Z) = ap length f ∙ length-append ws (y ∷ Z) in
        ap (target same extend start (length L) ws y) p
        ∙ ap (λ b. cond b (if_so wrong_target (same y (get_or ws (length ws) start)) ws)
        (if_so wrong_target (nat_eq (length ws) (length ws) && nat_lt (length ws) (length L)) (ws ++ y ∷ [])))
        (le-ltb (length ws) (length ws) (omega arith))
        ∙ ap (λ b. if_so wrong_target b (ws ++ y ∷ []))
        (and_from (nat_eq (length ws) (length ws)) (nat_lt (length ws) (length L))
        (eq-eqb (length ws) (length ws) refl) (lt-ltb (length ws) (length L) (omega (arith, n))))

  targets_right : (L ws Z xs : List A) → L ≡ mention_all same ws xs ++ Z
      → targets same extend start (length L) ws xs (map (λ y. position_or_len (same y) L) xs)
      ≡ Ok (mention_all same ws xs)
  targets_right L ws Z [] e = refl
  targets_right L ws Z (y ∷ xs) e =
      let (X, p) = M.mentions_grow same laws (mention same ws y) xs in
      let f : L ≡ mention same ws y ++ (X ++ Z) = e ∙ ap (λ z. z ++ Z) p ∙ append_assoc (mention same ws y) X Z in
      ap (and_then (λ us. targets same extend start (length L) us xs (map (λ y. position_or_len (same y) L) xs)))
      (target_right L ws (X ++ Z) y f)
      ∙ targets_right L (mention same ws y) Z xs e

  module _ (L : List A) (rows : L ≡ R.mentioned same laws extend start L) where
    abbrev targets_in : A → List ℕ
    targets_in x = map (λ y. position_or_len (same y) L) (extend x)

    -- the table after some rows
    abbrev table_after : List A → Table A
    table_after K = table (R.mentioned same laws extend start K) (map targets_in K)

    row_right : (K X : List A) (x : A) → L ≡ K ++ x ∷ X
        → row same extend start (length L) (table_after K) (targets_in x) ≡ Ok (table_after (K ++ x ∷ []))
    row_right K X x e =
        let (Y, p) = R.next same laws extend start size larger follows L rows K X x e in
        let (Z, q) = R.begins same laws extend start (K ++ x ∷ []) X in
        let Mentioned : List A → List A = λ z. R.mentioned same laws extend start z in
        let whole : L ≡ mention_all same (Mentioned K) (extend x) ++ Z =
        rows ∙ ap (λ z. Mentioned z) (e ∙ sym (append_assoc K (x ∷ []) X)) ∙ q
        ∙ ap (λ z. z ++ Z) (mentioned_more same laws extend start K x) in
        let n : length (map targets_in K) ≡ length K = length-map K targets_in in
        let here : get_or (Mentioned K) (length (map targets_in K)) start ≡ x =
        ap₂ (λ ws n. get_or ws n start) p n ∙ get_or-append_seam K x Y start in
        let m : length (Mentioned K) ≡ length K + length (x ∷ Y) = ap length p ∙ length-append K (x ∷ Y) in
        let t : nat_lt (length (map targets_in K)) (length (Mentioned K)) ≡ true =
        lt-ltb (length (map targets_in K)) (length (Mentioned K)) (omega (arith, n, m)) in
        ap (λ b. cond
        (b && nat_eq (length (targets_in x)) (length (extend (get_or (Mentioned K) (length (map targets_in K)) start))))
        (and_then (λ ws. Ok (table ws (map targets_in K ++ targets_in x ∷ [])))
        (targets same extend start (length L) (Mentioned K)
        (extend (get_or (Mentioned K) (length (map targets_in K)) start)) (targets_in x)))
        (Err no_row)) t
        ∙ ap (λ y. cond (nat_eq (length (targets_in x)) (length (extend y)))
        (and_then (λ ws. Ok (table ws (map targets_in K ++ targets_in x ∷ [])))
        (targets same extend start (length L) (Mentioned K) (extend y) (targets_in x)))
        (Err no_row)) here
        ∙ ap (λ b. cond b
        (and_then (λ ws. Ok (table ws (map targets_in K ++ targets_in x ∷ [])))
        (targets same extend start (length L) (Mentioned K) (extend x) (targets_in x)))
        (Err no_row))
        (eq-eqb (length (targets_in x)) (length (extend x)) (length-map (extend x) (λ y. position_or_len (same y) L)))
        ∙ ap (and_then (λ ws. Ok (table ws (map targets_in K ++ targets_in x ∷ []))))
        (targets_right L (Mentioned K) Z (extend x) whole)
        ∙ ap₂ (λ ws ts. Ok (table ws ts)) (sym (mentioned_more same laws extend start K x))
        (sym (map_push targets_in K x))

-- of atoms

module _ (atoms : List Atom) (L : List (List ℕ)) (rows : AreRows atoms L) where
  abbrev table_of : List (List ℕ) → Table (List ℕ)
  table_of K = table_after (have_same_state atoms) (same_laws atoms) (extend atoms) [] (λ w. length w) (W.longer atoms)
      (W.follows atoms) L rows K

  abbrev targets_by : List ℕ → List ℕ
  targets_by w = targets_in (have_same_state atoms) (same_laws atoms) (extend atoms) [] (λ w. length w)
      (W.longer atoms) (W.follows atoms) L rows w

  pub targets_same : (w : List ℕ) → targets_by w ≡ targets_of atoms L w
  targets_same w = go (class_firsts atoms) where
    go : (cs : List ℕ)
        → map (λ y. position_or_len (have_same_state atoms y) L) (map (λ c. w ++ c ∷ []) cs)
        ≡ map (λ c. row_of atoms L (w ++ c ∷ [])) cs
    go [] = refl
    go (c ∷ cs) = ap (λ z. row_of atoms L (w ++ c ∷ []) ∷ z) (go cs)

  all_same : (K : List (List ℕ)) → map targets_by K ≡ map (targets_of atoms L) K
  all_same [] = refl
  all_same (w ∷ K) = ap₂ (λ x xs. x ∷ xs) (targets_same w) (all_same K)

  -- the table of all rows
  abbrev pub whole_table : Table (List ℕ)
  whole_table = table L (map (targets_of atoms L) L)

  whole_is : table_of L ≡ whole_table
  whole_is = ap₂ (λ ws ts. table ws ts) (sym rows) (all_same L)

module _ (T : List Position) (cite : ℕ → List Signed → Bool) (u : Purpose) (S : List Signed) (L : List (List ℕ))
    (rows : AreRows (atoms_for T u S) L) where
  abbrev Of : Table (List ℕ) → Duty
  Of t = OfRows u S (length L) t

  abbrev row_lines_of : List (List ℕ) → List Line
  row_lines_of X = map (λ w. C.Row (targets_of (atoms_for T u S) L w)) X

  -- after a row comes the next one, or what comes after all of them
  row_does : (K X : List (List ℕ)) (x : List ℕ) → L ≡ K ++ x ∷ X
      → after T cite (Of (table_of (atoms_for T u S) L rows K)) (C.Row (targets_of (atoms_for T u S) L x))
      ≡ Ok (next_rows T u S (length L) (table_of (atoms_for T u S) L rows (K ++ x ∷ [])) ∷ [])
  row_does K X x e =
      ap (λ r. and_then (λ v. Ok (next_rows T u S (length L) v ∷ [])) r)
      (ap (λ ts. row_taken (atoms_for T u S) (length L) (table_of (atoms_for T u S) L rows K) ts)
      (sym (targets_same (atoms_for T u S) L rows x))
      ∙ row_right (have_same_state (atoms_for T u S)) (same_laws (atoms_for T u S)) (extend (atoms_for T u S)) []
      (λ w. length w) (W.longer (atoms_for T u S)) (W.follows (atoms_for T u S)) L rows K X x e)

  counted : (K : List (List ℕ)) (x : List ℕ)
      → length (table_of (atoms_for T u S) L rows (K ++ x ∷ [])).targets ≡ suc (length K)
  counted K x =
      let n : length (map (targets_by (atoms_for T u S) L rows) (K ++ x ∷ [])) ≡ length (K ++ x ∷ []) =
      length-map (K ++ x ∷ []) (targets_by (atoms_for T u S) L rows) in
      let m : length (K ++ x ∷ []) ≡ length K + 1 = length-append K (x ∷ []) in
      omega (arith, n, m)

  rows_from : (K X : List (List ℕ)) (x : List ℕ) → L ≡ K ++ x ∷ X → (ds : List Duty) (ms : List Line)
      → run T cite (Of (table_of (atoms_for T u S) L rows K) ∷ ds)
      (row_lines_of (x ∷ X) ++ ms)
      ≡ run T cite (after_rows T u S (table_of (atoms_for T u S) L rows L) ∷ ds) ms
  rows_from K [] x e ds ms =
      ap (λ r. and_then (λ es. run T cite (es ++ ds) ms) r) (row_does K [] x e)
      ∙ ap (λ b. run T cite (cond b (after_rows T u S (table_of (atoms_for T u S) L rows (K ++ x ∷ [])))
      (Of (table_of (atoms_for T u S) L rows (K ++ x ∷ []))) ∷ ds) ms)
      (eq-eqb (length (table_of (atoms_for T u S) L rows (K ++ x ∷ [])).targets) (length L)
      (counted K x ∙ (let n : length L ≡ length K + 1 = ap length e ∙ length-append K (x ∷ []) in omega (arith, n))))
      ∙ ap (λ z. run T cite (after_rows T u S (table_of (atoms_for T u S) L rows z) ∷ ds) ms) (sym e)
  rows_from K (y ∷ X) x e ds ms =
      ap (λ r. and_then (λ es. run T cite (es ++ ds) (row_lines_of (y ∷ X) ++ ms)) r) (row_does K (y ∷ X) x e)
      ∙ ap (λ b. run T cite (cond b (after_rows T u S (table_of (atoms_for T u S) L rows (K ++ x ∷ [])))
      (Of (table_of (atoms_for T u S) L rows (K ++ x ∷ []))) ∷ ds) (row_lines_of (y ∷ X) ++ ms))
      (lt-nat_eq (length (table_of (atoms_for T u S) L rows (K ++ x ∷ [])).targets) (length L)
      (let c = counted K x in
      let n : length L ≡ length K + length (x ∷ y ∷ X) = ap length e ∙ length-append K (x ∷ y ∷ X) in
      omega (arith, n, c)))
      ∙ rows_from (K ++ x ∷ []) X y (e ∙ sym (append_assoc K (x ∷ []) (y ∷ X))) ds ms

  -- the lines of all rows leave what is to be shown once the table has all rows
  pub rows_done : (ds : List Duty) (ms : List Line)
      → run T cite (Of begin_table ∷ ds) (row_lines (atoms_for T u S) L ++ ms)
      ≡ run T cite (after_rows T u S (whole_table (atoms_for T u S) L rows) ∷ ds) ms
  rows_done ds ms = go L refl where
    go : (X : List (List ℕ)) → L ≡ X
        → run T cite (Of begin_table ∷ ds) (row_lines_of X ++ ms)
        ≡ run T cite (after_rows T u S (whole_table (atoms_for T u S) L rows) ∷ ds) ms
    go [] e = absurd (none (sym e ∙ rows)) where
      none : [] ≡ R.mentioned (have_same_state (atoms_for T u S)) (same_laws (atoms_for T u S))
          (extend (atoms_for T u S)) [] L → ⊥
      none q = cc
    go (x ∷ X) e =
        rows_from [] X x e ds ms
        ∙ ap (λ z. run T cite (after_rows T u S z ∷ ds) ms) (whole_is (atoms_for T u S) L rows)
