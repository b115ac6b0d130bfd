-- The rows of a list of atoms: there is one such list, every word leads to a row, and by classes from row to row.
use Rattle.std.proofs.Common.{◌≡◌, ℕ, ◌+◌, ◌<◌, ◌≤◌, inl, inr, List, [], ◌∷◌, ◌++◌, Bool, true, map, get_or, length, refl, ap, sym, ◌∙◌, subst, append-nil, append_assoc, length-append, arith}
use Rattle.std.specs.List.{list_any, list_all, IsDistinct}
use Rattle.std.proofs.lemmas.Bool.{and_parts, and_from}
use Rattle.patterns.specs.CharSet.{is_scalar}
use Rattle.word_states.specs.Atom.{Atom}
use Rattle.word_states.specs.Classes.{are_alike, dividers, class_firsts, class_of}
use Rattle.word_states.specs.WordState.{word_state, have_same_state}
use Rattle.word_states.specs.Rows.{AreRows, row_of, targets_of, signature_of, HaveStates, longer_by_one}
use Rattle.word_laws.specs.Laws.{RowsHaveAll, RowsGoOn}
use Rattle.word_laws.proofs.Mentions as M
use Rattle.word_laws.proofs.Rows as R
use Rattle.std.proofs.lemmas.List.{get_or-map}
use Rattle.list_laws.proofs.Lists.{from_map, in_map}
use Rattle.list_laws.specs.In.{IsIn}
use Rattle.word_laws.proofs.Places.{place_below, place_same, place_like}
use Rattle.word_laws.proofs.Classes.{alike_laws, firsts_scalar, firsts_have}
use Rattle.word_laws.proofs.States.{state_decides, same_laws}
use Rattle.word_laws.proofs.StateSteps.{state_next, state_truth}

pub all_end : (w : List ℕ) (c : ℕ) → list_all is_scalar w ≡ true → is_scalar c ≡ true
    → list_all is_scalar (w ++ c ∷ []) ≡ true
all_end [] c e f = and_from (is_scalar c) true f refl
all_end (d ∷ w) c e f =
    let (g, h) = and_parts (is_scalar d) (list_all is_scalar w) e in
    and_from (is_scalar d) (list_all is_scalar (w ++ c ∷ [])) g (all_end w c h f)

module _ (atoms : List Atom) where
  abbrev same : List ℕ → List ℕ → Bool
  same = have_same_state atoms

  abbrev pub extend : List ℕ → List (List ℕ)
  extend w = map (λ c. w ++ c ∷ []) (class_firsts atoms)

  pub longer : (v w : List ℕ) → IsIn w (extend v) → length v < length w
  longer v w i =
      let (c, j, e) = from_map (λ c. v ++ c ∷ []) w (class_firsts atoms) i in
      let l : length w ≡ length v + 1 = ap length e ∙ length-append v (c ∷ []) in
      omega (arith, l)

  pub same_next : (v w : List ℕ) (c d : ℕ) → same v w ≡ true → are_alike (dividers atoms) c d ≡ true
      → same (v ++ c ∷ []) (w ++ d ∷ []) ≡ true
  same_next v w c d e k =
      (state_decides (word_state atoms (v ++ c ∷ [])) (word_state atoms (w ++ d ∷ []))).1
      (state_next atoms v w c d ((state_decides (word_state atoms v) (word_state atoms w)).0 e) k)

  pub follows : (v w u : List ℕ) → same v w ≡ true → IsIn u (extend v)
      → (z : List ℕ) × IsIn z (extend w) × (same u z ≡ true)
  follows v w u e i =
      let (c, j, q) = from_map (λ c. v ++ c ∷ []) u (class_firsts atoms) i in (
        w ++ c ∷ [],
        in_map (λ c. w ++ c ∷ []) c (class_firsts atoms) j,
        subst (λ z. same z (w ++ c ∷ []) ≡ true) (sym q) (same_next v w c c e ((alike_laws (dividers atoms)).refl c)),
      )

  -- there is one list of rows
  pub rows_one : (L K : List (List ℕ)) → AreRows atoms L → AreRows atoms K → L ≡ K
  rows_one L K l k = R.rows_same same (same_laws atoms) extend [] (λ w. length w) longer follows L K l k

  module _ (L : List (List ℕ)) (rows : AreRows atoms L) where
    -- no two rows have one state
    pub rows_apart : IsDistinct same L
    rows_apart = R.rows_distinct same (same_laws atoms) extend [] L rows

    -- each row is a word
    pub rows_words : (w : List ℕ) → IsIn w L → list_all is_scalar w ≡ true
    rows_words = R.rows_each same (same_laws atoms) extend [] (λ w. length w) longer follows L rows
        (λ w. list_all is_scalar w ≡ true) refl more where
          more : (v w : List ℕ) → list_all is_scalar v ≡ true → IsIn w (extend v) → list_all is_scalar w ≡ true
          more v w e i =
              let (c, j, q) = from_map (λ c. v ++ c ∷ []) w (class_firsts atoms) i in
              subst (λ z. list_all is_scalar z ≡ true) (sym q) (all_end v c e (firsts_scalar atoms c j))

    -- where a word has a row, so has the word with one more character
    has_longer : (w : List ℕ) (c : ℕ) → list_any (same w) L ≡ true → is_scalar c ≡ true
        → list_any (same (w ++ c ∷ [])) L ≡ true
    has_longer w c h s =
        let (d, i, k) = M.in_has (are_alike (dividers atoms)) (alike_laws (dividers atoms)) c (class_firsts atoms)
        (firsts_have atoms c s) in
        M.has_same same (same_laws atoms) (w ++ c ∷ []) (w ++ d ∷ []) L
        (same_next w w c d ((same_laws atoms).refl w) k)
        (R.rows_next same (same_laws atoms) extend [] (λ w. length w) longer follows L rows w (w ++ d ∷ []) h
        (in_map (λ c. w ++ c ∷ []) d (class_firsts atoms) i))

    from_row : (v w : List ℕ) → list_any (same v) L ≡ true → list_all is_scalar w ≡ true
        → list_any (same (v ++ w)) L ≡ true
    from_row v [] h s = subst (λ z. list_any (same z) L ≡ true) (sym (append-nil v)) h
    from_row v (c ∷ w) h s =
        let (a, b) = and_parts (is_scalar c) (list_all is_scalar w) s in
        subst (λ z. list_any (same z) L ≡ true) (append_assoc v (c ∷ []) w)
        (from_row (v ++ c ∷ []) w (has_longer v c h a) b)

    -- every word has its state among the rows
    pub rows_all : (w : List ℕ) → list_all is_scalar w ≡ true → list_any (same w) L ≡ true
    rows_all w s =
        from_row [] w (R.rows_start same (same_laws atoms) extend [] (λ w. length w) longer follows L rows) s

    -- no more states are reached than there are rows
    pub rows_bound : (n : ℕ) → HaveStates atoms n → n ≤ length L
    rows_bound n (ws, e, s, d) = subst (λ z. z ≤ length L) e (M.fits same (same_laws atoms) ws L d has) where
      each : (ws : List (List ℕ)) (v : List ℕ) → list_all (list_all is_scalar) ws ≡ true → IsIn v ws
          → list_all is_scalar v ≡ true
      each [] v s i = absurd i
      each (w ∷ ws) v s (inl q) = subst (λ z. list_all is_scalar z ≡ true) (sym q)
          (and_parts (list_all is_scalar w) (list_all (list_all is_scalar) ws) s).0
      each (w ∷ ws) v s (inr i) = each ws v (and_parts (list_all is_scalar w) (list_all (list_all is_scalar) ws) s).1 i

      has : (w : List ℕ) → list_any (same w) ws ≡ true → list_any (same w) L ≡ true
      has w h =
          let (v, i, q) = M.in_has same (same_laws atoms) w ws h in
          M.has_same same (same_laws atoms) w v L q (rows_all v (each ws v s i))

    -- the row of a word
    pub row_below : (w : List ℕ) → list_all is_scalar w ≡ true → row_of atoms L w < length L
    row_below w s = place_below same (same_laws atoms) w L (rows_all w s)

    -- the row of a word has the word's truths
    pub row_truth : (w : List ℕ) → list_all is_scalar w ≡ true
        → signature_of atoms (get_or L (row_of atoms L w) []) ≡ signature_of atoms w
    row_truth w s =
        let r = get_or L (row_of atoms L w) [] in
        sym (state_truth atoms w r ((state_decides (word_state atoms w) (word_state atoms r)).0
        (place_same same (same_laws atoms) w [] L (rows_all w s))))

    -- and its target by a character's class is the row of the word with that character
    pub row_next : (w : List ℕ) (c : ℕ) → list_all is_scalar w ≡ true → is_scalar c ≡ true
        → get_or (targets_of atoms L (get_or L (row_of atoms L w) [])) (class_of atoms c) 0
        ≡ row_of atoms L (w ++ c ∷ [])
    row_next w c s k =
        let r = get_or L (row_of atoms L w) [] in
        let alike = are_alike (dividers atoms) in
        let laws = alike_laws (dividers atoms) in
        let f = get_or (class_firsts atoms) (class_of atoms c) 0 in
        let h : list_any (alike c) (class_firsts atoms) ≡ true = firsts_have atoms c k in
        let e : same (w ++ c ∷ []) (r ++ f ∷ []) ≡ true =
        same_next w r c f (place_same same (same_laws atoms) w [] L (rows_all w s))
        (place_same alike laws c 0 (class_firsts atoms) h) in
        get_or-map (λ c. row_of atoms L (r ++ c ∷ [])) (class_firsts atoms) (class_of atoms c) 0 0
        (place_below alike laws c (class_firsts atoms) h)
        ∙ sym (place_like same (same_laws atoms) (w ++ c ∷ []) (r ++ f ∷ []) L e)

-- each row is a word
rows_each_word : (atoms : List Atom) (L K : List (List ℕ)) → ((w : List ℕ) → IsIn w K → list_all is_scalar w ≡ true)
    → list_all (list_all is_scalar) K ≡ true
rows_each_word atoms L [] h = refl
rows_each_word atoms L (w ∷ K) h = and_from (list_all is_scalar w) (list_all (list_all is_scalar) K) (h w (inl refl))
    (rows_each_word atoms L K (λ v i. h v (inr i)))

pub rows_have : RowsHaveAll
rows_have atoms L rows = (
  (L, refl, rows_each_word atoms L L (rows_words atoms L rows), rows_apart atoms L rows),
  rows_bound atoms L rows,
  rows_all atoms L rows,
)

pub rows_go_on : RowsGoOn
rows_go_on atoms L rows w s =
    (row_below atoms L rows w s, row_truth atoms L rows w s, (λ c e. row_next atoms L rows w c s e))

-- row 0 is of the empty word
pub row_zero : (atoms : List Atom) (L : List (List ℕ)) → AreRows atoms L → get_or L 0 [] ≡ []
row_zero atoms L rows =
    let (X, e) = M.mentions_grow (have_same_state atoms) (same_laws atoms) ([] ∷ [])
    (longer_by_one (class_firsts atoms) L) in
    ap (λ z. get_or z 0 []) (rows ∙ e)
