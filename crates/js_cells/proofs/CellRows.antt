-- Each cell is that of a row, and the word of the first such row is as long as the first name of the cell.
use Rattle.std.proofs.Common.{◌≡◌, ℕ, zero, suc, ◌<◌, ◌≤◌, inl, inr, ⊎_elim, Bool, true, false, cond, nat_eq, List, [], ◌∷◌, map, take, length, get_or, refl, ap, sym, ◌∙◌, subst, arith}
use Rattle.std.specs.List.{list_all, IsDistinct, AllByRecursion}
use Rattle.std.proofs.lemmas.Bool.{cases_lt}
use Rattle.patterns.specs.CharSet.{is_scalar}
use Rattle.list_laws.specs.In.{IsIn}
use Rattle.list_laws.proofs.Lists.{get_or-in, from_take, from_map, in-get_or}
use Rattle.word_states.specs.Atom.{Atom}
use Rattle.word_states.specs.Classes.{characters}
use Rattle.word_states.specs.Rows.{AreRows, row_of}
use Rattle.word_states.specs.WordState.{have_same_state}
use Rattle.word_laws.proofs.Mentions as M
use Rattle.word_laws.proofs.RowLaws.{rows_words}
use Rattle.positions.specs.Position.{Position}
use Rattle.goals.specs.Signed.{Signed}
use Rattle.cells.specs.Cells.{naming, vector, same_vector, place, vector_at, vectors_of, cell_of}
use Rattle.cell_laws.specs.RightCells.{IsOf}
use Rattle.cell_laws.proofs.FirstWords.{first_shortest}
use Rattle.cell_laws.proofs.Characters as C
use Rattle.cell_laws.proofs.Rows.{target_in, leads_on, row_is, first_row}
use Rattle.alternatives.specs.Limit.{most_states}
use Rattle.finders.specs.WordsFound.{far}
use Rattle.finder_laws.proofs.Strings.{states_far, scalars_same}
use Rattle.js_cells.proofs.RowLengths.{later_longer, row_shortest}
use Rattle.js_said.proofs.Vectors.{same_laws}
use Rattle.js_cells.proofs.KeptCells.{kept, ends, ends_are}
use Rattle.list_laws.proofs.Numbers.{nat_eq-refl}

-- the number of each vector is its place

in_vectors : (c : ℕ) (vs : List (List Bool)) → c < length vs → IsIn (vector_at vs c) vs
in_vectors c [] l = absurd (omega (arith, l))
in_vectors zero (v ∷ vs) l = inl refl
in_vectors (suc c) (v ∷ vs) l = inr (in_vectors c vs (omega (arith, l)))

apart : (v u : List Bool) (us : List (List Bool)) → AllByRecursion (λ z. same_vector v z ≡ false) us → IsIn u us
    → same_vector v u ≡ false
apart v u [] a i = absurd i
apart v u (w ∷ us) a (inl e) = subst (λ z. same_vector v z ≡ false) (sym e) a.0
apart v u (w ∷ us) a (inr i) = apart v u us a.1 i

place_of : (c : ℕ) (vs : List (List Bool)) → IsDistinct same_vector vs → c < length vs → place (vector_at vs c) vs ≡ c
unfolding IsDistinct
place_of c [] d l = absurd (omega (arith, l))
place_of zero (v ∷ vs) d l = ap (λ b. cond b 0 (suc (place v vs))) (same_laws.refl v)
place_of (suc c) (v ∷ vs) d l =
    let m : c < length vs = omega (arith, l) in
    let u = vector_at vs c in
    ap (λ b. cond b 0 (suc (place u vs))) (same_laws.symm u v ∙ apart v u vs d.0 (in_vectors c vs m))
    ∙ ap suc (place_of c vs d.1 m)

module _ (T : List Position) (xs : List Signed) (L : List (List ℕ)) where
  pub cell_row : (c : ℕ) → c < length (vectors_of T xs L)
      → (r : ℕ) × (r < length L) × (place (vector T xs (get_or L r [])) (vectors_of T xs L) ≡ c)
  unfolding IsDistinct
  cell_row c l =
      let vs = vectors_of T xs L in
      ⊎_elim (λ i. absurd i)
      (λ i. let (w, j, e) = from_map (vector T xs) (vector_at vs c) L i in
      let (r, m, f) = in-get_or L w [] j in (
        r,
        m,
        ap (λ z. place (vector T xs z) vs) (sym f) ∙ ap (λ z. place z vs) (sym e)
            ∙ place_of c vs (M.mentions_distinct same_vector same_laws [] (map (vector T xs) L) tt) l,
      ))
      (M.mentions_only same_vector same_laws [] (map (vector T xs) L) (vector_at vs c) (in_vectors c vs l))

-- the first row of a cell

module _ (T : List Position) (S : List Signed) (atoms : List Atom) (L : List (List ℕ)) (rows : AreRows atoms L)
    (few : length L ≤ most_states)
    (same : (v w : List ℕ) → have_same_state atoms v w ≡ true
    → vector T (naming T S) v ≡ vector T (naming T S) w)
    (c r : ℕ) (within : r < length L) (here : cell_of T (kept T S atoms L rows few same) (get_or L r []) ≡ c)
    (none : (j : ℕ) → j < r → cell_of T (kept T S atoms L rows few same) (get_or L j []) ≡ c → ⊥) where
  -- no name of the cell is shorter than its word
  pub first_shorter : (w : List ℕ) → IsOf T (kept T S atoms L rows few same) c w → length (get_or L r []) ≤ length w
  first_shorter w (s, e) =
      let t = sym (scalars_same w) ∙ s in
      let i = row_is atoms L rows w t in
      let j = row_of atoms L w in
      let a = row_shortest atoms L rows w j t i in
      elim (cases_lt j r) [
        | inl l ↦ absurd (none j l
            (ap (λ z. place z (vectors_of T (naming T S) L)) (sym (same w (get_or L j []) i.1)) ∙ e))
        | inr l ↦ (let b = later_longer atoms L rows r j l i.0 in omega (arith, a, b))
      ]

  own : list_all is_scalar (get_or L r []) ≡ true
  own = rows_words atoms L rows (get_or L r []) (get_or-in L r [] within)

  -- the first name of the cell is as long as its first row's word
  pub first_long : map length (take 1 (ends T S atoms L rows few same c [])) ≡ length (get_or L r []) ∷ []
  first_long =
      let p : List ℕ → Bool = λ w. nat_eq (cell_of T (kept T S atoms L rows few same) w) c in
      let (v, one, l) =
      first_shortest atoms L (target_in atoms L) (leads_on atoms L rows) 0 (first_row atoms L rows) p
      (λ v w e. ap (λ z. nat_eq (place z (vectors_of T (naming T S) L)) c) (same v w e))
      characters (C.different 0x110000) (C.scalars 0x110000) C.whole far 1
      (let a = states_far in omega (arith, a, few)) C.rank (C.ordered 0x110000) (omega (arith)) (get_or L r []) own
      (ap (λ z. nat_eq z c) here ∙ nat_eq-refl c) in
      let is = (ends_are T S atoms L rows few same c [] 0 (first_row atoms L rows) refl).1 v
      (from_take 1 v (ends T S atoms L rows few same c []) (subst (λ z. IsIn v z) (sym one) (inl refl))) in
      let m = first_shorter v is in
      let q : length v ≡ length (get_or L r []) = omega (arith, l, m) in
      ap (map length) one ∙ ap (λ z. z ∷ []) q
