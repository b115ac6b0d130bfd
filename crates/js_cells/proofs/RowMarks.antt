-- The rows of a cell are those of its names: a name is in the cell of the row to which it leads.
use Rattle.std.proofs.Common.{◌≡◌, ℕ, ◌<◌, Bool, true, false, min, nat_eq, List, [], ◌++◌, map, length, get_or, ap, sym, ◌∙◌, subst, arith}
use Rattle.std.specs.List.{list_all}
use Rattle.std.proofs.lemmas.List.{get_or-map, length-map, map-id}
use Rattle.std.proofs.lemmas.List.Folds.{list_all-append}
use Rattle.std.proofs.lemmas.Bool.{and_from}
use Rattle.patterns.specs.CharSet.{is_scalar}
use Rattle.list_laws.proofs.Lists.{get_or-in}
use Rattle.word_states.specs.Atom.{Atom}
use Rattle.word_states.specs.Rows.{AreRows, row_of}
use Rattle.word_states.specs.WordState.{have_same_state}
use Rattle.word_states.specs.Classes.{characters}
use Rattle.word_laws.proofs.RowLaws.{rows_words}
use Rattle.word_laws.proofs.Mentions as M
use Rattle.word_laws.proofs.States as W
use Rattle.positions.specs.Position.{Position}
use Rattle.goals.specs.Signed as G
use Rattle.goals.specs.Signed.{Signed, same_signed}
use Rattle.cells.specs.Cells.{says, vector, place, vector_at, told, vectors_of}
use Rattle.cells.specs.WordsInOrder.{shorter}
use Rattle.cell_laws.proofs.Rows.{row_is}
use Rattle.cell_laws.proofs.Listed.{filter_same}
use Rattle.cell_laws.proofs.WordsInOrderLaws.{shorter_is}
use Rattle.cell_laws.proofs.Characters as C
use Rattle.finders.specs.WordsFound.{far, words_found}
use Rattle.finder_laws.proofs.Strings.{scalars_same}
use Rattle.js_row_words.specs.RowWords.{is_marked, words_from}
use Rattle.js_said.proofs.RowVectors.{told_at, of_row, kept_at, mark_at}

-- marks of the rows of a cell

module _ (T : List Position) (xs : List Signed) (atoms : List Atom) (rows : List (List ℕ)) (are : AreRows atoms rows)
    (same : (v w : List ℕ) → have_same_state atoms v w ≡ true → vector T xs v ≡ vector T xs w)
    (places : List ℕ) (placed : places ≡ map (λ w. place (vector T xs w) (vectors_of T xs rows)) rows)
    (c : ℕ) (marks : List Bool) (marked : marks ≡ map (λ k. nat_eq k c) places) where
  abbrev in_cell : List ℕ → Bool
  in_cell w = nat_eq (place (vector T xs w) (vectors_of T xs rows)) c

  pub marks-length : length marks ≡ length rows
  marks-length =
      ap length marked ∙ length-map places (λ k. nat_eq k c)
      ∙ ap length placed ∙ length-map rows (λ w. place (vector T xs w) (vectors_of T xs rows))

  -- the row to which a word leads is marked where the word is in the cell
  marked_right : (w : List ℕ) → list_all is_scalar w ≡ true → is_marked atoms rows marks w ≡ in_cell w
  marked_right w s =
      let (l, e) = row_is atoms rows are w s in
      mark_at T xs rows places placed c marks marked (row_of atoms rows w) l
      ∙ ap (λ z. nat_eq (place z (vectors_of T xs rows)) c) (sym (same w (get_or rows (row_of atoms rows w) []) e))

  pub words_in : (r : ℕ) → r < length rows
      → words_from atoms rows marks r ≡ words_found characters far (λ w. in_cell (get_or rows r [] ++ w))
  words_in r l =
      let v = get_or rows r [] in
      filter_same (λ w. is_marked atoms rows marks (v ++ w)) (λ w. in_cell (v ++ w)) (shorter characters far) (λ w i.
      marked_right (v ++ w)
      (list_all-append is_scalar v w
      ∙ and_from (list_all is_scalar v) (list_all is_scalar w)
      (rows_words atoms rows are v (get_or-in rows r [] l))
      (sym (scalars_same w)
      ∙ (shorter_is characters (C.different 0x110000) (C.scalars 0x110000) far w i).1)))

  -- numbers of words that lead to marked rows, counted with equal atoms and rows
  pub numbers_in : (A : List Atom) (L : List (List ℕ)) (ns : List ℕ) → A ≡ atoms → L ≡ rows
      → ((r : ℕ) → r < length L → get_or ns r 0 ≡ min 65537 (length (words_from A L marks r)))
      → (r : ℕ) → r < length rows
      → get_or ns r 0 ≡ min 65537 (length (words_found characters far (λ w. in_cell (get_or rows r [] ++ w))))
  numbers_in A L ns e q h r l =
      let h' = subst (λ z. (r : ℕ) → r < length L → get_or ns r 0 ≡ min 65537 (length (words_from z L marks r))) e h in
      let k = subst (λ z. (r : ℕ) → r < length z → get_or ns r 0 ≡ min 65537 (length (words_from atoms z marks r))) q
      h' in
      k r l ∙ ap (λ ws. min 65537 (length ws)) (words_in r l)

  pub words_in_first : 0 < length rows → get_or rows 0 [] ≡ [] → words_from atoms rows marks 0
      ≡ words_found characters far in_cell
  words_in_first l e =
      words_in 0 l ∙ ap (λ v. words_found characters far (λ w. in_cell (v ++ w))) e

-- what a vector says of a literal

module _ (T : List Position) (xs : List Signed) (rows : List (List ℕ)) (c : ℕ)
    (l : c < length (vectors_of T xs rows)) where
  pub vector-length : length (vector_at (vectors_of T xs rows) c) ≡ length xs
  vector-length = let (w, e) = of_row T xs rows c l in ap length e ∙ length-map xs (λ x. says T x w)

  pub vector-told : (i : ℕ) → i < length xs
      → get_or (vector_at (vectors_of T xs rows) c) i false
      ≡ told xs (vector_at (vectors_of T xs rows) c) (get_or xs i (G.Plus 0))
  vector-told i m =
      let (w, e) = of_row T xs rows c l in
      ap (λ v. get_or v i false) e ∙ sym (told_at T xs w i m) ∙ ap (λ v. told xs v (get_or xs i (G.Plus 0))) (sym e)

-- a kept vector is the one of its number
pub kept_vector : (ks new : List (List Bool)) (c : ℕ) (v : List Bool) (vs : List (List Bool)) → new ≡ ks → ks ≡ vs
    → v ≡ get_or new c v → c < length vs → v ≡ vector_at vs c
kept_vector ks new c v vs e g i l =
    i ∙ ap (λ z. get_or z c v) (e ∙ g) ∙ sym (kept_at (λ u. u) vs c v l) ∙ ap (λ z. vector_at z c) (map-id vs)

-- what is at a place doesn't depend on the default that is given for other places
pub at_default : {A : Type 0} (x : A) (i : ℕ) (xs : List A) (d : A) → i < length xs → x ≡ get_or xs i x
    → x ≡ get_or xs i d
at_default x i xs d l e = e ∙ sym (get_or-map (λ y. y) xs i x x l) ∙ get_or-map (λ y. y) xs i d x l
