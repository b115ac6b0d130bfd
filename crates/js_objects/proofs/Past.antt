-- A cell that isn't there has no words.
use Rattle.std.proofs.Common.{◌≡◌, ℕ, ◌<◌, ◌≤◌, inl, inr, Bool, true, false, cond, List, [], ◌∷◌, map, filter, length, get_or, nat_eq, Ok, refl, ap, sym, ◌∙◌, subst, arith}
use Rattle.std.proofs.lemmas.Bool.{and_parts, cases_lt, ne_eqb}
use Rattle.std.proofs.lemmas.List.{get_or_past}
use Rattle.word_states.specs.Classes.{characters}
use Rattle.word_states.specs.Mention.{mention_all}
use Rattle.positions.specs.Position.{Position, is_table}
use Rattle.position_laws.proofs.Tables.{is_table-IsTable}
use Rattle.goals.specs.Signed.{Signed}
use Rattle.list_laws.specs.In.{IsIn}
use Rattle.cells.specs.Cells.{Cells, vector, same_vector, place, vectors_of}
use Rattle.cells.specs.WordsInOrder.{shorter}
use Rattle.cell_laws.proofs.Rows.{first_row}
use Rattle.finders.specs.WordsFound.{far}
use Rattle.finders.specs.Names.{cells_of}
use Rattle.finder_laws.proofs.Names.{cells_found}
use Rattle.js_algebra.specs.View.{is_in_table, are_in_table}
use Rattle.js_automaton.specs.AutomatonView.{atoms_of, rows_of}
use Rattle.js_automaton.specs.declared.automaton.Automaton.{Automaton}
use Rattle.js_objects.specs.Steps.{IsOfNames, cells_by}
use Rattle.js_algebra.proofs.Inside.{is_in_table-some}

-- a list that has the first numbers has them all, where the others are none
pub counts-all : (f : ℕ → ℕ) (xs : List ℕ) (n : ℕ) → length xs ≡ n → ((c : ℕ) → c < n → get_or xs c 0 ≡ f c)
    → ((c : ℕ) → n ≤ c → f c ≡ 0) → (c : ℕ) → get_or xs c 0 ≡ f c
counts-all f xs n e first rest c = elim (cases_lt c n) [
  | inl l ↦ first c l
  | inr l ↦ get_or_past xs c 0 (omega (arith, e, l)) ∙ sym (rest c l)
]

none_in : (ws : List (List ℕ)) → ((w : List ℕ) → IsIn w ws → ⊥) → ws ≡ []
none_in [] h = refl
none_in (w ∷ ws) h = absurd (h w (inl refl))

filter_none : (p : List ℕ → Bool) → ((w : List ℕ) → p w ≡ false) → (ws : List (List ℕ)) → filter p ws ≡ []
filter_none p h [] = refl
filter_none p h (w ∷ ws) = ap (λ b. cond b (w ∷ filter p ws) (filter p ws)) (h w) ∙ filter_none p h ws

-- of cells that are found rightly
right_past : (T : List Position) (ranks : List ℕ) → is_table T ranks ≡ true → 0 < length T → (S : List Signed)
    → (C : Cells) → cells_of T S ≡ Ok C → (c : ℕ) → length C.vectors ≤ c → C.words c ≡ []
right_past T ranks table l S C e c past =
    let right = cells_found T S (is_table-IsTable T ranks table l) C e in
    none_in (C.words c) (λ w i.
    let (scalar, place) = right.words.of_cell c w i in
    let within = right.cells.known w scalar in omega (arith, past, place, within))

-- a set that requires nothing has one cell
one_vector : (T : List Position) (L : List (List ℕ))
    → mention_all same_vector ([] ∷ []) (map (vector T []) L) ≡ [] ∷ []
one_vector T [] = refl
one_vector T (w ∷ L) = one_vector T L

vectors-one : (T : List Position) (L : List (List ℕ)) → 0 < length L → vectors_of T [] L ≡ [] ∷ []
vectors-one T [] l = absurd (omega (arith, l))
vectors-one T (w ∷ L) l = one_vector T L

first_not : (c : ℕ) → 1 ≤ c → nat_eq 0 c ≡ false
first_not c l = ne_eqb 0 c (λ e. omega (arith, l, e))

empty_past : (T : List Position) (far : ℕ) (characters : List ℕ) (L : List (List ℕ)) → 0 < length L → (c : ℕ)
    → length (vectors_of T [] L) ≤ c
    → filter (λ w. nat_eq (place (vector T [] w) (vectors_of T [] L)) c) (shorter characters far) ≡ []
empty_past T far characters L l c past =
    let one = vectors-one T L l in
    let n : 1 ≤ c = subst (λ v. length v ≤ c) one past in
    filter_none (λ w. nat_eq (place (vector T [] w) (vectors_of T [] L)) c)
    (λ w. ap (λ v. nat_eq (place [] v) c) one ∙ first_not c n) (shorter characters far)

module _ (T : List Position) (ranks : List ℕ) (table : is_table T ranks ≡ true) where
  pub words-past : (S : List Signed) → are_in_table T S ≡ true → (a : Automaton) → IsOfNames T S a → (C : Cells)
      → C ≡ cells_by T S a → (c : ℕ) → length C.vectors ≤ c → C.words c ≡ []
  words-past [] h a names C is c past =
      ap (λ D. D.words c) is
      ∙ empty_past T far characters (rows_of a) (first_row (atoms_of a) (rows_of a) a.found.1.0).0 c
      (subst (λ D. length D.vectors ≤ c) is past)
  words-past (x ∷ S) h a names C is c past =
      right_past T ranks table (is_in_table-some T x (and_parts (is_in_table T x) (are_in_table T S) h).0) (x ∷ S) C
      (names.found ∙ ap Ok (sym is)) c past
