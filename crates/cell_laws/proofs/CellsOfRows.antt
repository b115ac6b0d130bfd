-- The cells of rows are cells: each name is in one, which says what is said of it; the words of a cell are different
-- names of it.
use Rattle.std.proofs.Common.{◌≡◌, ℕ, suc, ◌<◌, ◌≤◌, ◌⊎◌, inl, inr, Bool, true, false, cond, List, [], ◌∷◌, ◌++◌, map, length, nat_eq, if◌then◌else◌, Option, Some, None, is_some, refl, ap, ap₂, sym, ◌∙◌, subst, arith}
use Rattle.std.specs.Bool.{beq}
use Rattle.std.specs.List.{list_any}
use Rattle.std.proofs.lemmas.Bool.{and_parts, or_cases, eqb-true}
use Rattle.documents.specs.Tests.{every, is_scalar}
use Rattle.word_states.specs.Mention.{mention, mention_all}
use Rattle.positions.specs.Position.{Position, position_at}
use Rattle.positions.specs.NameFormula.{NameFormula}
use Rattle.goals.specs.Signed.{Signed, position_of, same_signed}
use Rattle.goal_laws.proofs.Signs.{same_signed-true, same_signed-itself}
use Rattle.list_laws.specs.In.{IsIn, Distinct}
use Rattle.list_laws.proofs.Lists.{in_left, in_right, in_map}
use Rattle.cells.specs.Cells.{meets_formula, says, naming, vector, same_vector, place, vector_at, told, vectors_of, cells}
use Rattle.name_truths.specs.NameAtoms.{formula_of}
use Rattle.cells.specs.WordsInOrder.{shorter}
use Rattle.list_laws.proofs.Tests.{from_filter, beq-true}
use Rattle.cell_laws.specs.RightCells.{IsOf, AreCells, AreWords}
use Rattle.cell_laws.proofs.WordsInOrderLaws.{differ_filter, shorter_is, shorter_differ}

pub same_vector-true : (u v : List Bool) → same_vector u v ≡ true → u ≡ v
same_vector-true [] [] e = refl
same_vector-true [] (b ∷ v) e = cc
same_vector-true (a ∷ u) [] e = cc
same_vector-true (a ∷ u) (b ∷ v) e =
    let (h, k) = and_parts (beq a b) (same_vector u v) e in ap₂ (λ x xs. x ∷ xs) (beq-true a b h)
    (same_vector-true u v k)

pub same_vector-refl : (u : List Bool) → same_vector u u ≡ true
same_vector-refl [] = refl
same_vector-refl (true ∷ u) = same_vector-refl u
same_vector-refl (false ∷ u) = same_vector-refl u

-- what is mentioned is there

any_in : (v : List Bool) (L : List (List Bool)) → list_any (same_vector v) L ≡ true → IsIn v L
any_in v [] e = cc
any_in v (u ∷ L) e = elim (or_cases (same_vector v u) (list_any (same_vector v) L) e) [
  | inl h ↦ inl (same_vector-true v u h)
  | inr h ↦ inr (any_in v L h)
]

mention_has : (v : List Bool) (L : List (List Bool)) → IsIn v (mention same_vector L v)
mention_has v L = go (list_any (same_vector v) L) refl where
  go : (b : Bool) → list_any (same_vector v) L ≡ b → IsIn v (if b then L else L ++ v ∷ [])
  go true e = any_in v L e
  go false e = in_right v L (v ∷ []) (inl refl)

mention_keeps : (v u : List Bool) (L : List (List Bool)) → IsIn v L → IsIn v (mention same_vector L u)
mention_keeps v u L i = go (list_any (same_vector u) L) where
  go : (b : Bool) → IsIn v (if b then L else L ++ u ∷ [])
  go true = i
  go false = in_left v L (u ∷ []) i

mentions_keep : (v : List Bool) (L us : List (List Bool)) → IsIn v L → IsIn v (mention_all same_vector L us)
mentions_keep v L [] i = i
mentions_keep v L (u ∷ us) i = mentions_keep v (mention same_vector L u) us (mention_keeps v u L i)

mentions_have : (v : List Bool) (L us : List (List Bool)) → IsIn v us → IsIn v (mention_all same_vector L us)
mentions_have v L [] i = absurd i
mentions_have v L (u ∷ us) (inl e) =
    mentions_keep v (mention same_vector L u) us (subst (λ z. IsIn v (mention same_vector L z)) e (mention_has v L))
mentions_have v L (u ∷ us) (inr i) = mentions_have v (mention same_vector L u) us i

place_at : (v : List Bool) (vs : List (List Bool)) → IsIn v vs
    → (place v vs < length vs) × (vector_at vs (place v vs) ≡ v)
place_at v [] i = absurd i
place_at v (u ∷ vs) i = go (same_vector v u) refl i (place_at v vs) where
  go : (b : Bool) → same_vector v u ≡ b → IsIn v (u ∷ vs)
      → (IsIn v vs → (place v vs < length vs) × (vector_at vs (place v vs) ≡ v))
      → (cond b 0 (suc (place v vs)) < suc (length vs)) × (vector_at (u ∷ vs) (cond b 0 (suc (place v vs))) ≡ v)
  go true e i more = (omega arith, sym (same_vector-true v u e))
  go false e (inl q) more =
      let f : same_vector v u ≡ true = subst (λ z. same_vector v z ≡ true) q (same_vector-refl v) in cc
  go false e (inr i) more = let (l, h) = more i in (omega (arith, l), h)

-- a vector has what a literal says

unsaid : (T : List Position) (x : Signed) (w : List ℕ) → is_some (formula_of (position_at T (position_of x))) ≡ false
    → says T x w ≡ false
unsaid T x w e = go (formula_of (position_at T (position_of x))) e where
  go : (o : Option NameFormula) → is_some o ≡ false → meets_formula T o w ≡ false
  go None e = refl
  go (Some f) e = cc

told_is : (T : List Position) (w : List ℕ) (x : Signed) (S : List Signed)
    → IsIn x S ⊎ (is_some (formula_of (position_at T (position_of x))) ≡ false)
    → told (naming T S) (vector T (naming T S) w) x ≡ says T x w
told_is T w x [] (inl i) = absurd i
told_is T w x [] (inr n) = sym (unsaid T x w n)
told_is T w x (y ∷ S) h = go (is_some (formula_of (position_at T (position_of y)))) refl h (told_is T w x S) where
  go : (b : Bool) → is_some (formula_of (position_at T (position_of y))) ≡ b
      → IsIn x (y ∷ S) ⊎ (is_some (formula_of (position_at T (position_of x))) ≡ false)
      → (IsIn x S ⊎ (is_some (formula_of (position_at T (position_of x))) ≡ false)
      → told (naming T S) (vector T (naming T S) w) x ≡ says T x w)
      → told (cond b (y ∷ naming T S) (naming T S)) (vector T (cond b (y ∷ naming T S) (naming T S)) w) x ≡ says T x w
  go false e (inl (inl q)) more =
      more (inr (subst (λ z. is_some (formula_of (position_at T (position_of z))) ≡ false) (sym q) e))
  go false e (inl (inr i)) more = more (inl i)
  go false e (inr n) more = more (inr n)
  go true e h more = by (same_signed x y) refl h where
    by : (t : Bool) → same_signed x y ≡ t
        → IsIn x (y ∷ S) ⊎ (is_some (formula_of (position_at T (position_of x))) ≡ false)
        → cond t (says T y w) (told (naming T S) (vector T (naming T S) w) x) ≡ says T x w
    by true p h = ap (λ z. says T z w) (sym (same_signed-true x y p))
    by false p (inl (inl q)) = let f : same_signed x y ≡ true =
        subst (λ z. same_signed x z ≡ true) q (same_signed-itself x) in cc
    by false p (inl (inr i)) = more (inl i)
    by false p (inr n) = more (inr n)

module _ (characters : List ℕ) (different : Distinct characters)
    (scalars : (c : ℕ) → IsIn c characters → is_scalar c ≡ true) where
  -- what has to come from rows and capacities: of each name there is a row of which the same is said; a cell whose
  -- words that are shorter than `far` are fewer than the bound has no others
  module _ (far bound : ℕ) (T : List Position) (S : List Signed) (rows : List (List ℕ))
      (rowed : (w : List ℕ) → every is_scalar w ≡ true
      → (v : List ℕ) × IsIn v rows × (vector T (naming T S) w ≡ vector T (naming T S) v))
      (exact_count : (c : ℕ) → length ((cells characters far bound T S rows).words c) < bound → (ws : List (List ℕ))
      → Distinct ws
      → ((w : List ℕ) → IsIn w ws → IsOf T (cells characters far bound T S rows) c w)
      → length ws ≤ length ((cells characters far bound T S rows).words c)) where
    in_vectors : (w : List ℕ) → every is_scalar w ≡ true
        → IsIn (vector T (naming T S) w) (vectors_of T (naming T S) rows)
    in_vectors w s =
        let (v, i, e) = rowed w s in
        mentions_have (vector T (naming T S) w) [] (map (vector T (naming T S)) rows)
        (subst (λ z. IsIn z (map (vector T (naming T S)) rows)) (sym e) (in_map (vector T (naming T S)) v rows i))

    -- the cells of rows are cells of all names
    pub cells_are : AreCells T S (cells characters far bound T S rows)
    cells_are = record {
      known = λ w s. (place_at (vector T (naming T S) w) (vectors_of T (naming T S) rows) (in_vectors w s)).0;
      exact = λ x w i s.
          ap (λ v. told (naming T S) v x)
          (place_at (vector T (naming T S) w) (vectors_of T (naming T S) rows) (in_vectors w s)).1
          ∙ told_is T w x S (inl i);
    }

    pub words_are : AreWords T (cells characters far bound T S rows)
    words_are = record {
      of_cell = λ c w i.
          let (a, b) = from_filter (λ w. nat_eq (place (vector T (naming T S) w) (vectors_of T (naming T S) rows)) c)
          w (shorter characters far) i in (
            (shorter_is characters different scalars far w a).1,
            eqb-true
                (place (vector T (naming T S) w) (vectors_of T (naming T S) rows)) c b,
          );
      differ = λ c. differ_filter (λ w. nat_eq (place (vector T (naming T S) w) (vectors_of T (naming T S) rows)) c)
          (shorter characters far) (shorter_differ characters different scalars far);
      all = exact_count;
    }
