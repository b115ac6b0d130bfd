-- The cells of names: names of which the literals of a set say the same.
use Rattle.std.specs.Prelude.{ℕ, zero, suc, List, [], ◌∷◌, map, filter, Bool, true, false, ◌&&◌, cond, nat_eq, Option, Some, None, is_some}
use Rattle.std.specs.Bool.{beq}
use Rattle.word_states.specs.Mention.{mention_all}
use Rattle.positions.specs.Position.{Position, position_at}
use Rattle.positions.specs.NameFormula.{NameFormula, name_meets}
use Rattle.goals.specs.Signed.{Signed, position_of, same_signed}
use Rattle.cells.specs.WordsInOrder.{shorter}
use Rattle.name_truths.specs.NameAtoms.{formula_of}

abbrev pub meets_formula : List Position → Option NameFormula → List ℕ → Bool
meets_formula T None w = false
meets_formula T (Some f) w = name_meets T f w

-- what the position of a literal says of a name
abbrev pub says : List Position → Signed → List ℕ → Bool
says T x w = meets_formula T (formula_of (position_at T (position_of x))) w

-- the literals that say something of names
abbrev pub naming : List Position → List Signed → List Signed
naming T S = filter (λ x. is_some (formula_of (position_at T (position_of x)))) S

-- what each of them says of a name
abbrev pub vector : List Position → List Signed → List ℕ → List Bool
vector T xs w = map (λ x. says T x w) xs

abbrev pub same_vector : List Bool → List Bool → Bool
same_vector [] [] = true
same_vector (a ∷ u) (b ∷ v) = beq a b && same_vector u v
same_vector _ _ = false

-- the number of the first that is the same; past all of them where none is
abbrev pub place : List Bool → List (List Bool) → ℕ
place v [] = 0
place v (u ∷ us) = cond (same_vector v u) 0 (suc (place v us))

abbrev pub vector_at : List (List Bool) → ℕ → List Bool
vector_at [] c = []
vector_at (v ∷ vs) zero = v
vector_at (v ∷ vs) (suc c) = vector_at vs c

-- what the vector says of the literal
abbrev pub told : List Signed → List Bool → Signed → Bool
told [] v x = false
told (y ∷ xs) [] x = false
told (y ∷ xs) (b ∷ v) x = cond (same_signed x y) b (told xs v x)

pub record Cells : Type 0 where
  -- the literals that say something of names
  pub names : List Signed
  -- the cells, each as what these say of its names
  pub vectors : List (List Bool)
  -- the names of a cell, in order; and the number at which their count is cut
  pub words : ℕ → List (List ℕ)
  pub bound : ℕ

-- the cell of a name
abbrev pub cell_of : List Position → Cells → List ℕ → ℕ
cell_of T C w = place (vector T C.names w) C.vectors

-- what the position of a literal says of the names of a cell
abbrev pub truth : Cells → ℕ → Signed → Bool
truth C c x = told C.names (vector_at C.vectors c) x

-- the cells among words (one for each row of an automaton)
abbrev pub vectors_of : List Position → List Signed → List (List ℕ) → List (List Bool)
vectors_of T xs rows = mention_all same_vector [] (map (vector T xs) rows)

module _ (characters : List ℕ) (far bound : ℕ) where
  abbrev pub cells : List Position → List Signed → List (List ℕ) → Cells
  cells T S rows = record {
    names = naming T S;
    vectors = vectors_of T (naming T S) rows;
    words = λ c. filter (λ w. nat_eq (place (vector T (naming T S) w) (vectors_of T (naming T S) rows)) c)
        (shorter characters far);
    bound = bound;
  }
