-- Which goals of a small table are taken, and the cells of their branches, computed.
use Rattle.std.proofs.Common.{◌≡◌, ℕ, zero, suc, true, false, List, [], ◌∷◌, Some, None, Ok, refl}
use Rattle.documents.specs.Kind as K
use Rattle.positions.specs.Position.{Position, True, Same, Types, Has}
use Rattle.goals.specs.Signed.{Plus, Minus}
use Rattle.goals.specs.Tree as G
use Rattle.expansions.specs.Leaves.{Finders}
use Rattle.expander_laws.specs.Expander.{takes, branch_count, branch_cells}

-- texts and objects; a reference to them; what all documents meet; the name `a`
T : List Position
T = Types (K.Text ∷ K.Object ∷ []) ∷ Same 0 ∷ True ∷ Has (97 ∷ []) ∷ []

ranks : List ℕ
ranks = 0 ∷ 1 ∷ 0 ∷ 0 ∷ []

taken : takes T ranks (Plus 0 ∷ Minus 3 ∷ []) ≡ true
unfolding T ranks
taken = refl

-- a reference, what all documents meet, both signs, another order, a position past the table, a table without ranks
reference : takes T ranks (Plus 1 ∷ []) ≡ false
unfolding T ranks
reference = refl

always : takes T ranks (Plus 0 ∷ Plus 2 ∷ []) ≡ false
unfolding T ranks
always = refl

both : takes T ranks (Plus 0 ∷ Minus 0 ∷ []) ≡ false
unfolding T ranks
both = refl

unsorted : takes T ranks (Plus 3 ∷ Plus 0 ∷ []) ≡ false
unfolding T ranks
unsorted = refl

past : takes T ranks (Plus 4 ∷ []) ≡ false
unfolding T ranks
past = refl

no_table : takes T [] (Plus 0 ∷ []) ≡ false
unfolding T ranks
no_table = refl

-- cell 0 has the name `a`, cell 1 has two others
words : ℕ → List (List ℕ)
words zero = (97 ∷ []) ∷ []
words (suc c) = [] ∷ (98 ∷ []) ∷ []

F : Finders
F = record {
  numbers = λ S. Ok None;
  strings = λ S. Ok (Some (99 ∷ []));
  cells = λ S. Ok (record {
    names = Plus 3 ∷ [];
    vectors = (true ∷ []) ∷ (false ∷ []) ∷ [];
    words = words;
    bound = 65537;
  });
}

branches : branch_count T (Plus 0 ∷ []) K.Text ∷ branch_count T (Plus 0 ∷ []) K.Null ∷ [] ≡ 1 ∷ 0 ∷ []
unfolding T G.steps
branches = refl

of_text : branch_cells F T (Plus 0 ∷ []) K.Text 0 ≡ ((99 ∷ []) ∷ []) ∷ []
unfolding T F G.steps
of_text = refl

of_object : branch_cells F T (Plus 0 ∷ []) K.Object 0 ≡ ((97 ∷ []) ∷ []) ∷ ([] ∷ (98 ∷ []) ∷ []) ∷ []
unfolding T F words G.steps
of_object = refl

of_array : branch_cells F T (Plus 0 ∷ []) K.Array 0 ≡ []
unfolding T F G.steps
of_array = refl
