-- The expander that the tests have: what it answers for the first three of four goals, and for every other.
use Rattle.std.specs.Prelude.{◌≡◌, ℕ, List, [], ◌∷◌, Bool, true, false, nat_lt, None, refl}
use Rattle.documents.specs.Kind as K
use Rattle.documents.specs.Kind.{Kind}
use Rattle.documents.specs.Tests.{every}
use Rattle.goals.specs.Signed.{Signed}
use Rattle.alternatives.specs.Alternative.{Slot, Index, Name, Shape, Null, Elements, Members, Placed, Filler, Alternative, named}
use Rattle.alternatives.specs.Slots.{has_words, has_fitting_slots, has_different_slots, has_different_words}
use Rattle.alternatives.specs.Expansion.{Expansion, expansion_of}

-- `b`, `c` and `d` in one cell, and `a` in another
abbrev pub cells : List (List (List ℕ))
cells = ((98 ∷ []) ∷ (99 ∷ []) ∷ (100 ∷ []) ∷ []) ∷ ((97 ∷ []) ∷ []) ∷ []

abbrev pub at : Slot → List Signed → Placed
at s g = record { slot = s; goal = g }

abbrev pub one_of : Slot → List Signed → Filler
one_of s g = record { slot = s; goal = g; room = 1 }

abbrev pub alternative : Kind → Shape → List Placed → ℕ → List Filler → Alternative
alternative t s members need fillers =
    record { kind = t; branch = 0; shape = s; members = members; need = need; fillers = fillers }

-- the root: an array of the second goal; or an object of the third and the fourth, and of one more. The second: an
-- array
-- of itself. The third: null. Every other: an array of the third, twice
abbrev pub small : Bool → Bool → Bool → List Signed → List Signed → List Signed → List Signed → Expansion
small true _ _ a b c d = expansion_of (alternative K.Array Elements (at (Index 0) b ∷ []) 0 []
    ∷ alternative K.Object Members (at (Name 1 0) c ∷ at (Name 0 0) d ∷ []) 1
    (one_of (Name 0 1) b ∷ one_of (Name 0 2) c ∷ []) ∷ []) None
small false true _ a b c d = expansion_of (alternative K.Array Elements (at (Index 0) b ∷ []) 0 [] ∷ []) None
small false false true a b c d = expansion_of (alternative K.Null Null [] 0 [] ∷ []) None
small false false false a b c d =
    expansion_of (alternative K.Array Elements (at (Index 0) c ∷ at (Index 1) c ∷ []) 0 [] ∷ []) None

module _ (a b c d : List Signed) where
  pub takes_named : (x y z : Bool) → every (λ g. true) (named (small x y z a b c d).alternatives) ≡ true
  takes_named true y z = refl
  takes_named false true z = refl
  takes_named false false true = refl
  takes_named false false false = refl

  pub in_branches : (x y z : Bool) → every (λ e. nat_lt e.branch 1) (small x y z a b c d).alternatives ≡ true
  in_branches true y z = refl
  in_branches false true z = refl
  in_branches false false true = refl
  in_branches false false false = refl

  pub words_found : (x y z : Bool) → every (λ e. has_words cells e) (small x y z a b c d).alternatives ≡ true
  words_found true y z = refl
  words_found false true z = refl
  words_found false false true = refl
  words_found false false false = refl

  pub fitting_slots : (x y z : Bool) → every has_fitting_slots (small x y z a b c d).alternatives ≡ true
  fitting_slots true y z = refl
  fitting_slots false true z = refl
  fitting_slots false false true = refl
  fitting_slots false false false = refl

  pub different_slots : (x y z : Bool) → every has_different_slots (small x y z a b c d).alternatives ≡ true
  different_slots true y z = refl
  different_slots false true z = refl
  different_slots false false true = refl
  different_slots false false false = refl

  pub different_words : (x y z : Bool)
      → every (λ e. has_different_words cells) (small x y z a b c d).alternatives ≡ true
  different_words true y z = refl
  different_words false true z = refl
  different_words false false true = refl
  different_words false false false = refl
