-- The expander that the tests have: what it answers for the first of three goals, and for every other.
use Rattle.std.specs.Prelude.{◌≡◌, ℕ, List, [], ◌∷◌, Bool, true, false, nat_lt, None, Some, refl}
use Rattle.documents.specs.Kind.{Array}
use Rattle.documents.specs.Tests.{every}
use Rattle.goals.specs.Signed.{Signed}
use Rattle.alternatives.specs.Alternative.{Index, Elements, Placed, Filler, Alternative, named}
use Rattle.alternatives.specs.Slots.{has_words, has_fitting_slots, has_different_slots, has_different_words}
use Rattle.alternatives.specs.Limit.{Plans}
use Rattle.alternatives.specs.Expansion.{Expansion, expansion_of}

abbrev pub at : ℕ → List Signed → Placed
at i g = record { slot = Index i; goal = g }

abbrev pub array_of : List Placed → List Filler → Alternative
array_of members fillers = record {
  kind = Array;
  branch = 0;
  shape = Elements;
  members = members;
  need = 0;
  fillers = fillers;
}

abbrev pub small : Bool → List Signed → List Signed → List Signed → Expansion
small true a b c = expansion_of (array_of (at 0 b ∷ []) (record { slot = Index 1; goal = c; room = 1 } ∷ [])
    ∷ array_of (at 0 a ∷ []) [] ∷ []) None
small false a b c = expansion_of (array_of (at 0 c ∷ []) [] ∷ []) (Some Plans)

module _ (a b c : List Signed) where
  pub takes_named : (first : Bool) → every (λ g. true) (named (small first a b c).alternatives) ≡ true
  takes_named true = refl
  takes_named false = refl

  pub in_branches : (first : Bool) → every (λ e. nat_lt e.branch 1) (small first a b c).alternatives ≡ true
  in_branches true = refl
  in_branches false = refl

  pub words_found : (first : Bool) → every (λ e. has_words ([] ∷ []) e) (small first a b c).alternatives ≡ true
  words_found true = refl
  words_found false = refl

  pub fitting_slots : (first : Bool) → every has_fitting_slots (small first a b c).alternatives ≡ true
  fitting_slots true = refl
  fitting_slots false = refl

  pub different_slots : (first : Bool) → every has_different_slots (small first a b c).alternatives ≡ true
  different_slots true = refl
  different_slots false = refl

  pub different_words : (first : Bool)
      → every (λ e. has_different_words ([] ∷ [])) (small first a b c).alternatives ≡ true
  different_words true = refl
  different_words false = refl
