-- Goals that use one another, computed: their rounds, and the parts of a document.
use Rattle.std.proofs.Common.{◌≡◌, ℕ, zero, suc, cond, List, [], ◌∷◌, Some, None, refl}
use Rattle.documents.specs.Kind as K
use Rattle.documents.specs.Kind.{Kind}
use Rattle.documents.specs.Document as D
use Rattle.goals.specs.Signed.{Signed, Plus}
use Rattle.shared_documents.specs.Part as P
use Rattle.shared_documents.specs.Part.{Part}
use Rattle.shared_documents.specs.Unshared.{unshared}
use Rattle.alternatives.specs.Alternative.{Slot, Index, Name, Null, Shape, Elements, Members, Placed, Filler, Alternative}
use Rattle.alternatives.specs.Expansion.{Expansion, expansion_of}
use Rattle.search.specs.Explored.{Found, same_goal, explored}
use Rattle.search.specs.Uses.{satisfied, last_round, in_order, used_goals}
use Rattle.search.specs.Witness.{parts}

abbrev goal : ℕ → List Signed
goal k = Plus k ∷ []

abbrev at : Slot → ℕ → Placed
at s k = record { slot = s; goal = goal k }

abbrev alternative : Kind → Shape → List Placed → ℕ → List Filler → Alternative
alternative t s members need fillers =
    record { kind = t; branch = 0; shape = s; members = members; need = need; fillers = fillers }

-- an array of a goal that has no document; or an object of goals 2 and 3, and of one more of goal 2, since the first
-- filler has no document
abbrev of_root : List Alternative
of_root = alternative K.Array Elements (at (Index 0) 1 ∷ []) 0 []
    ∷ alternative K.Object Members (at (Name 1 0) 2 ∷ at (Name 0 0) 3 ∷ []) 1
    (record { slot = Name 0 1; goal = goal 1; room = 9 } ∷ record { slot = Name 0 1; goal = goal 2; room = 2 } ∷
    []) ∷ []

-- an array of itself
abbrev of_first : List Alternative
of_first = alternative K.Array Elements (at (Index 0) 1 ∷ []) 0 [] ∷ []

abbrev of_second : List Alternative
of_second = alternative K.Null Null [] 0 [] ∷ []

-- an array of goal 2 twice
abbrev of_third : List Alternative
of_third = alternative K.Array Elements (at (Index 0) 2 ∷ at (Index 1) 2 ∷ []) 0 [] ∷ []

abbrev small : List Signed → Expansion
small g = expansion_of
    (cond (same_goal g (goal 0)) of_root
    (cond (same_goal g (goal 1)) of_first (cond (same_goal g (goal 2)) of_second of_third))) None

-- cell 0 has the words `b` and `c`, cell 1 has the word `a`
abbrev word : ℕ → ℕ → List ℕ
word zero zero = 98 ∷ []
word zero (suc k) = 99 ∷ []
word (suc c) k = 97 ∷ []

abbrev words : List Signed → Kind → ℕ → ℕ → ℕ → List ℕ
words g t b c k = word c k

all_found : Found
unfolding explored
all_found = explored 9 100 small (goal 0)

answers : satisfied small all_found 0 ∷ satisfied small all_found 1 ∷ satisfied small all_found 2
    ∷ satisfied small all_found 3 ∷ satisfied small all_found 4 ∷ []
    ≡ Some (3, 1) ∷ None ∷ Some (1, 0) ∷ Some (2, 0) ∷ None ∷ []
unfolding all_found explored
answers = refl

last : last_round small all_found ≡ 3
unfolding all_found explored
last = refl

order : in_order small all_found 4 ≡ 2 ∷ 3 ∷ 0 ∷ []
unfolding all_found explored
order = refl

used : used_goals small all_found 0 ≡ 2 ∷ 3 ∷ 0 ∷ []
unfolding all_found explored
used = refl

used_by_third : used_goals small all_found 3 ≡ 2 ∷ 3 ∷ []
unfolding all_found explored
used_by_third = refl

-- names `a`, `b` and `c`
made : parts words small all_found 0 ≡ P.null ∷ P.array (0 ∷ 0 ∷ [])
    ∷ P.object ((97 ∷ [], 0) ∷ (98 ∷ [], 1) ∷ (99 ∷ [], 0) ∷ []) ∷ []
unfolding all_found explored
made = refl

abbrev of_nulls : D.Document
of_nulls = D.array (D.items_of (D.null ∷ D.null ∷ []))

stands : unshared (parts words small all_found 0) 2
    ≡ D.object (D.members_of ((97 ∷ [], D.null) ∷ (98 ∷ [], of_nulls) ∷ (99 ∷ [], D.null) ∷ []))
unfolding all_found explored unshared
stands = refl
