-- The document of an alternative: its members, and as many as it needs of the fillers that pass, each up to its room.
use Rattle.std.specs.Prelude.{ℕ, zero, suc, ◌-◌, min, List, [], ◌∷◌, ◌++◌, map, Bool, cond, get_or}
use Rattle.documents.specs.Kind.{Kind}
use Rattle.documents.specs.Document as D
use Rattle.documents.specs.Document.{Document, items_of}
use Rattle.positions.specs.Position.{Position}
use Rattle.goals.specs.Signed.{Signed}
use Rattle.goals.specs.Tree as G
use Rattle.expansions.specs.SortedMembers.{sorted}
use Rattle.alternatives.specs.Alternative as Alt
use Rattle.alternatives.specs.Alternative.{Slot, Index, Name, Shape, Filler, Alternative}
use Rattle.alternatives.specs.Slots.{next_slot}

-- so many from a slot on
abbrev pub copies : Slot → ℕ → Document → List (Slot × Document)
copies s zero J = []
copies s (suc n) J = (s, J) ∷ copies (next_slot s) n J

abbrev pub slot_name : (ℕ → ℕ → List ℕ) → Slot → List ℕ
slot_name words (Index i) = []
slot_name words (Name c k) = words c k

abbrev pub with_name : (ℕ → ℕ → List ℕ) → Slot × Document → List ℕ × Document
with_name words s = (slot_name words s.0, s.1)

-- the document of a shape and its parts, with the words of the branch: a text is the first of cell 0
abbrev pub by_shape : (ℕ → ℕ → List ℕ) → Shape → List (Slot × Document) → Document
by_shape words Alt.Null parts = D.null
by_shape words (Alt.Truth b) parts = D.boolean b
by_shape words (Alt.Number n) parts = D.number n
by_shape words Alt.Text parts = D.string (words 0 0)
by_shape words Alt.Elements parts = D.array (items_of (map (λ s. s.1) parts))
by_shape words Alt.Members parts = D.object (sorted (map (with_name words) parts))

module _ (can : List Signed → Bool) (child : List Signed → Document) where
  abbrev pub filled : ℕ → List Filler → List (Slot × Document)
  filled n [] = []
  filled n (f ∷ fs) =
      cond (can f.goal) (copies f.slot (min n f.room) (child f.goal) ++ filled (n - f.room) fs) (filled n fs)

  abbrev pub parts : Alternative → List (Slot × Document)
  parts a = map (λ m. (m.slot, child m.goal)) a.members ++ filled a.need a.fillers

  -- `words`: word k of cell c of its branch
  abbrev pub document_of : (ℕ → ℕ → List ℕ) → Alternative → Document
  document_of words a = by_shape words a.shape (parts a)

-- the branch of an alternative of a goal
abbrev pub branch_of : List Position → List Signed → Alternative → List Signed
branch_of T g a = get_or (G.branches (G.steps T a.kind g)) a.branch []

-- the words of a branch by its number, where they are known by its set
abbrev pub by_branch : List Position → (Kind → List Signed → ℕ → ℕ → List ℕ) → List Signed → Kind → ℕ → ℕ → ℕ → List ℕ
by_branch T words g t k = words t (get_or (G.branches (G.steps T t g)) k [])
