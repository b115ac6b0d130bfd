-- The array of a plan: what is placed, in order, and then fillers, as many as needed.
use Rattle.std.specs.Prelude.{ℕ, zero, suc, List, [], ◌∷◌, ◌++◌, map, Bool, cond, nat_lt}
use Rattle.documents.specs.Document.{Document, null, array, items_of}
use Rattle.positions.specs.Position.{Position}
use Rattle.goals.specs.Signed.{Signed}
use Rattle.frames.specs.Frame.{Place, Head, In, Frame}
use Rattle.frames.specs.Plan.{Plan, need}
use Rattle.frames.specs.Fillers.{fillers, goals, child_of, fill}

-- where an element is: at its first place, or in the cell of those past them
abbrev pub stand : ℕ → ℕ → Place
stand n j = cond (nat_lt j n) (Head j) (In 0)

abbrev pub doc_at : List Document → ℕ → Document
doc_at [] j = null
doc_at (d ∷ ds) zero = d
doc_at (d ∷ ds) (suc j) = doc_at ds j

module _ (can : List Signed → Bool) (child : List Signed → Document) where
  abbrev pub values : List Position → Frame → Plan → List Document
  values T frame q =
      map (child_of can child) (goals T frame q)
      ++ map (λ v. v.1) (fill can child (need frame q) (fillers T frame q))

  abbrev pub array_of : List Position → Frame → Plan → Document
  array_of T frame q = array (items_of (values T frame q))
