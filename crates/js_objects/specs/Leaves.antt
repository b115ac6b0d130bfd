-- What is answered for a branch at objects, and what its alternatives mean.
use Rattle.std.specs.Prelude.{◌≡◌, ℕ, suc, ◌<◌, ◌≤◌, List, length, Bool, true, Result, Ok, Err, ⊤}
use Rattle.documents.specs.Tests.{some}
use Rattle.documents.specs.Kind as K
use Rattle.documents.specs.Document.{Document, depth, kind_of, is_document}
use Rattle.list_laws.specs.In.{IsIn}
use Rattle.positions.specs.Position.{Position}
use Rattle.goals.specs.Signed.{Signed, meets}
use Rattle.goal_laws.specs.Saturated.{IsSaturated}
use Rattle.cells.specs.Cells.{Cells}
use Rattle.frames.specs.ObjectFrame.{object_frame}
use Rattle.alternatives.specs.Alternative.{Alternative, is_met}
use Rattle.alternatives.specs.Limit.{LimitKind, Counts, Positions, Classes, States, Plans}
use Rattle.expansions.specs.Leaves.{by_name, plan_alternative, with_frame, result_map, object_leaf, names_of}
use Rattle.expansions.specs.DocumentOf.{document_of}
use Rattle.expansion_laws.proofs.Leaf.{AllPass, AreChildren, IsMade}
use Rattle.finders.specs.Names.{cells_of}
use Rattle.js_automaton.specs.declared.fault.AutoFault.{AutoFault}
use Rattle.js_automaton.specs.declared.fault.AutoFault.TheVariants as A
use Rattle.js_expansion.specs.declared.expansion.Leaf.{Leaf}
use Rattle.js_objects.specs.declared.fault.ObjectFault.{ObjectFault}
use Rattle.js_objects.specs.declared.fault.ObjectFault.TheVariants as F

-- a leaf, or the limit that is passed; want of memory says nothing
abbrev pub Says : Result (List Alternative) LimitKind → Result Leaf ObjectFault → Type 0
Says answer (Ok leaf) = answer ≡ Ok leaf.alternatives
Says answer (Err F.LimitCounts) = answer ≡ Err Counts
Says answer (Err F.LimitPositions) = answer ≡ Err Positions
Says answer (Err F.LimitClasses) = answer ≡ Err Classes
Says answer (Err F.LimitStates) = answer ≡ Err States
Says answer (Err F.LimitPlans) = answer ≡ Err Plans
Says answer (Err F.Memory) = ⊤

-- the answer for branch k with that set
abbrev pub Answers : List Position → ℕ → List Signed → Result Leaf ObjectFault → Type 0
Answers T k S r = Says (object_leaf T k S (cells_of T S)) r

-- the leaf where the bounds of the count don't cross, and it isn't too large
abbrev pub planned_leaf : List Position → ℕ → List Signed → Result Cells LimitKind
    → Result (List Alternative) LimitKind
planned_leaf T k S cells =
    with_frame (plan_alternative by_name K.Object k T) T (result_map (λ C. object_frame T C S) cells)

-- the limit that the automaton of the names passes
abbrev pub NamesFail : Result Cells LimitKind → AutoFault → Type 0
NamesFail cells A.LimitPositions = cells ≡ Err Positions
NamesFail cells A.LimitClasses = cells ≡ Err Classes
NamesFail cells A.LimitStates = cells ≡ Err States
NamesFail cells A.Memory = ⊤

-- where an object of depth d meets the set, one of the alternatives is met by the goals of lesser documents
abbrev pub Follows : List Position → List Signed → List Alternative → Type 0
Follows T S more =
    0 < length T → IsSaturated T K.Object S → (d : ℕ) (can : List Signed → Bool) → AllPass T d can
    → (J : Document) → is_document J ≡ true → kind_of J ≡ K.Object → depth J ≤ d → meets T S J ≡ true
    → some (is_met can) more ≡ true

-- where one of them is met by goals that have documents of depth d, its document of these, with the names of the cells,
-- meets the set
abbrev pub Makes : List Position → List Signed → List Alternative → Type 0
Makes T S more =
    0 < length T → IsSaturated T K.Object S → (d : ℕ) (can : List Signed → Bool) (child : List Signed → Document)
    → AreChildren T d can child → (a : Alternative) → IsIn a more → is_met can a ≡ true
    → IsMade T (suc d) S (document_of can child (names_of (cells_of T S)) a)
