-- What is answered for a branch at arrays, and what its alternatives mean.
use Rattle.std.specs.Prelude.{◌≡◌, ℕ, suc, ◌<◌, ◌≤◌, List, length, Bool, true, Result, Ok, Err, ⊤}
use Rattle.documents.specs.Tests.{some}
use Rattle.documents.specs.Kind as K
use Rattle.documents.specs.Document.{Document, depth, kind_of, is_document}
use Rattle.list_laws.specs.In.{IsIn}
use Rattle.positions.specs.Position.{Position}
use Rattle.goals.specs.Signed.{Signed, meets}
use Rattle.goal_laws.specs.Saturated.{IsSaturated}
use Rattle.alternatives.specs.Alternative.{Alternative, is_met}
use Rattle.alternatives.specs.Limit.{Counts, Plans}
use Rattle.expansions.specs.Leaves.{array_leaf}
use Rattle.expansions.specs.DocumentOf.{document_of}
use Rattle.expansion_laws.proofs.Leaf.{AllPass, AreChildren, IsMade}
use Rattle.js_expansion.specs.declared.expansion.Leaf.{Leaf}
use Rattle.js_arrays.specs.declared.fault.ArrayFault.{ArrayFault}
use Rattle.js_arrays.specs.declared.fault.ArrayFault.TheVariants as F

-- the answer for branch k with that set; want of memory says nothing
abbrev pub Answers : List Position → ℕ → List Signed → Result Leaf ArrayFault → Type 0
Answers T k S (Ok leaf) = array_leaf T k S ≡ Ok leaf.alternatives
Answers T k S (Err F.LimitCounts) = array_leaf T k S ≡ Err Counts
Answers T k S (Err F.LimitPlans) = array_leaf T k S ≡ Err Plans
Answers T k S (Err F.Memory) = ⊤

-- where an array of depth d meets the set, one of the alternatives is met by the goals of lesser documents
abbrev pub Follows : List Position → List Signed → List Alternative → Type 0
Follows T S more =
    0 < length T → IsSaturated T K.Array S → (d : ℕ) (can : List Signed → Bool) → AllPass T d can
    → (J : Document) → is_document J ≡ true → kind_of J ≡ K.Array → depth J ≤ d → meets T S J ≡ true
    → some (is_met can) more ≡ true

-- where one of them is met by goals that have documents of depth d, its document of these meets the set
abbrev pub Makes : List Position → List Signed → List Alternative → Type 0
Makes T S more =
    0 < length T → IsSaturated T K.Array S → (d : ℕ) (can : List Signed → Bool) (child : List Signed → Document)
    → AreChildren T d can child → (a : Alternative) → IsIn a more → is_met can a ≡ true
    → (names : ℕ → ℕ → List ℕ) → IsMade T (suc d) S (document_of can child names a)
