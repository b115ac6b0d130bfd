-- What each answer says of a number branch.
use Rattle.std.specs.Prelude.{◌≡◌, ℕ, ℤ, List, [], ◌∷◌, true, false, ⊤, Result, Ok, Err}
use Rattle.documents.specs.Kind as K
use Rattle.documents.specs.Document.{number}
use Rattle.positions.specs.Position.{Position}
use Rattle.goals.specs.Signed.{Signed, meets}
use Rattle.goal_laws.specs.Saturated.{IsSaturated}
use Rattle.alternatives.specs.Alternative.{Alternative, Number}
use Rattle.alternatives.specs.Limit as L
use Rattle.expansions.specs.Leaves.{scalar}
use Rattle.js_expansion.specs.declared.expansion.Leaf.{Leaf}
use Rattle.js_scalars.specs.declared.fault.NumberFault.{NumberFault}
use Rattle.js_scalars.specs.declared.fault.NumberFault.TheVariants as V

-- the alternatives, or the limit that was passed; want of memory says nothing
abbrev pub Answers : Result (List Alternative) L.LimitKind → Result Leaf NumberFault → Type 0
Answers found (Ok leaf) = found ≡ Ok leaf.alternatives
Answers found (Err V.Multiples) = found ≡ Err L.Multiples
Answers found (Err V.Candidates) = found ≡ Err L.Candidates
Answers found (Err V.Memory) = ⊤

-- where the set is saturated, the number of the alternative meets it
abbrev pub IsFoundAt : List Position → List Signed → ℕ → List Alternative → Type 0
IsFoundAt T S k more =
    IsSaturated T K.Number S → (n : ℤ) → more ≡ scalar K.Number k (Number n) ∷ [] → meets T S (number n) ≡ true

-- where there is no alternative, no number meets the set
abbrev pub IsNoneAt : List Position → List Signed → List Alternative → Type 0
IsNoneAt T S more = IsSaturated T K.Number S → more ≡ [] → (n : ℤ) → meets T S (number n) ≡ false
