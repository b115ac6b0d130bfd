-- Conditions among which some are closed: from those that are in, what is required leads only to others that are in.
use Rattle.std.specs.Prelude.{◌≡◌, ℕ, ◌<◌, List, Bool}
use Rattle.std.specs.List.{AllByRecursion}
use Rattle.documents.specs.Document.{Document, depth}

-- ranks of the conditions that are in, below the number of steps, which fall from each to those that it names in place
pub record RankedWithin {M : Type 0} (IsIn : M → Type 0) (in_place : M → List M) (steps : ℕ) (rank : M → ℕ)
    : Type 0 where
  pub bounded : (p : M) → IsIn p → rank p < steps
  pub falls : (p : M) → IsIn p → AllByRecursion (λ q. rank q < rank p) (in_place p)
  pub closed : (p : M) → IsIn p → AllByRecursion IsIn (in_place p)

-- each condition p that is in requires what the condition `at p` of another family requires, where those that p names
-- are met alike
abbrev pub AreAlike : {M N : Type 0} → ((M → Bool) → (M → Document → Bool) → M → Document → Bool)
    → ((N → Bool) → (N → Document → Bool) → N → Document → Bool) → (M → N) → (M → Type 0) → (M → List M) → Type 0
AreAlike {M} {N} asks asks' at IsIn in_place =
    (here : M → Bool) (here' : N → Bool) (below : M → Document → Bool) (below' : N → Document → Bool) (p : M)
    (J : Document) → IsIn p
    → AllByRecursion (λ q. here q ≡ here' (at q)) (in_place p)
    → ((q : M) (K : Document) → IsIn q → depth K < depth J → below q K ≡ below' (at q) K)
    → asks here below p J ≡ asks' here' below' (at p) J
