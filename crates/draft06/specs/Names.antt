-- What keywords of objects ask of members by their names.
use Rattle.std.specs.Prelude.{ℕ, List, [], map, Bool, ◌&&◌, ◌||◌, not, Option, Some, None}
use Rattle.documents.specs.Tests.{every, some, same_word}
use Rattle.documents.specs.Document.{Document}
use Rattle.documents.specs.Measures.{has_name, every_in}

-- the names of a keyword's members, where the keyword is there
abbrev pub keys : {A : Type 0} → Option (List (List ℕ × A)) → List (List ℕ)
keys None = []
keys (Some ns) = map (λ n. n.0) ns

-- a name that is none of the names, and that no pattern matches
abbrev pub is_additional : (List ℕ → List ℕ → Bool) → (names patterns : List (List ℕ)) → List ℕ → Bool
is_additional matches names patterns w = not (some (same_word w) names) && not (some (λ t. matches t w) patterns)

-- each schema asks something of the members with the names that go with its own name
abbrev pub each_asks : {N : Type 0} → (List ℕ → List ℕ → Bool) → (N → Document → Bool) → List (List ℕ × N)
    → List (List ℕ × Document) → Bool
each_asks goes below ns ms = every (λ n. every_in (goes n.0) (below n.1) ms) ns

-- what goes with a name is met where a member has that name
abbrev pub where_present : {A : Type 0} → (A → Bool) → List (List ℕ × A) → List (List ℕ × Document) → Bool
where_present met ns ms = every (λ n. not (has_name n.0 ms) || met n.1) ns
