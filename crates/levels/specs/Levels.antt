-- What conditions that name one another say of a document: some speak of the document itself, some of what lies in it.
use Rattle.std.specs.Prelude.{◌≡◌, ℕ, zero, suc, ◌<◌, List, Bool, false}
use Rattle.std.specs.List.{AllByRecursion}
use Rattle.documents.specs.Document.{Document, depth}

-- `asks here below p J` is what the condition p requires of J, where `here` says what J meets and `below` what its
-- parts meet
module _ {N : Type 0} (asks : (here : N → Bool) (below : N → Document → Bool) → N → Document → Bool) (steps : ℕ) where
  -- with n steps from condition to condition at one document; with none left nothing is met
  abbrev pub met_here : (N → Document → Bool) → ℕ → N → Document → Bool
  met_here below zero p J = false
  met_here below (suc n) p J = asks (λ q. met_here below n q J) below p J

  -- for documents of depth below d
  abbrev pub met_below : ℕ → N → Document → Bool
  met_below zero p J = false
  met_below (suc d) p J = met_here (met_below d) steps p J

  -- the document meets the condition
  unfoldable pub is_met : N → Document → Bool
  is_met p J = met_below (suc (depth J)) p J

-- ranks below the number of steps, which fall from each condition to those that it names in place
pub record Ranked {N : Type 0} (in_place : N → List N) (steps : ℕ) (rank : N → ℕ) : Type 0 where
  pub bounded : (p : N) → rank p < steps
  pub falls : (p : N) → AllByRecursion (λ q. rank q < rank p) (in_place p)

-- what a condition requires depends on its in-place names at the document, and on documents of lesser depth
abbrev pub IsLocal : {N : Type 0} → ((N → Bool) → (N → Document → Bool) → N → Document → Bool) → (N → List N) → Type 0
IsLocal {N} asks in_place =
    (here here' : N → Bool) (below below' : N → Document → Bool) (p : N) (J : Document)
    → AllByRecursion (λ q. here q ≡ here' q) (in_place p)
    → ((q : N) (K : Document) → depth K < depth J → below q K ≡ below' q K)
    → asks here below p J ≡ asks here' below' p J
