-- Positions that are in a table, and the tests that they stand for.
use Rattle.std.specs.Prelude.{◌≡◌, ℕ, suc, List, [], ◌∷◌, Bool, true}
use Rattle.documents.specs.Tests.{every}
use Rattle.documents.specs.Document.{Document, is_document}
use Rattle.positions.specs.Position.{Position, position_at}
use Rattle.positions.specs.Holds.{asks}
use Rattle.normal_forms.specs.Nodes.{Maker}

-- the positions are in the table from n on
abbrev pub Stands : List Position → ℕ → List Position → Type 0
Stands T n [] = Unit {0}
Stands T n (P ∷ Ps) = (position_at T n ≡ P) × Stands T (suc n) Ps

-- a document passes all tests
abbrev pub all_pass : List (Document → Bool) → Document → Bool
all_pass ps J = every (λ p. p J) ps

-- `holds p` says of which documents the position p holds: it is what the position requires
abbrev pub IsMeaning : List Position → (ℕ → Document → Bool) → Type 0
IsMeaning T holds = (p : ℕ) (J : Document) → holds p J ≡ asks (λ q. holds q J) holds (position_at T p) J

module _ (T : List Position) (holds : ℕ → Document → Bool) where
  -- each position holds of the documents that pass the test at its place
  abbrev pub AreMet : List ℕ → List (Document → Bool) → Type 0
  AreMet [] [] = Unit {0}
  AreMet (q ∷ qs) (p ∷ ps) = ((J : Document) → is_document J ≡ true → holds q J ≡ p J) × AreMet qs ps
  AreMet _ _ = ⊥

  -- wherever what is made is in the table, what it names stands for the tests
  abbrev pub Makes : Maker → List (Document → Bool) → Type 0
  Makes f ps = (n : ℕ) → Stands T n (f n).added → AreMet (f n).named ps
