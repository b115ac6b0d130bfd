-- What makes alternatives sound for a table: where one is met by goals that have documents, what it builds of these
-- meets its own goal, and is at most one level deeper.
use Rattle.std.specs.Prelude.{◌≡◌, ◌≤◌, ℕ, suc, List, Bool, true}
use Rattle.documents.specs.Kind.{Kind}
use Rattle.documents.specs.Document.{Document, depth, is_document}
use Rattle.positions.specs.Position.{Position}
use Rattle.goals.specs.Signed.{Signed, meets}
use Rattle.list_laws.specs.In.{IsIn}
use Rattle.alternatives.specs.Alternative.{Alternative, is_met}
use Rattle.alternatives.specs.Expansion.{Expansion}
use Rattle.expansions.specs.DocumentOf.{document_of}

module _ (T : List Position) where
  -- a document that meets a goal, of depth at most d
  pub record Meets (d : ℕ) (g : List Signed) (J : Document) : Type 0 where
    pub document : is_document J ≡ true
    pub shallow : depth J ≤ d
    pub meets : meets T g J ≡ true

  -- each alternative of these goals is sound; `words`: word k of cell c of a branch of a goal
  abbrev pub AreSound : (words : List Signed → Kind → ℕ → ℕ → ℕ → List ℕ) → (List Signed → Expansion)
      → List (List Signed) → Type 0
  AreSound words expansion gs =
      (g : List Signed) → IsIn g gs → (a : Alternative) → IsIn a (expansion g).alternatives
      → (d : ℕ) (can : List Signed → Bool) (child : List Signed → Document)
      → ((h : List Signed) → can h ≡ true → Meets d h (child h))
      → is_met can a ≡ true → Meets (suc d) g (document_of can child (words g a.kind a.branch) a)
