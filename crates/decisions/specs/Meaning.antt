-- What each verdict means.
use Rattle.std.specs.Prelude.{◌≡◌, ◌<◌, ◌⊎◌, ℕ, suc, List, length, true, false, Some, None, slice_get}
use Rattle.documents.specs.Document as D
use Rattle.documents.specs.Document.{is_document}
use Rattle.shared_documents.specs.Part.{Part}
use Rattle.shared_documents.specs.Unshared.{unshared}
use Rattle.positions.specs.Position.{Position}
use Rattle.positions.specs.Holds.{holds}
use Rattle.goals.specs.Signed.{Signed}
use Rattle.alternatives.specs.Limit.{LimitKind, Goals, Total}
use Rattle.alternatives.specs.Expansion.{Expansion}
use Rattle.expansions.specs.Leaves.{Finders, leaf}
use Rattle.expansions.specs.Expansion.{expansion}
use Rattle.search.specs.Explored.{Found, explored}
use Rattle.search.specs.Rounds.{hole_of, round}
use Rattle.decisions.specs.Decision.{Verdict, Document, Limit, NoDocument, root_of}

-- the parts stand for a document that meets the first position and not the second one
pub record IsCounterexample (T : List Position) (a b : ℕ) (ps : List Part) (i : ℕ) : Type 0 where
  pub good : is_document (unshared ps i) ≡ true
  pub first : holds T a (unshared ps i) ≡ true
  pub second : holds T b (unshared ps i) ≡ false
  -- part i is the last of the table
  pub last : suc i ≡ length ps

-- each document of which the first position holds has the second one holding
abbrev pub IsIncluded : List Position → ℕ → ℕ → Type 0
IsIncluded T a b = (J : D.Document) → is_document J ≡ true → holds T a J ≡ true → holds T b J ≡ true

module _ (expansion : List Signed → Expansion) (f : Found) where
  -- no round has goal 0
  abbrev pub IsUnmet : Type 0
  IsUnmet = (r : ℕ) → round expansion f r 0 ≡ false

  -- no explored goal has a hole
  abbrev pub AreOpen : Type 0
  AreOpen = (n : ℕ) → hole_of expansion f n ≡ None

  -- the explored goal of least number that has a hole, with its hole
  pub record IsLeast (k : LimitKind) (g : List Signed) : Type 0 where
    pub number : ℕ
    pub at : slice_get f.goals number ≡ Some g
    pub hole : hole_of expansion f number ≡ Some k
    pub before : (m : ℕ) → m < number → hole_of expansion f m ≡ None

-- what holds of the goals that are explored from the root
pub record OfRoot (F : Finders) (T : List Position) (most most_places a b : ℕ)
    (P : (List Signed → Expansion) → Found → Type 0) : Type 0 where
  pub root : List Signed
  pub is_root : root_of T a b ≡ Some root
  pub holds : P (expansion T (leaf F T)) (explored most most_places (expansion T (leaf F T)) root)

module _ (F : Finders) (T : List Position) (most most_places a b : ℕ) where
  abbrev pub Means : Verdict → Type 0
  Means (Document ps i) = IsCounterexample T a b ps i
  Means NoDocument = IsIncluded T a b
  -- the search doesn't reach the root: it names the first hole, or that it stopped where there is none
  Means (Limit k (Some g)) = OfRoot F T most most_places a b (λ e f. IsUnmet e f × IsLeast e f k g)
  Means (Limit k None) =
      OfRoot F T most most_places a b
      (λ e f. IsUnmet e f × (f.over ≡ Some k) × AreOpen e f × ((k ≡ Goals) ⊎ (k ≡ Total)))
