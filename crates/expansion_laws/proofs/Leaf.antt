-- What a leaf has to give: an alternative that is met for each document of its kind, and a document for each that is
-- met.
use Rattle.std.proofs.Common.{◌≡◌, ℕ, suc, ◌<◌, ◌≤◌, true, Bool, List, [], Option, Some, None, Result, Ok}
use Rattle.documents.specs.Kind.{Kind}
use Rattle.documents.specs.Document.{Document, depth, kind_of, is_document}
use Rattle.positions.specs.Position.{Position}
use Rattle.goals.specs.Signed.{Signed, meets}
use Rattle.goal_laws.specs.Saturated.{IsSaturated}
use Rattle.list_laws.specs.In.{IsIn}
use Rattle.alternatives.specs.Alternative.{Shape, Alternative, is_met}
use Rattle.alternatives.specs.Limit.{LimitKind}
use Rattle.expansions.specs.DocumentOf.{by_shape, document_of}

abbrev pub Answer : Type 0
Answer = Result (List Alternative) LimitKind

pub ok_same : {A : Type 0} (u v : A) (r : Result A LimitKind) → r ≡ Ok u → r ≡ Ok v → u ≡ v
ok_same u v r a b = cc

-- each goal that a document of lesser depth meets passes the test
abbrev pub AllPass : List Position → ℕ → (List Signed → Bool) → Type 0
AllPass T d can = (g : List Signed) (K : Document) → is_document K ≡ true → depth K < d → meets T g K ≡ true
    → can g ≡ true

-- each goal that passes has a document of depth at most d
abbrev pub AreChildren : List Position → ℕ → (List Signed → Bool) → (List Signed → Document) → Type 0
AreChildren T d can child = (g : List Signed) → can g ≡ true
    → (is_document (child g) ≡ true) × (depth (child g) ≤ d) × (meets T g (child g) ≡ true)

abbrev pub IsMade : List Position → ℕ → List Signed → Document → Type 0
IsMade T d S K = (is_document K ≡ true) × (depth K ≤ d) × (meets T S K ≡ true)

-- `words`: word k of cell c of a branch
pub record IsLeaf (T : List Position) (t : Kind) (words : List Signed → ℕ → ℕ → List ℕ)
    (leaf : ℕ → List Signed → Answer) : Type 0 where
  -- where a document of the kind meets the set, one of the leaf's alternatives is met
  pub follows : (k : ℕ) (S : List Signed) → IsSaturated T t S → (more : List Alternative) → leaf k S ≡ Ok more
      → (d : ℕ) (can : List Signed → Bool) → AllPass T d can
      → (J : Document) → is_document J ≡ true → kind_of J ≡ t → depth J ≤ d → meets T S J ≡ true
      → (a : Alternative) × IsIn a more × (is_met can a ≡ true)
  -- the document of an alternative that is met meets the set
  pub made : (k : ℕ) (S : List Signed) → IsSaturated T t S → (more : List Alternative) → leaf k S ≡ Ok more
      → (d : ℕ) (can : List Signed → Bool) (child : List Signed → Document) → AreChildren T d can child
      → (a : Alternative) → IsIn a more → is_met can a ≡ true → IsMade T (suc d) S (document_of can child (words S) a)
  pub of_branch : (k : ℕ) (S : List Signed) (more : List Alternative) → leaf k S ≡ Ok more → (a : Alternative)
      → IsIn a more
      → (a.kind ≡ t) × (a.branch ≡ k)

-- what lists scalars: each that is listed, in its shape, meets the set, and one is listed where a document of the kind
-- meets it
pub record IsListing {A : Type 0} (T : List Position) (t : Kind) (words : List Signed → ℕ → ℕ → List ℕ)
    (shape : A → Shape) (list : List Signed → Result (List A) LimitKind) : Type 0 where
  pub listed : (S : List Signed) → IsSaturated T t S → (xs : List A) → list S ≡ Ok xs → (x : A) → IsIn x xs
      → IsMade T 0 S (by_shape (words S) (shape x) [])
  pub some_listed : (S : List Signed) → IsSaturated T t S → (xs : List A) → list S ≡ Ok xs
      → (J : Document) → is_document J ≡ true → kind_of J ≡ t → meets T S J ≡ true → (x : A) × IsIn x xs

-- what finds a scalar: the one that it finds, in its shape, meets the set, and where it finds none no document of the
-- kind does
pub record IsFinder {A : Type 0} (T : List Position) (t : Kind) (words : List Signed → ℕ → ℕ → List ℕ)
    (shape : A → Shape) (find : List Signed → Result (Option A) LimitKind) : Type 0 where
  pub found : (S : List Signed) → IsSaturated T t S → (x : A) → find S ≡ Ok (Some x)
      → IsMade T 0 S (by_shape (words S) (shape x) [])
  pub none_found : (S : List Signed) → IsSaturated T t S → find S ≡ Ok None
      → (J : Document) → is_document J ≡ true → kind_of J ≡ t → meets T S J ≡ true → ⊥
