-- A goal without hole is met exactly where one of its alternatives is: two halves over a test of goals.
use Rattle.std.proofs.Common.{◌≡◌, ℕ, zero, suc, ◌≤◌, inl, inr, true, Bool, List, [], ◌∷◌, Ok, Some, None, slice_get, get_or, refl, ap, sym, ◌∙◌, subst}
use Rattle.std.specs.List.{AllByRecursion}
use Rattle.documents.specs.Kind as K
use Rattle.documents.specs.Kind.{Kind}
use Rattle.documents.specs.Document.{Document, null, depth, kind_of, is_document}
use Rattle.positions.specs.Position.{Position}
use Rattle.positions.specs.Holds.{IsTable}
use Rattle.goals.specs.Signed.{Signed, meets}
use Rattle.goals.specs.Goal.{contains}
use Rattle.goals.specs.Tree as G
use Rattle.goal_laws.specs.Saturated.{IsSaturated}
use Rattle.goal_laws.proofs.Forms.{contains-met}
use Rattle.goal_laws.proofs.Branches.{meets-branches, branches-are}
use Rattle.list_laws.specs.In.{IsIn}
use Rattle.list_laws.proofs.Tests.{some_find}
use Rattle.cells.specs.Cells.{Cells}
use Rattle.alternatives.specs.Alternative.{Null, Truth, Number, Text, Alternative, is_met}
use Rattle.expansions.specs.Leaves.{Finders, leaf, words_of}
use Rattle.expansions.specs.DocumentOf.{document_of, branch_of}
use Rattle.expansions.specs.Expansion.{expansion}
use Rattle.expansion_laws.proofs.Leaf.{Answer, AllPass, AreChildren, IsMade, IsLeaf, IsFinder}
use Rattle.expansion_laws.proofs.Kept.{expansion_has, expansion_from}
use Rattle.expansion_laws.proofs.Scalars.{listing_leaf, finder_leaf, null_listing, boolean_listing}
use Rattle.expansion_laws.proofs.Containers.{IsCells, array_is_leaf, object_is_leaf}
use Rattle.list_laws.proofs.Lists.{slice_get-in}

pub all_in : {A : Type 0} (P : A → Type 0) (x : A) (xs : List A) → AllByRecursion P xs → IsIn x xs → P x
all_in P x [] h i = absurd i
all_in P x (y ∷ ys) h (inl e) = subst P (sym e) h.0
all_in P x (y ∷ ys) h (inr i) = all_in P x ys h.1 i

-- what is at a place of a list is there whatever default is given
pub get_is : {A : Type 0} (d x : A) (xs : List A) (n : ℕ) → slice_get xs n ≡ Some x → get_or xs n d ≡ x
get_is d x [] n e = cc
get_is d x (y ∷ xs) zero e = cc
get_is d x (y ∷ xs) (suc n) e = get_is d x xs n e

module _ (T : List Position) (ok : IsTable T) (words : Kind → List Signed → ℕ → ℕ → List ℕ)
    (leaves : Kind → ℕ → List Signed → Answer) (right : (t : Kind) → IsLeaf T t (words t) (leaves t)) where
  branch_is : (t : Kind) (g S : List Signed) → IsIn S (G.branches (G.steps T t g))
      → IsSaturated T t S × (contains S g ≡ true)
  branch_is t g S i =
      all_in (λ C. IsSaturated T t C × (contains C g ≡ true)) S (G.branches (G.steps T t g)) (branches-are T ok t g) i

  -- a document of depth at most d meets an alternative, where goals that are met by documents of lesser depth pass
  pub expansion_follows : (g : List Signed) → (expansion T leaves g).hole ≡ None → (d : ℕ) (can : List Signed → Bool)
      → AllPass T d can
      → (J : Document) → is_document J ≡ true → depth J ≤ d → meets T g J ≡ true
      → (a : Alternative) × IsIn a (expansion T leaves g).alternatives × (is_met can a ≡ true)
  expansion_follows g open_ d can pass J good deep m =
      let (S, i, h) =
      some_find (λ B. meets T B J) (G.branches (G.steps T (kind_of J) g)) (sym (meets-branches T ok J g) ∙ m) in
      let (k, (more, e, up)) = expansion_has T leaves g open_ (kind_of J) S i in
      let (a, j, u) =
      (right (kind_of J)).follows k S (branch_is (kind_of J) g S i).0 more e d can pass J good refl deep h in
      (a, up a j, u)

  -- the document of an alternative that is met meets the goal, of depth at most one more than its children
  pub expansion_made : (g : List Signed) (d : ℕ) (can : List Signed → Bool) (child : List Signed → Document)
      → AreChildren T d can child
      → (a : Alternative) → IsIn a (expansion T leaves g).alternatives → is_met can a ≡ true
      → IsMade T (suc d) g (document_of can child (words a.kind (branch_of T g a)) a)
  expansion_made g d can child are a i u =
      let (t, (k, (S, j, few, (more, e, l)))) = expansion_from T leaves g a i in
      let (full, big) = branch_is t g S (slice_get-in S (G.branches (G.steps T t g)) k j) in
      let (x, y) = (right t).of_branch k S more e a l in
      let same : branch_of T g a ≡ S = ap (λ z. get_or (G.branches (G.steps T z g)) a.branch []) x
      ∙ ap (λ z. get_or (G.branches (G.steps T t g)) z []) y ∙ get_is [] S (G.branches (G.steps T t g)) k j in
      let (good, deep, m) = (right t).made k S full more e d can child are a l u in
      let own : IsMade T (suc d) g (document_of can child (words t S) a) =
      (good, deep, contains-met T ok (document_of can child (words t S) a) S g big m) in
      subst (λ z. IsMade T (suc d) g (document_of can child (words z (branch_of T g a)) a)) (sym x)
      (subst (λ z. IsMade T (suc d) g (document_of can child (words t z) a)) (sym same) own)

-- the leaves of the six kinds, where numbers, words and cells are found rightly
pub leaves_right : (F : Finders) (T : List Position) (ok : IsTable T)
    → IsFinder T K.Number (words_of F K.Number) Number F.numbers
    → IsFinder T K.Text (words_of F K.Text) (λ w. Text) F.strings
    → ((S : List Signed) → IsSaturated T K.Object S → (C : Cells) → F.cells S ≡ Ok C → IsCells T ok S C)
    → (t : Kind) → IsLeaf T t (words_of F t) (leaf F T t)
leaves_right F T ok numbers strings cells K.Null = listing_leaf T K.Null (λ J. Null) (λ S. Ok (null ∷ [])) _
    (null_listing T ok _ null)
leaves_right F T ok numbers strings cells K.Boolean = listing_leaf T K.Boolean Truth _ _ (boolean_listing T ok _)
leaves_right F T ok numbers strings cells K.Number = finder_leaf T K.Number Number F.numbers _ numbers
leaves_right F T ok numbers strings cells K.Text = finder_leaf T K.Text (λ w. Text) F.strings _ strings
leaves_right F T ok numbers strings cells K.Array = array_is_leaf T ok _
leaves_right F T ok numbers strings cells K.Object = object_is_leaf T ok F.cells cells
