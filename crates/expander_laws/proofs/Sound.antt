-- The alternatives of a table's goals are sound by the words of cells, where numbers, words and cells are found
-- rightly.
use Rattle.std.proofs.Common.{◌≡◌, ℕ, suc, List, [], ◌∷◌, map, Ok, refl, ap, ap₂, sym, subst}
use Rattle.documents.specs.Kind as K
use Rattle.documents.specs.Document as D
use Rattle.documents.specs.Document.{Document}
use Rattle.positions.specs.Position.{Position}
use Rattle.positions.specs.Holds.{IsTable}
use Rattle.goals.specs.Signed.{Signed}
use Rattle.goal_laws.specs.Saturated.{IsSaturated}
use Rattle.cells.specs.Cells.{Cells}
use Rattle.alternatives.specs.Alternative as Alt
use Rattle.alternatives.specs.Alternative.{Slot, Number, Text, Shape, Alternative}
use Rattle.expansions.specs.Leaves.{Finders, leaf, words_of}
use Rattle.expansions.specs.Expansion.{expansion}
use Rattle.expansions.specs.SortedMembers.{sorted}
use Rattle.expansions.specs.DocumentOf.{with_name, by_shape, parts, by_branch}
use Rattle.expansion_laws.proofs.Leaf.{IsFinder}
use Rattle.expansion_laws.proofs.Containers.{IsCells}
use Rattle.expansion_laws.proofs.Goals.{leaves_right, expansion_made}
use Rattle.expander_laws.specs.Expander.{branch_cells, words_by}
use Rattle.expander_laws.specs.Sound.{Meets, AreSound}
use Rattle.expander_laws.proofs.Words.{Agree, slot_same, words_agree}

-- words that agree where an alternative names them build the same document

module _ (v w : ℕ → ℕ → List ℕ) where
  named_same : ((c k : ℕ) → v c k ≡ w c k) → (ps : List (Slot × Document))
      → map (with_name v) ps ≡ map (with_name w) ps
  named_same h [] = refl
  named_same h (p ∷ ps) = ap₂ (λ n r. (n, p.1) ∷ r) (slot_same v w h p.0) (named_same h ps)

  shape_same : (s : Shape) (ps : List (Slot × Document)) → Agree s v w → by_shape v s ps ≡ by_shape w s ps
  shape_same Alt.Null ps h = refl
  shape_same (Alt.Truth b) ps h = refl
  shape_same (Alt.Number n) ps h = refl
  shape_same Alt.Text ps h = ap D.string h
  shape_same Alt.Elements ps h = refl
  shape_same Alt.Members ps h = ap (λ l. D.object (sorted l)) (named_same h ps)

-- so what is sound by the words of sets is sound by those of cells
pub are_sound : (F : Finders) (T : List Position) (ok : IsTable T)
    → IsFinder T K.Number (words_of F K.Number) Number F.numbers
    → IsFinder T K.Text (words_of F K.Text) (λ w. Text) F.strings
    → ((S : List Signed) → IsSaturated T K.Object S → (C : Cells) → F.cells S ≡ Ok C → IsCells T ok S C)
    → (gs : List (List Signed)) → AreSound T (words_by (branch_cells F T)) (expansion T (leaf F T)) gs
are_sound F T ok numbers strings cells gs g i a j d can child have met =
    let (good, deep, m) =
    expansion_made T ok (words_of F) (leaf F T) (leaves_right F T ok numbers strings cells) g d can child
    (λ h c. let x = have h c in (x.document, x.shallow, x.meets)) a j met in
    subst (Meets T (suc d) g)
    (sym (shape_same (words_by (branch_cells F T) g a.kind a.branch) (by_branch T (words_of F) g a.kind a.branch)
    a.shape (parts can child a) (words_agree F T ok cells g a j)))
    (record { document = good; shallow = deep; meets = m })
