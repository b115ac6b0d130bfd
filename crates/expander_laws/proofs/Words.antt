-- The words of a branch by its cells are those by its set, where an alternative names them.
use Rattle.std.proofs.Common.{◌≡◌, ℕ, ◌<◌, ◌≤◌, ◌⊎◌, inl, inr, List, [], ◌∷◌, length, get_or, Result, Ok, Err, refl, ap, sym, ◌∙◌, subst, arith}
use Rattle.std.proofs.lemmas.Bool.{cases_lt}
use Rattle.std.proofs.lemmas.List.{get_or_past}
use Rattle.documents.specs.Kind as K
use Rattle.documents.specs.Kind.{Kind}
use Rattle.positions.specs.Position.{Position}
use Rattle.positions.specs.Holds.{IsTable}
use Rattle.goals.specs.Signed.{Signed}
use Rattle.goals.specs.Tree as G
use Rattle.goal_laws.specs.Saturated.{IsSaturated}
use Rattle.list_laws.specs.In.{IsIn}
use Rattle.cells.specs.Cells.{Cells}
use Rattle.alternatives.specs.Alternative as Alt
use Rattle.alternatives.specs.Alternative.{Slot, Index, Name, Shape, Alternative}
use Rattle.alternatives.specs.Limit.{LimitKind}
use Rattle.alternatives.specs.Slots.{word_at}
use Rattle.expansions.specs.Leaves.{Finders, leaf, name, names_of, word_of, words_of}
use Rattle.expansions.specs.Expansion.{expansion}
use Rattle.expansions.specs.DocumentOf.{slot_name, by_branch}
use Rattle.expansion_laws.proofs.Containers.{IsCells}
use Rattle.expansion_laws.proofs.Goals.{get_is}
use Rattle.expansion_laws.proofs.Origins.{IsFrom, origin}
use Rattle.expander_laws.specs.Expander.{text_cells, name_cells, set_cells, branch_cells, words_by}
use Rattle.expander_laws.proofs.Alternatives.{cell_is, cells_many, of_branch}
use Rattle.expander_laws.proofs.Laws.{branch_saturated}

-- words of a branch that agree where an alternative of a shape names them
abbrev pub Agree : Shape → (ℕ → ℕ → List ℕ) → (ℕ → ℕ → List ℕ) → Type 0
Agree Alt.Text v w = v 0 0 ≡ w 0 0
Agree Alt.Members v w = (c k : ℕ) → v c k ≡ w c k
Agree s v w = Unit {0}

everywhere : (s : Shape) (v w : ℕ → ℕ → List ℕ) → ((c k : ℕ) → v c k ≡ w c k) → Agree s v w
everywhere Alt.Text v w h = h 0 0
everywhere Alt.Members v w h = h
everywhere Alt.Null v w h = tt
everywhere (Alt.Truth b) v w h = tt
everywhere (Alt.Number n) v w h = tt
everywhere Alt.Elements v w h = tt

pub slot_same : (v w : ℕ → ℕ → List ℕ) → ((c k : ℕ) → v c k ≡ w c k) → (s : Slot) → slot_name v s ≡ slot_name w s
slot_same v w h (Index i) = refl
slot_same v w h (Name c k) = h c k

module _ (F : Finders) (T : List Position) (ok : IsTable T)
    (right : (S : List Signed) → IsSaturated T K.Object S → (C : Cells) → F.cells S ≡ Ok C → IsCells T ok S C) where
  -- past all cells there is no name
  no_name : (S : List Signed) (C : Cells) → IsCells T ok S C → (c : ℕ) → length C.vectors ≤ c → C.words c ≡ []
  no_name S C h c l = go (C.words c) refl where
    go : (ws : List (List ℕ)) → C.words c ≡ ws → ws ≡ []
    go [] e = refl
    go (w ∷ ws) e =
        let (scalar, is) = h.words.of_cell c w (subst (λ z. IsIn w z) (sym e) (inl refl)) in
        let m = h.cells.known w scalar in absurd (omega (arith, is, m, l))

  names_same : (S : List Signed) (r : Result Cells LimitKind) → ((C : Cells) → r ≡ Ok C → IsCells T ok S C)
      → (c k : ℕ) → word_at (name_cells r) c k ≡ names_of r c k
  names_same S (Err l) h c k = refl
  names_same S (Ok C) h c k = by (cases_lt c (length C.vectors)) where
    by : (c < length C.vectors) ⊎ (length C.vectors ≤ c) → word_at (name_cells (Ok C)) c k ≡ name C c k
    by (inl l) = ap (λ ws. get_or ws k []) (cell_is C c l)
    by (inr l) =
        let m = cells_many C in
        ap (λ ws. get_or ws k []) (get_or_past (name_cells (Ok C)) c [] (omega (arith, l, m))
        ∙ sym (no_name S C (h C refl) c l))

  kind_agrees : (t : Kind) (k : ℕ) (S : List Signed) → IsSaturated T t S → (a : Alternative) → IsFrom F T t k S a
      → Agree a.shape (word_at (set_cells F t S)) (words_of F t S)
  kind_agrees K.Null k S full a h = everywhere a.shape (word_at []) (λ c k. []) (λ c k. refl)
  kind_agrees K.Boolean k S full a h = everywhere a.shape (word_at []) (λ c k. []) (λ c k. refl)
  kind_agrees K.Number k S full a h = everywhere a.shape (word_at []) (λ c k. []) (λ c k. refl)
  kind_agrees K.Array k S full a h = everywhere a.shape (word_at []) (λ c k. []) (λ c k. refl)
  kind_agrees K.Text k S full a (w, f, e) =
      subst (λ z. Agree z.shape (word_at (text_cells (F.strings S))) (word_of (F.strings S))) (sym e)
      (subst (λ r. word_at (text_cells r) 0 0 ≡ word_of r 0 0) (sym f) refl)
  kind_agrees K.Object k S full a h = everywhere a.shape (word_at (name_cells (F.cells S))) (names_of (F.cells S))
      (names_same S (F.cells S) (right S full))

  -- whatever an alternative of a goal names
  pub words_agree : (g : List Signed) (a : Alternative) → IsIn a (expansion T (leaf F T) g).alternatives
      → Agree a.shape (words_by (branch_cells F T) g a.kind a.branch) (by_branch T (words_of F) g a.kind a.branch)
  words_agree g a i =
      let o = origin F T g a i in
      let (x, y) = of_branch F T o.kind o.number o.branch a o.from in
      let s : IsSaturated T o.kind o.branch = branch_saturated T [] ok o.kind g o.branch o.number o.at in
      let at = get_is [] o.branch (G.branches (G.steps T o.kind g)) o.number o.at in
      let here : Agree a.shape
      (word_at (set_cells F o.kind (get_or (G.branches (G.steps T o.kind g)) o.number [])))
      (words_of F o.kind (get_or (G.branches (G.steps T o.kind g)) o.number [])) =
      subst (λ z. Agree a.shape (word_at (set_cells F o.kind z)) (words_of F o.kind z)) (sym at)
      (kind_agrees o.kind o.number o.branch s a o.from) in
      subst (λ z. Agree a.shape (word_at (set_cells F z (get_or (G.branches (G.steps T z g)) a.branch [])))
      (words_of F z (get_or (G.branches (G.steps T z g)) a.branch []))) (sym x)
      (subst (λ n. Agree a.shape (word_at (set_cells F o.kind (get_or (G.branches (G.steps T o.kind g)) n [])))
      (words_of F o.kind (get_or (G.branches (G.steps T o.kind g)) n []))) (sym y) here)
