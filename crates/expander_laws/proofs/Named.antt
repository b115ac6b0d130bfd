-- A branch of which a goal has an alternative: it is among the branches, and at texts and objects its words were found.
use Rattle.std.proofs.Common.{◌≡◌, ℕ, ◌≤◌, true, ◌&&◌, nat_eq, List, [], Some, Ok, slice_get, ap, sym, ◌∙◌, subst}
use Rattle.std.proofs.lemmas.Bool.{and_parts, eqb-true}
use Rattle.documents.specs.Kind as K
use Rattle.documents.specs.Kind.{Kind, same_kind}
use Rattle.positions.specs.Position.{Position}
use Rattle.goals.specs.Signed.{Signed}
use Rattle.goals.specs.Tree as G
use Rattle.list_laws.proofs.Tests.{some_find}
use Rattle.cells.specs.Cells.{Cells}
use Rattle.alternatives.specs.Alternative.{Alternative}
use Rattle.alternatives.specs.Limit.{most_ends}
use Rattle.alternatives.specs.Expansion.{names_branch}
use Rattle.expansions.specs.Leaves.{Finders, leaf}
use Rattle.expansions.specs.Expansion.{expansion}
use Rattle.expansion_laws.proofs.Goals.{get_is}
use Rattle.expansion_laws.proofs.Origins.{IsFrom, origin}
use Rattle.expander_laws.specs.Expander.{set_cells, branch_cells}
use Rattle.expander_laws.proofs.Alternatives.{of_branch}
use Rattle.position_laws.proofs.SameKind.{same_kind-true}

module _ (F : Finders) (T : List Position) where
  abbrev pub IsFound : Kind → List Signed → Type 0
  IsFound K.Text S = (w : List ℕ) × (F.strings S ≡ Ok (Some w))
  IsFound K.Object S = (C : Cells) × (F.cells S ≡ Ok C)
  IsFound t S = Unit {0}

  was_found : (t : Kind) (k : ℕ) (S : List Signed) (a : Alternative) → IsFrom F T t k S a → IsFound t S
  was_found K.Text k S a (w, f, e) = (w, f)
  was_found K.Object k S a (C, f, h) = (C, f)
  was_found K.Null k S a h = tt
  was_found K.Boolean k S a h = tt
  was_found K.Number k S a h = tt
  was_found K.Array k S a h = tt

  pub record IsNamed (g : List Signed) (t : Kind) (k : ℕ) : Type 0 where
    pub branch : List Signed
    pub at : slice_get (G.branches (G.steps T t g)) k ≡ Some branch
    pub few : G.ends (G.steps T t g) ≤ most_ends
    pub found : IsFound t branch
    pub cells : branch_cells F T g t k ≡ set_cells F t branch

  -- a branch that is named by an alternative is one of the goal's, and its words were found
  pub named_branch : (g : List Signed) (t : Kind) (k : ℕ) → names_branch (expansion T (leaf F T) g) t k ≡ true
      → IsNamed g t k
  named_branch g t k e =
      let (a, i, h) =
      some_find (λ a. same_kind t a.kind && nat_eq k a.branch) (expansion T (leaf F T) g).alternatives e in
      let (u, v) = and_parts (same_kind t a.kind) (nat_eq k a.branch) h in
      let o = origin F T g a i in
      let (x, y) = of_branch F T o.kind o.number o.branch a o.from in
      let own : IsNamed g o.kind o.number = record {
        branch = o.branch;
        at = o.at;
        few = o.few;
        found = was_found o.kind o.number o.branch a o.from;
        cells = ap (set_cells F o.kind) (get_is [] o.branch (G.branches (G.steps T o.kind g)) o.number o.at);
      } in
      subst (λ z. IsNamed g z k) (sym (same_kind-true t a.kind u ∙ x))
      (subst (λ z. IsNamed g o.kind z) (sym (eqb-true k a.branch v ∙ y)) own)
