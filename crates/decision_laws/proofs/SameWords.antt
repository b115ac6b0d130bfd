-- Parts and decisions are the same by the words of cells and by those of sets, since these agree where an alternative
-- names them.
use Rattle.std.proofs.Common.{◌≡◌, ℕ, inl, inr, Bool, true, false, cond, nat_lt, List, [], ◌∷◌, map, length, take, Option, Some, None, Ok, is_some, slice_get, refl, ap, ap₂, sym, subst}
use Rattle.documents.specs.Kind as K
use Rattle.documents.specs.Kind.{Kind}
use Rattle.shared_documents.specs.Part as P
use Rattle.positions.specs.Position.{Position}
use Rattle.positions.specs.Holds.{IsTable}
use Rattle.goals.specs.Signed.{Signed}
use Rattle.goal_laws.specs.Saturated.{IsSaturated}
use Rattle.list_laws.specs.In.{IsIn}
use Rattle.list_laws.proofs.Lists.{from_flat_map, slice_get-in}
use Rattle.cells.specs.Cells.{Cells}
use Rattle.alternatives.specs.Alternative as Alt
use Rattle.alternatives.specs.Alternative.{Shape, Alternative}
use Rattle.alternatives.specs.Expansion.{Expansion}
use Rattle.expansions.specs.Leaves.{Finders, leaf, words_of}
use Rattle.expansions.specs.Expansion.{expansion}
use Rattle.expansions.specs.DocumentOf.{by_branch}
use Rattle.expansion_laws.proofs.Containers.{IsCells}
use Rattle.search.specs.Explored.{Found, explored}
use Rattle.search.specs.Rounds.{NumberedPlaced, Numbered, number_members, with_members, numbered, alternatives_at, alternatives_of}
use Rattle.search.specs.Uses.{satisfied, last_round, chosen_in, chosen, contents, used_goals}
use Rattle.search.specs.Witness.{sorted, place_in, named, by_shape, of_goal, part, parts}
use Rattle.expander_laws.specs.Expander.{branch_cells, words_by}
use Rattle.expander_laws.proofs.Words.{Agree, slot_same, words_agree}
use Rattle.decisions.specs.Decision.{Document, by_limits, first_hole, of_found, of_root}

-- parts

module _ (v w : ℕ → ℕ → List ℕ) (place : ℕ → ℕ) where
  named_same : ((c k : ℕ) → v c k ≡ w c k) → (ps : List NumberedPlaced)
      → map (named v place) ps ≡ map (named w place) ps
  named_same h [] = refl
  named_same h (p ∷ ps) = ap₂ (λ n r. (n, place p.goal) ∷ r) (slot_same v w h p.slot) (named_same h ps)

  shape_same : (s : Shape) (ps : List NumberedPlaced) → Agree s v w → by_shape v place s ps ≡ by_shape w place s ps
  shape_same Alt.Null ps h = refl
  shape_same (Alt.Truth b) ps h = refl
  shape_same (Alt.Number n) ps h = refl
  shape_same Alt.Text ps h = ap P.string h
  shape_same Alt.Elements ps h = refl
  shape_same Alt.Members ps h = ap (λ l. P.object (sorted l)) (named_same h ps)

module _ (v w : List Signed → Kind → ℕ → ℕ → ℕ → List ℕ) (expansion : List Signed → Expansion) (f : Found)
    (agree : (g : List Signed) (a : Alternative) → IsIn a (expansion g).alternatives
    → Agree a.shape (v g a.kind a.branch) (w g a.kind a.branch)) where
  number_agrees : (g : List Signed) (a : Numbered) → IsIn a (numbered f.goals (expansion g).alternatives)
      → Agree a.shape (v g a.kind a.branch) (w g a.kind a.branch)
  number_agrees g a i =
      let (x, j, u) =
      from_flat_map (λ a. with_members f.goals a (number_members f.goals a.members)) a (expansion g).alternatives i in
      go x (number_members f.goals x.members) u (agree g x j)
    where
      go : (x : Alternative) (o : Option (List NumberedPlaced)) → IsIn a (with_members f.goals x o)
          → Agree x.shape (v g x.kind x.branch) (w g x.kind x.branch)
          → Agree a.shape (v g a.kind a.branch) (w g a.kind a.branch)
      go x None u h = absurd u
      go x (Some ms) (inl e) h = subst (λ z. Agree z.shape (v g z.kind z.branch) (w g z.kind z.branch)) (sym e) h
      go x (Some ms) (inr u) h = absurd u

  part_same : (place : ℕ → ℕ) (n : ℕ) → part v expansion f place n ≡ part w expansion f place n
  part_same place n = go (slice_get f.goals n) refl (chosen expansion f n) refl where
    picked : (bs : List Numbered) (s : Option (ℕ × ℕ)) (a : Numbered) → chosen_in bs s ≡ Some a → IsIn a bs
    picked bs None a e = cc
    picked bs (Some x) a e = slice_get-in a bs x.1 e

    listed : (g : List Signed) → slice_get f.goals n ≡ Some g → (b : Bool) (a : Numbered)
        → IsIn a (cond b (alternatives_at expansion f (slice_get f.goals n)) [])
        → IsIn a (numbered f.goals (expansion g).alternatives)
    listed g e true a i = subst (λ o. IsIn a (alternatives_at expansion f o)) e i
    listed g e false a i = absurd i

    go : (o : Option (List Signed)) → slice_get f.goals n ≡ o → (s : Option Numbered) → chosen expansion f n ≡ s
        → of_goal v expansion f place (contents expansion f n) o s
        ≡ of_goal w expansion f place (contents expansion f n) o s
    go None p s q = refl
    go (Some g) p None q = refl
    go (Some g) p (Some a) q =
        shape_same (v g a.kind a.branch) (w g a.kind a.branch) place a.shape (contents expansion f n)
        (number_agrees g a (listed g p (nat_lt n f.taken) a
        (picked (alternatives_of expansion f n) (satisfied expansion f n) a q)))

  pub parts_same : (n : ℕ) → parts v expansion f n ≡ parts w expansion f n
  parts_same n = each (used_goals expansion f n) where
    each : (ms : List ℕ) → map (part v expansion f (place_in (used_goals expansion f n))) ms
        ≡ map (part w expansion f (place_in (used_goals expansion f n))) ms
    each [] = refl
    each (m ∷ ms) = ap₂ (λ x xs. x ∷ xs) (part_same (place_in (used_goals expansion f n)) m) (each ms)

  pub found_same : of_found v expansion f ≡ of_found w expansion f
  found_same = ap (λ ps. record {
    verdict = cond (is_some (satisfied expansion f 0))
        (Document ps (place_in (used_goals expansion f 0) 0))
        (by_limits (first_hole expansion (take f.taken f.goals)) f.over);
    goals = length f.goals;
    rounds = last_round expansion f;
  }) (parts_same 0)

module _ (F : Finders) (T : List Position) (ok : IsTable T)
    (right : (S : List Signed) → IsSaturated T K.Object S → (C : Cells) → F.cells S ≡ Ok C → IsCells T ok S C) where
  -- so what is decided with the words of cells is what is decided
  pub same_decided : (most most_places : ℕ) (o : Option (List Signed))
      → of_root (words_by (branch_cells F T)) (expansion T (leaf F T)) most most_places o
      ≡ of_root (by_branch T (words_of F)) (expansion T (leaf F T)) most most_places o
  same_decided most most_places None = refl
  same_decided most most_places (Some root) =
      found_same (words_by (branch_cells F T)) (by_branch T (words_of F)) (expansion T (leaf F T))
      (explored most most_places (expansion T (leaf F T)) root) (words_agree F T ok right)
