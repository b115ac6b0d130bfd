-- The lines of a tree do the duty of its set, where those of each branch do the branch's.
use Rattle.std.proofs.Common.{◌≡◌, ℕ, inl, Bool, List, [], ◌∷◌, ◌++◌, map, flat_map, refl, ap, ap₂, sym, ◌∙◌, subst, append_assoc, append-nil}
use Rattle.std.specs.List.{AllByRecursion}
use Rattle.std.proofs.lemmas.Bool.{and_from}
use Rattle.documents.specs.Kind.{Kind}
use Rattle.positions.specs.Position.{Position}
use Rattle.positions.specs.Holds.{IsTable}
use Rattle.goals.specs.Signed.{Signed, Plus, Minus, has, add_all}
use Rattle.goals.specs.Choices.{is_wrong}
use Rattle.goals.specs.Tree.{Step, Clash, Wrong, Rule, Saturated, steps_from, steps, branches}
use Rattle.goal_laws.proofs.Steps.{Told, EachChoice, steps-induction}
use Rattle.goal_laws.proofs.Branches.{branches-flat_map}
use Rattle.list_laws.specs.In.{IsIn}
use Rattle.list_laws.proofs.Lists.{in_left, in_right}
use Rattle.certificate_lines.specs.Line as L
use Rattle.certificate_lines.specs.Line.{Line}
use Rattle.verdicts.specs.Rules.{no_clash, not_wrong}
use Rattle.verdicts.specs.RowLines.{if_so}
use Rattle.verdicts.specs.Duties.{OfSet, by_choices, run}
use Rattle.refutations.specs.TreeLines.{step_lines, tree_lines}
use Rattle.refutation_laws.proofs.Does.{Does, DoAll, line_does, none_left}

lines_append : (leaf : List Signed → List Line) (xs ys : List Step)
    → tree_lines leaf (xs ++ ys) ≡ tree_lines leaf xs ++ tree_lines leaf ys
lines_append leaf [] ys = refl
lines_append leaf (x ∷ xs) ys =
    ap (λ z. step_lines leaf x ++ z) (lines_append leaf xs ys)
    ∙ sym (append_assoc (step_lines leaf x) (tree_lines leaf xs) (tree_lines leaf ys))

module _ (T : List Position) (ok : IsTable T) (t : Kind) (cite : ℕ → List Signed → Bool)
    (leaf : List Signed → List Line) where
  abbrev BranchesDo : List Step → Type 0
  BranchesDo ss = (B : List Signed) → IsIn B (branches ss) → Does T cite (OfSet t B) (leaf B)

  abbrev TreeDoes : List Signed → List Step → Type 0
  TreeDoes S ss = BranchesDo ss → Does T cite (OfSet t S) (tree_lines leaf ss)

  choices_do : (S : List Signed) (cs : List (List Signed))
      → AllByRecursion (λ C. TreeDoes (add_all C S) (steps T t (add_all C S))) cs
      → BranchesDo (flat_map (λ C. steps T t (add_all C S)) cs)
      → DoAll T cite (map (λ C. OfSet t (add_all C S)) cs)
      (tree_lines leaf (flat_map (λ C. steps T t (add_all C S)) cs))
  choices_do S [] h b ds ms = refl
  choices_do S (C ∷ cs) h b ds ms =
      let first : BranchesDo (steps T t (add_all C S)) = λ B i. b B
      (subst (λ z. IsIn B z) (sym (branches-flat_map (λ C. steps T t (add_all C S)) (C ∷ cs)))
      (in_left B (branches (steps T t (add_all C S))) (flat_map (λ C. branches (steps T t (add_all C S))) cs) i)) in
      let others : BranchesDo (flat_map (λ C. steps T t (add_all C S)) cs) = λ B i. b B
      (subst (λ z. IsIn B z) (sym (branches-flat_map (λ C. steps T t (add_all C S)) (C ∷ cs)))
      (in_right B (branches (steps T t (add_all C S))) (flat_map (λ C. branches (steps T t (add_all C S))) cs)
      (subst (λ z. IsIn B z) (branches-flat_map (λ C. steps T t (add_all C S)) cs) i))) in
      ap (λ z. run T cite (OfSet t (add_all C S) ∷ (map (λ C. OfSet t (add_all C S)) cs ++ ds)) z)
      (ap (λ z. z ++ ms) (lines_append leaf (steps T t (add_all C S)) (flat_map (λ C. steps T t (add_all C S)) cs))
      ∙ append_assoc (tree_lines leaf (steps T t (add_all C S)))
      (tree_lines leaf (flat_map (λ C. steps T t (add_all C S)) cs)) ms)
      ∙ h.0 first (map (λ C. OfSet t (add_all C S)) cs ++ ds)
      (tree_lines leaf (flat_map (λ C. steps T t (add_all C S)) cs) ++ ms)
      ∙ choices_do S cs h.1 others ds ms

  up : (S : List Signed) (s : Step) → Told T t S s → EachChoice T ok t (λ S'. TreeDoes S' (steps T t S')) S s
      → TreeDoes S (steps_from (steps T t) S s)
  up S (Clash p) (a, c) h b =
      line_does T cite (OfSet t S) (L.Clash p) [] []
      (ap (λ z. if_so no_clash z []) (and_from (has (Plus p) S) (has (Minus p) S) a c)) (none_left T cite)
  up S (Wrong x) (i, w) h b =
      line_does T cite (OfSet t S) (L.OfKind x) [] []
      (ap (λ z. if_so not_wrong z []) (and_from (has x S) (is_wrong T t x) i w)) (none_left T cite)
  up S (Saturated B) (e, full) h b = λ ds ms.
      subst (λ z. run T cite (OfSet t z ∷ ds) ((leaf B ++ []) ++ ms)
      ≡ run T cite ds ms) e
      (ap (λ z. run T cite (OfSet t B ∷ ds) (z ++ ms))
      (append-nil (leaf B)) ∙ b B (inl refl) ds ms)
  up S (Rule x cs) (i, e, new) h b =
      line_does T cite (OfSet t S) (L.Rule x) (map (λ C. OfSet t (add_all C S)) cs)
      (tree_lines leaf (flat_map (λ C. steps T t (add_all C S)) cs))
      (ap₂ (λ z o. by_choices t S z o) i e) (choices_do S cs h b)

  -- the lines of a tree do the duty of its set, where those of each branch do the branch's
  pub tree_does : (S : List Signed) → BranchesDo (steps T t S)
      → Does T cite (OfSet t S) (tree_lines leaf (steps T t S))
  tree_does S b = steps-induction T ok t TreeDoes up S b
