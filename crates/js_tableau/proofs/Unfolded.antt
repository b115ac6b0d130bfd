-- The steps of a set: its step, and the steps of the sets of its choices. Each tree has an end.
use Rattle.std.proofs.Common.{◌≡◌, ℕ, ◌+◌, ◌<◌, ◌≤◌, ◌⊎◌, inl, inr, ⊎_elim, true, List, [], ◌∷◌, ◌++◌, map, flat_map, length, refl, arith, ap, sym, ◌∙◌, subst}
use Rattle.std.proofs.lemmas.Bool.{and_parts, ltb-true}
use Rattle.std.proofs.lemmas.List.Folds.{flat_map-map}
use Rattle.documents.specs.Kind.{Kind}
use Rattle.positions.specs.Position.{Position, is_table}
use Rattle.positions.specs.Holds.{IsTable}
use Rattle.position_laws.proofs.Tables.{is_table-IsTable}
use Rattle.goal_laws.proofs.Steps.{steps-next, steps-induction, Told, EachChoice}
use Rattle.goals.specs.Signed.{Signed, add_all, position_of}
use Rattle.goals.specs.Tree.{Step, Clash, Wrong, Rule, Saturated, steps, steps_from, next, ends}
use Rattle.js_algebra.specs.View.{are_in_table, is_in_table}
use Rattle.js_algebra.specs.SignedSets.{set_of}

pub ends-append : (ss rs : List Step) → ends (ss ++ rs) ≡ ends ss + ends rs
ends-append [] rs = omega arith
ends-append (Clash p ∷ ss) rs = omega (arith, ends-append ss rs)
ends-append (Wrong x ∷ ss) rs = omega (arith, ends-append ss rs)
ends-append (Rule x [] ∷ ss) rs = omega (arith, ends-append ss rs)
ends-append (Rule x (C ∷ cs) ∷ ss) rs = ends-append ss rs
ends-append (Saturated S ∷ ss) rs = omega (arith, ends-append ss rs)

-- the sets of the choices of a step
abbrev pub next_sets : List Signed → Step → List (List Signed)
next_sets S (Clash p) = []
next_sets S (Wrong x) = []
next_sets S (Rule x cs) = map (λ C. add_all C S) cs
next_sets S (Saturated B) = []

pub steps_from-sets : (more : List Signed → List Step) (S : List Signed) (s : Step)
    → steps_from more S s ≡ s ∷ flat_map more (next_sets S s)
steps_from-sets more S (Clash p) = refl
steps_from-sets more S (Wrong x) = refl
steps_from-sets more S (Rule x cs) = ap (λ ss. Rule x cs ∷ ss) (sym (flat_map-map more (λ C. add_all C S) cs))
steps_from-sets more S (Saturated B) = refl

none_next : (t : Kind) → steps [] t [] ≡ steps_from (steps [] t) [] (next [] t [])
unfolding steps
none_next t = refl

module _ (P : List Position) (t : Kind) (ranks : List ℕ) (table : is_table P ranks ≡ true) where
  -- a list in a table: the table has positions, or neither has
  pub some_or_none : (T : List Position) (xs : List Signed) → are_in_table T xs ≡ true → (0 < length T)
      ⊎ ((T ≡ []) × (xs ≡ []))
  some_or_none (p ∷ T) xs e = inl (omega arith)
  some_or_none [] [] e = inr (refl, refl)
  some_or_none [] (x ∷ xs) e = absurd (omega (
    arith,
    ltb-true (position_of x) 0 (and_parts (is_in_table [] x) (are_in_table [] xs) e).0,
  ))

  empty_steps : P ≡ [] → steps P t [] ≡ steps_from (steps P t) [] (next P t [])
  empty_steps e = subst (λ Q. steps Q t [] ≡ steps_from (steps Q t) [] (next Q t [])) (sym e) (none_next t)

  pub steps-set : (xs : List Signed) → are_in_table P xs ≡ true
      → steps P t (set_of xs) ≡ next P t (set_of xs)
      ∷ flat_map (steps P t) (next_sets (set_of xs) (next P t (set_of xs)))
  steps-set xs e =
      ⊎_elim
      (λ l. steps-next P (is_table-IsTable P ranks table l) t (set_of xs))
      (λ n. subst (λ ys. steps P t (set_of ys) ≡ steps_from (steps P t) (set_of ys) (next P t (set_of ys))) (sym n.1)
      (empty_steps n.0))
      (some_or_none P xs e)
      ∙ steps_from-sets (steps P t) (set_of xs) (next P t (set_of xs))

  has_end : (ok : IsTable P) (S : List Signed) (s : Step) → Told P t S s
      → EachChoice P ok t (λ S'. 0 < ends (steps P t S')) S s → 0 < ends (steps_from (steps P t) S s)
  has_end ok S (Clash p) told h = omega arith
  has_end ok S (Wrong x) told h = omega arith
  has_end ok S (Rule x []) told h = omega arith
  has_end ok S (Rule x (C ∷ cs)) told h = omega (
    arith,
    ends-append (steps P t (add_all C S)) (flat_map (λ D. steps P t (add_all D S)) cs),
    h.0,
  )
  has_end ok S (Saturated B) told h = omega arith

  steps-ends : 0 < length P → (S : List Signed) → 0 < ends (steps P t S)
  steps-ends l S = let ok = is_table-IsTable P ranks table l in steps-induction P ok t (λ S' ss. 0 < ends ss)
      (has_end ok) S

  pub sets-ends : 0 < length P → (Ss : List (List Signed)) → length Ss ≤ ends (flat_map (steps P t) Ss)
  sets-ends l [] = omega arith
  sets-ends l (S ∷ Ss) = omega (
    arith,
    ends-append (steps P t S) (flat_map (steps P t) Ss),
    steps-ends l S,
    sets-ends l Ss,
  )

  -- each set of the choices of a step has an end
  pub next-ends : (xs : List Signed) → are_in_table P xs ≡ true
      → length (next_sets (set_of xs) (next P t (set_of xs))) ≤ ends
      (flat_map (steps P t) (next_sets (set_of xs) (next P t (set_of xs))))
  next-ends xs e =
      ⊎_elim (λ l. sets-ends l (next_sets (set_of xs) (next P t (set_of xs))))
      (λ n. let R : List Position → List Signed → Type 0 = λ Q ys.
      length (next_sets (set_of ys) (next Q t (set_of ys))) ≤ ends
      (flat_map (steps Q t) (next_sets (set_of ys) (next Q t (set_of ys)))) in
      subst (λ Q. R Q xs) (sym n.0) (subst (λ ys. R [] ys) (sym n.1) (omega arith)))
      (some_or_none P xs e)
