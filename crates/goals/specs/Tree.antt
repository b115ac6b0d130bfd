-- The tree of a set of signed positions at a kind, as its steps in pre-order.
use Rattle.std.specs.Prelude.{ℕ, zero, suc, ◌*◌, List, [], ◌∷◌, flat_map, length, Bool, true, false, not, cond, Option, Some, None}
use Rattle.documents.specs.Tests.{every, some}
use Rattle.documents.specs.Kind.{Kind}
use Rattle.positions.specs.Position.{Position}
use Rattle.goals.specs.Signed.{Signed, position_of, opposite, has, add_all}
use Rattle.goals.specs.Choices.{choices, is_wrong}

-- what the tree has at a set: an end closed by a position with both signs, an end closed by a wrong literal, a rule
-- with a tree for each choice (without choices a closed end too), or a saturated end
pub data Step : Type 0 where
  Clash : ℕ → Step
  Wrong : Signed → Step
  Rule : Signed → List (List Signed) → Step
  Saturated : List Signed → Step

-- one of the choices is in the set; a literal has nothing to choose
abbrev pub has_choice : List Signed → Option (List (List Signed)) → Bool
has_choice S None = true
has_choice S (Some cs) = some (λ C. every (λ x. has x S) C) cs

abbrev pub first : {A : Type 0} → (A → Bool) → List A → Option A
first p [] = None
first p (x ∷ xs) = cond (p x) (Some x) (first p xs)

abbrev pub choice_list : Option (List (List Signed)) → List (List Signed)
choice_list (Some cs) = cs
choice_list None = []

abbrev pub step_at : (Signed → Step) → Option Signed → Step → Step
step_at f (Some x) s = f x
step_at f None s = s

-- the step at a set, which is a rising list: the least position with both signs; else the least wrong literal; else
-- the least signed position of which no choice is in the set; else the set is saturated
abbrev pub next : List Position → Kind → List Signed → Step
next T t S =
    step_at (λ x. Clash (position_of x)) (first (λ x. has (opposite x) S) S)
    (step_at Wrong (first (is_wrong T t) S)
    (step_at (λ x. Rule x (choice_list (choices T t x))) (first (λ x. not (has_choice S (choices T t x))) S)
    (Saturated S)))

abbrev pub steps_from : (List Signed → List Step) → List Signed → Step → List Step
steps_from more S (Rule x cs) = Rule x cs ∷ flat_map (λ C. more (add_all C S)) cs
steps_from more S s = s ∷ []

abbrev pub steps_within : List Position → Kind → ℕ → List Signed → List Step
steps_within T t zero S = []
steps_within T t (suc n) S = steps_from (steps_within T t n) S (next T t S)

-- the steps of the tree of a set, in pre-order. In a table each rule adds a signed position that the set lacks, so no
-- path is longer than twice the table
unfoldable pub steps : List Position → Kind → List Signed → List Step
steps T t S = steps_within T t (suc (2 * length T)) S

abbrev pub is_end : Step → Bool
is_end (Rule x (C ∷ cs)) = false
is_end s = true

-- the number of ends of a tree, closed ends included
abbrev pub ends : List Step → ℕ
ends [] = 0
ends (s ∷ ss) = cond (is_end s) (suc (ends ss)) (ends ss)

-- the branches of a tree: the sets of its saturated ends, in order
abbrev pub branches : List Step → List (List Signed)
branches [] = []
branches (Saturated S ∷ ss) = S ∷ branches ss
branches (s ∷ ss) = branches ss
