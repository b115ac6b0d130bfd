-- Lists of goal lines.
use Rattle.std.proofs.Common.{◌≡◌, ℕ, Bool, true, ◌&&◌, List, [], ◌∷◌, map, Option, Some, Ok, refl, ap, sym, ◌∙◌}
use Rattle.std.specs.Cmp.Lexicographic.{pointwise}
use Rattle.std.proofs.lemmas.Bool.{and_parts, and_from, true≢false}
use Rattle.positions.specs.Position.{Position}
use Rattle.goals.specs.Signed as G
use Rattle.goals.specs.Signed.{same_signed}
use Rattle.goals.specs.Goal.{form}
use Rattle.goal_laws.proofs.Signs.{same_signed-true}
use Rattle.verdicts.specs.Rules.{no_goal}
use Rattle.verdicts.specs.RowLines.{if_so}
use Rattle.verdicts.specs.Verdict.{same_list, same_goal, is_goal}
use Rattle.js_algebra.specs.View.{signed_view, are_in_table}
use Rattle.js_algebra.specs.declared.signed.Signed.{Signed}

pub same-lists : (E : Signed → Signed → Bool) → ((x y : Signed) → E x y ≡ same_signed (signed_view x) (signed_view y))
    → (xs ys : List Signed) → pointwise E xs ys ≡ same_goal (map signed_view xs) (Some (map signed_view ys))
same-lists E each [] [] = refl
same-lists E each [] (y ∷ ys) = refl
same-lists E each (x ∷ xs) [] = refl
same-lists E each (x ∷ xs) (y ∷ ys) = λ i. each x y i && same-lists E each xs ys i

same-equal : (g h : List G.Signed) → same_list g h ≡ true → g ≡ h
same-equal [] [] e = refl
same-equal [] (y ∷ h) e = absurd (true≢false (sym e))
same-equal (x ∷ g) [] e = absurd (true≢false (sym e))
same-equal (x ∷ g) (y ∷ h) e =
    let (p, q) = and_parts (same_signed x y) (same_list g h) e in
    λ i. same_signed-true x y p i ∷ same-equal g h q i

module _ (T : List Position) (xs : List G.Signed) where
  -- a list that forms itself is listed as a goal
  pub listed-goal : (h : List G.Signed) → are_in_table T xs ≡ true → same_goal xs (Some h) ≡ true
      → form T xs ≡ Some h → if_so no_goal (is_goal T xs) xs ≡ Ok h
  listed-goal h inside same formed =
      ap (λ b. if_so no_goal b xs)
      (and_from (are_in_table T xs) _ inside (ap (same_goal xs) formed ∙ same))
      ∙ ap Ok (same-equal xs h same)
