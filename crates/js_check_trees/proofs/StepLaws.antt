-- What lines say of a set, by what its members say.
use Rattle.std.proofs.Common.{◌≡◌, ℕ, Bool, true, false, ◌&&◌, List, [], Option, Some, None, is_none, Result, Ok, Err, refl, ap, sym, ◌∙◌}
use Rattle.std.proofs.lemmas.Bool.{true≢false, and_from}
use Rattle.documents.specs.Kind.{Kind}
use Rattle.positions.specs.Position.{Position}
use Rattle.goals.specs.Signed as G
use Rattle.goals.specs.Signed.{Plus, Minus, has, add_all}
use Rattle.goals.specs.Choices.{choices, is_wrong}
use Rattle.goals.specs.Tree.{choice_list}
use Rattle.goal_laws.proofs.Signs.{every-add_all}
use Rattle.certificate_lines.specs.Line.{Rule, Clash, OfKind}
use Rattle.verdicts.specs.Rules.{no_choices, no_clash, not_wrong}
use Rattle.verdicts.specs.RowLines.{if_so}
use Rattle.verdicts.specs.Duties.{Duty, after_set, by_choices}
use Rattle.js_algebra.specs.View.{is_in_table, are_in_table}
use Rattle.js_algebra.specs.SignedSets.{set_of}
use Rattle.js_algebra.proofs.Grown.{has-set_of}
use Rattle.js_check_trees.specs.Choosing.{choice_duties, choices_of}

-- the set of members is in the table
pub set_in_table : (T : List Position) (xs : List G.Signed) → are_in_table T xs ≡ true
    → are_in_table T (set_of xs) ≡ true
set_in_table T xs e = every-add_all (is_in_table T) xs [] ∙ and_from (are_in_table T xs) true e refl

module _ (T : List Position) (t : Kind) where
  pub no-member : (xs : List G.Signed) (x : G.Signed) → false ≡ has x xs
      → after_set T t (set_of xs) (Rule x) ≡ Err no_choices
  no-member xs x e = ap (λ b. by_choices t (set_of xs) b (choices T t x)) (has-set_of x xs ∙ sym e)

  pub splits : (xs : List G.Signed) (x : G.Signed) → true ≡ has x xs → false ≡ is_none (choices T t x)
      → after_set T t (set_of xs) (Rule x) ≡ Ok (choice_duties t (set_of xs) (choices_of T t x))
  splits xs x member some =
      ap (λ b. by_choices t (set_of xs) b (choices T t x)) (has-set_of x xs ∙ sym member)
      ∙ go (choices T t x) some
    where
      go : (o : Option (List (List G.Signed))) → false ≡ is_none o
          → by_choices t (set_of xs) true o ≡ Ok (choice_duties t (set_of xs) (choice_list o))
      go None f = absurd (true≢false (sym f))
      go (Some cs) f = refl

  pub clash-by : (xs : List G.Signed) (p : ℕ) (b : Bool) (r : Result (List Duty) ℕ)
      → b ≡ (has (Plus p) xs && has (Minus p) xs) → r ≡ if_so no_clash b []
      → after_set T t (set_of xs) (Clash p) ≡ r
  clash-by xs p b r e f =
      ap (λ b. if_so no_clash b [])
      ((λ i. has-set_of (Plus p) xs i && has-set_of (Minus p) xs i) ∙ sym e) ∙ sym f

  pub kind-by : (xs : List G.Signed) (x : G.Signed) (b : Bool) (r : Result (List Duty) ℕ)
      → b ≡ (has x xs && is_wrong T t x) → r ≡ if_so not_wrong b []
      → after_set T t (set_of xs) (OfKind x) ≡ r
  kind-by xs x b r e f =
      ap (λ b. if_so not_wrong b []) (ap (λ h. h && is_wrong T t x) (has-set_of x xs) ∙ sym e) ∙ sym f
