-- What holds of a walk: what its set covers, and the step at it.
use Rattle.std.specs.Prelude.{◌≡◌, ◌≤◌, List, map, length, take, Bool, true, false, ◌&&◌, ◌||◌, not, Option, Some, None, ⊤}
use Rattle.documents.specs.Tests.{every}
use Rattle.documents.specs.Kind.{Kind}
use Rattle.positions.specs.Position.{Position}
use Rattle.goals.specs.Signed.{Signed, same_signed, has, opposite, position_of}
use Rattle.goals.specs.Choices.{choices, is_wrong}
use Rattle.goals.specs.Tree as T
use Rattle.goals.specs.Tree.{has_choice, choice_list}
use Rattle.js_algebra.specs.Order.{order_of}
use Rattle.js_algebra.specs.View.{signed_view}
use Rattle.js_tableau.specs.declared.walk.Walk.{Walk}
use Rattle.js_tableau.specs.declared.walk.Step.{Step}
use Rattle.js_tableau.specs.declared.walk.Step.TheVariants as V

-- each member is waiting or was seen to be settled
abbrev pub Covers : List Signed → List Signed → List Signed → Type 0
Covers members waiting settled = (x : Signed) → has x members ≡ true → (has x waiting || has x settled) ≡ true

abbrev pub IsCovered : Walk → Type 0
IsCovered w = Covers w.trail w.waiting (map signed_view w.settled.items)

-- what was seen to be settled stays, and members stay covered
pub record Keeps (old new : Walk) : Type 0 where
  pub settled : new.settled ≡ old.settled
  pub covered : IsCovered old → IsCovered new

-- the member's opposite is a member
abbrev pub is_clash : List Signed → Signed → Bool
is_clash xs x = has (opposite x) xs

-- no member clashes or is wrong at the kind
abbrev pub is_clean : List Position → Kind → List Signed → Bool
is_clean P t xs = every (λ x. not (is_clash xs x) && not (is_wrong P t x)) xs

-- each of the list has a choice in the set, or none to take
abbrev pub are_settled : List Position → Kind → List Signed → List Signed → Bool
are_settled P t S ys = every (λ y. has_choice S (choices P t y)) ys

-- each of the list but one has a choice in the set, or none to take
abbrev pub are_settled_but : List Position → Kind → List Signed → Signed → List Signed → Bool
are_settled_but P t S x ys = every (λ y. has_choice S (choices P t y) || same_signed y x) ys

-- the step at a set
abbrev pub step_view : List Position → Kind → List Signed → Step → T.Step
step_view P t S (V.Clash x) = T.Clash (position_of (signed_view x))
step_view P t S (V.Wrong x) = T.Wrong (signed_view x)
step_view P t S (V.Rule x n) = T.Rule (signed_view x) (choice_list (choices P t (signed_view x)))
step_view P t S V.Saturated = T.Saturated S

-- the least of a list that passes a test
abbrev pub IsLeast : (Signed → Bool) → List Signed → Option Signed → Type 0
IsLeast p xs None = (y : Signed) → has y xs ≡ true → p y ≡ false
IsLeast p xs (Some x) = (has x xs ≡ true) × (p x ≡ true)
    × ((y : Signed) → has y xs ≡ true → p y ≡ true → order_of x ≤ order_of y)

-- all that was noted is settled, but for one without a choice yet
abbrev pub SettlesAfter : List Position → Kind → List Signed → List Signed → Option Signed → Type 0
SettlesAfter P t S ys None = are_settled P t S ys ≡ true
SettlesAfter P t S ys (Some x) = are_settled_but P t S x ys ≡ true

-- what is known after a rule: the set is clean, and all that was noted is settled but for the rule itself
abbrev pub Follows : List Position → Kind → List Signed → List Signed → Step → Type 0
Follows P t S ys (V.Rule x n) =
    (are_settled_but P t S (signed_view x) ys ≡ true) × (n ≡ length (choice_list (choices P t (signed_view x))))
    × (has (signed_view x) S ≡ true)
    × (is_clean P t S ≡ true)
Follows P t S ys (V.Clash x) = ⊤
Follows P t S ys (V.Wrong x) = ⊤
Follows P t S ys V.Saturated = ⊤

-- the second list goes on from the first
abbrev pub Extends : {A : Type 0} → List A → List A → Type 0
Extends xs ys = (length xs ≤ length ys) × (take (length xs) ys ≡ xs)
