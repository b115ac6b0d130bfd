-- Forming a goal and taking a choice keep what a document meets.
use Rattle.std.proofs.Common.{◌≡◌, ℕ, ◌<◌, List, [], ◌∷◌, Bool, true, false, Option, Some, None, IfSome, Result, Ok, Err, IfOk, length, refl, ap, sym, ◌∙◌, subst, arith}
use Rattle.std.specs.List.{AllByRecursion}
use Rattle.std.proofs.lemmas.Bool.{and_parts, ltb-true, lt-ltb}
use Rattle.documents.specs.Tests.{some}
use Rattle.documents.specs.Kind.{Kind}
use Rattle.documents.specs.Document.{Document, kind_of}
use Rattle.positions.specs.Position.{Position, names_below, is_table}
use Rattle.positions.specs.Holds.{holds, IsTable}
use Rattle.list_laws.proofs.Elements.{all-weaker, all-every}
use Rattle.position_laws.proofs.Tables.{names_below-all, is_table-IsTable}
use Rattle.goals.specs.Signed.{Signed, position_of, met, meets}
use Rattle.goals.specs.Choices.{plus_choices, minus_choices, choices}
use Rattle.goals.specs.Goal.{form}
use Rattle.goal_laws.specs.Formed.{meets_goal}
use Rattle.goal_laws.proofs.Forms.{meets-form}
use Rattle.goal_laws.proofs.Rules.{AreNames, plus_choices-names, minus_choices-names, choices-met}
use Rattle.js_doc.specs.declared.text.Memory.{Memory}
use Rattle.js_algebra.specs.View.{is_in_table, are_in_table}
use Rattle.js_algebra.specs.Rules.{choices_of, are_choices_in_table}

-- a table that has a position has dense ranks
table : (T : List Position) (ranks : List ℕ) → is_table T ranks ≡ true → (x : Signed) → is_in_table T x ≡ true
    → IsTable T
table T ranks e x i = is_table-IsTable T ranks e (let low = ltb-true (position_of x) (length T) i in omega arith)

-- a document meets a list exactly where it meets the goal that was formed of it
pub meets-formed : (T : List Position) (ranks : List ℕ) → is_table T ranks ≡ true → (xs : List Signed)
    → are_in_table T xs ≡ true
    → (o : Option (List Signed)) → o ≡ form T xs → (J : Document) → meets T xs J ≡ meets_goal T o J
meets-formed T ranks e [] i o f J = ap (λ p. meets_goal T p J) (sym f)
meets-formed T ranks e (x ∷ xs) i o f J =
    meets-form T (table T ranks e x (and_parts (is_in_table T x) (are_in_table T xs) i).0) J (x ∷ xs)
    ∙ ap (λ p. meets_goal T p J) (sym f)

pub meets-chosen : (T : List Position) (ranks : List ℕ) → is_table T ranks ≡ true → (x : Signed)
    → is_in_table T x ≡ true
    → (t : Kind) (o : Option (List (List Signed))) → o ≡ choices T t x → (J : Document) → kind_of J ≡ t
    → IfSome o (λ cs. some (λ C. meets T C J) cs ≡ met (λ p. holds T p J) x)
meets-chosen T ranks e x i t o f J k =
    subst (λ p. IfSome p (λ cs. some (λ C. meets T C J) cs ≡ met (λ p. holds T p J) x))
    (ap (λ u. choices T u x) k ∙ sym f)
    (choices-met T (table T ranks e x i) J x)

-- a document of the kind meets one of the choices exactly where it meets the signed position
pub choices-meaning : (T : List Position) (ranks : List ℕ) → is_table T ranks ≡ true → (x : Signed)
    → is_in_table T x ≡ true → (t : Kind)
    → (r : Result (Option (List (List Signed))) Memory) → IfOk r (λ o. o ≡ choices T t x)
    → IfOk r (λ o. (J : Document) → kind_of J ≡ t → IfSome o
    (λ cs. some (λ C. meets T C J) cs ≡ met (λ p. holds T p J) x))
choices-meaning T ranks e x i t (Ok o) f = λ J k. meets-chosen T ranks e x i t o f J k
choices-meaning T ranks e x i t (Err m) f = tt

-- the choices of a position are made of positions of the table where its names are

all-in_table : (T : List Position) (C : List Signed) → AllByRecursion (λ x. position_of x < length T) C
    → are_in_table T C ≡ true
all-in_table T C h = all-every (is_in_table T) C (all-weaker _ _ C (λ x l. lt-ltb (position_of x) (length T) l) h)

are_in : (T : List Position) (t : Kind) (o : Option (List (List Signed))) → IfSome o (AreNames (λ q. q < length T) t)
    → are_choices_in_table T o ≡ true
are_in T t None h = refl
are_in T t (Some cs) h = all-every (are_in_table T) cs (all-weaker _ _ cs (λ C k. all-in_table T C k) h)

pub choices-in_table : (T : List Position) (t : Kind) (plus : Bool) (P : Position) → names_below (length T) P ≡ true
    → are_choices_in_table T (choices_of t plus P) ≡ true
choices-in_table T t true P e =
    are_in T t (plus_choices t P) (plus_choices-names (λ q. q < length T) t P (names_below-all (length T) P e).0)
choices-in_table T t false P e =
    are_in T t (minus_choices t P) (minus_choices-names (λ q. q < length T) t P (names_below-all (length T) P e).0)
