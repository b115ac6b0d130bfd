-- What literals that speak of names require of members, each by its number among them.
use Rattle.std.specs.Prelude.{ℕ, ◌+◌, List, [], ◌∷◌, ◌++◌, length, get_or, Bool, true, false, cond, nat_lt, Option, Some, None}
use Rattle.std.specs.Bool.{beq}
use Rattle.documents.specs.Tests.{every}
use Rattle.positions.specs.Position.{Position, MembersOf, Has, NamesIn, position_at}
use Rattle.goals.specs.Signed.{Signed, Plus, Minus}
use Rattle.cells.specs.Cells.{Cells, truth}
use Rattle.js_name_tests.specs.declared.literals.NameTest.{NameTest}
use Rattle.js_name_tests.specs.declared.literals.ValueTest.{ValueTest}

-- what a literal says of the names that may not be there
abbrev pub plus_barred : Position → Option Bool
plus_barred (NamesIn q) = Some false
plus_barred _ = None

abbrev pub minus_barred : Position → Option Bool
minus_barred (Has n) = Some true
minus_barred _ = None

abbrev pub barred_at : List Position → Signed → Option Bool
barred_at T (Plus p) = plus_barred (position_at T p)
barred_at T (Minus p) = minus_barred (position_at T p)

-- what it says of the names that may serve it, where some member has to
abbrev pub plus_served : Position → Option Bool
plus_served (Has n) = Some true
plus_served _ = None

abbrev pub minus_served : Position → Option Bool
minus_served (MembersOf s q) = Some true
minus_served (NamesIn q) = Some false
minus_served _ = None

abbrev pub served_at : List Position → Signed → Option Bool
served_at T (Plus p) = plus_served (position_at T p)
served_at T (Minus p) = minus_served (position_at T p)

-- what it requires of the values of the names of which it holds
abbrev pub plus_value : Position → Option ℕ
plus_value (MembersOf s q) = Some q
plus_value _ = None

abbrev pub value_at : List Position → Signed → Option ℕ
value_at T (Plus p) = plus_value (position_at T p)
value_at T (Minus p) = None

-- tests with the number of their literal

abbrev pub test_at : ℕ → Option Bool → List NameTest
test_at i None = []
test_at i (Some b) = record { literal = i; truth = b } ∷ []

abbrev pub tests_from : (Signed → Option Bool) → ℕ → List Signed → List NameTest
tests_from f i [] = []
tests_from f i (x ∷ xs) = test_at i (f x) ++ tests_from f (i + 1) xs

abbrev pub numbered_value : ValueTest → ℕ × ℕ
numbered_value v = (v.literal, v.value.0)

abbrev pub value_by : ℕ → Option ℕ → List (ℕ × ℕ)
value_by i None = []
value_by i (Some q) = (i, q) ∷ []

abbrev pub values_from : (Signed → Option ℕ) → ℕ → List Signed → List (ℕ × ℕ)
values_from f i [] = []
values_from f i (x ∷ xs) = value_by i (f x) ++ values_from f (i + 1) xs

-- what literals say of the names of a cell

abbrev pub says_at : Cells → ℕ → ℕ → Bool
says_at C c i = truth C c (get_or C.names i (Plus 0))

abbrev pub passes : Cells → ℕ → NameTest → Bool
passes C c t = beq (says_at C c t.literal) t.truth

abbrev pub asks : Cells → ℕ → ValueTest → List Signed
asks C c v = cond (says_at C c v.literal) (Plus v.value.0 ∷ []) []

-- they name literals that there are

abbrev pub are_within : ℕ → List NameTest → Bool
are_within n tests = every (λ t. nat_lt t.literal n) tests

abbrev pub values_within : ℕ → List ValueTest → Bool
values_within n values = every (λ v. nat_lt v.literal n) values

-- the positions that are required of values are in the table
abbrev pub values_in_table : List Position → List ValueTest → Bool
values_in_table T values = every (λ v. nat_lt v.value.0 (length T)) values
