-- Which tests the names of each cell pass, and which demands they may serve.
use Rattle.std.specs.Prelude.{◌≡◌, ℕ, ◌+◌, ◌*◌, ◌<◌, List, length, get_or, Bool, false}
use Rattle.positions.specs.Position.{Position}
use Rattle.goals.specs.Signed.{Signed, Plus}
use Rattle.cells.specs.Cells.{Cells}
use Rattle.frames.specs.ObjectFrame as O
use Rattle.js_name_tests.specs.declared.literals.NameTest.{NameTest}
use Rattle.js_name_tests.specs.NameTests.{passes}
use Rattle.js_objects.specs.declared.passing.Passing.{Passing}

abbrev pub is_passed_at : Passing → ℕ → ℕ → Bool
is_passed_at p row column = get_or p.truths.items (row * p.width + column) false

-- a row for each test, with the truth at each cell, and a last one for cells that aren't there
pub record ArePassed (C : Cells) (tests : List NameTest) (p : Passing) : Type 0 where
  pub wide : p.width ≡ length C.vectors + 1
  pub long : length p.truths.items ≡ length tests * p.width
  pub told : (d c : ℕ) (t : NameTest) → d < length tests → c < p.width
      → is_passed_at p d c ≡ passes C c (get_or tests d t)

-- a row for each demand
pub record AreServed (T : List Position) (C : Cells) (demands : List Signed) (p : Passing) : Type 0 where
  pub wide : p.width ≡ length C.vectors + 1
  pub long : length p.truths.items ≡ length demands * p.width
  pub told : (d c : ℕ) → d < length demands → c < p.width
      → is_passed_at p d c ≡ O.inside T C (get_or demands d (Plus 0)) c
