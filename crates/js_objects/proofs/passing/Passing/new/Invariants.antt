-- The rows so far are read.
use Rattle.std.proofs.Common.{◌≡◌, ◌+◌, ◌*◌, ◌<◌, ℕ, drop, length, get_or, true}
use Rattle.js_name_tests.specs.declared.literals.NameTest.{NameTest}
use Rattle.js_name_tests.specs.NameTests.{passes, are_within}
use Rattle.js_cells.specs.View.{cells_view}
use Rattle.js_objects.specs.Passing.{is_passed_at}
use Rattle.js_objects.proofs.passing.Passing.new.Given as goal

abbrev pub invariant-loop-row : goal.invariant-loop-row
invariant-loop-row l =
    let C = cells_view l.cells in
    record {
      wide : l.passing.width ≡ length C.vectors + 1;
      long : length l.passing.truths.items ≡ length l.tests * l.passing.width;
      within : are_within (length C.names) (drop l.row l.tests) ≡ true;
      told : (d c : ℕ) (t : NameTest) → d < l.row → c < l.passing.width
          → is_passed_at l.passing d c ≡ passes C c (get_or l.tests d t);
    }
