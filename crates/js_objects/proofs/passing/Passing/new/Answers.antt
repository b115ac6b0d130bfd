-- One more row.
use Rattle.std.proofs.Common.{◌≡◌, ℕ, ◌+◌, ◌*◌, ◌<◌, List, drop, length, get_or, true, false, nat_lt, ap, sym, ◌∙◌, subst, arith}
use Rattle.std.proofs.lemmas.Bool.{and_parts}
use Rattle.std.proofs.lemmas.List.{get_or_default, drop_more}
use Rattle.std.proofs.lemmas.Nat.{row_fits}
use Rattle.js_name_tests.specs.declared.literals.NameTest.{NameTest}
use Rattle.js_name_tests.specs.NameTests.{passes, are_within}
use Rattle.js_cells.specs.View.{cells_view}
use Rattle.js_objects.specs.Passing.{is_passed_at}
use Rattle.js_objects.proofs.Columns.{told-more}
use Rattle.js_objects.proofs.passing.Passing.new.Goals as goal

within-more : (n : ℕ) (ts : List NameTest) (r : ℕ) (t : NameTest) → r < length ts → are_within n (drop r ts) ≡ true
    → are_within n (drop (r + 1) ts) ≡ true
within-more n ts r t l h =
    (and_parts (nat_lt (get_or ts r t).literal n) (are_within n (drop (r + 1) ts))
    (subst (λ us. are_within n us ≡ true) (drop_more ts r t l) h)).1

pub read-requires-clause-row : goal.read-requires-clause-row
read-requires-clause-row c =
    let w = c.loop-row.passing.width in
    let n = length c.args.tests.now in
    let rows = row_fits c.loop-row.row w n w (omega arith) (omega arith) in
    let long = c.loop-row.invariant.long in
    omega (arith, rows, long)

pub loop-row-preserved : goal.loop-row-preserved
loop-row-preserved c =
    let C = cells_view c.args.cells.now in
    let ts = c.args.tests.now in
    let r = c.loop-row.row in
    let p = c.loop-row.passing in
    let q = c.read.new.self in
    let old = c.loop-row.invariant in
    let first : NameTest = record { literal = 0; truth = false } in
    let below : r < length ts = omega arith in
    let wide = c.read.ensures.wide in
    record {
      wide = wide ∙ old.wide;
      long = c.read.ensures.long ∙ old.long ∙ ap (λ w. length ts * w) (sym wide);
      within = within-more (length C.names) ts r first below old.within;
      told = λ d k t h l.
          told-more p.width r (is_passed_at p) (is_passed_at q) (λ n j. passes C j (get_or ts n t))
          (λ n j. old.told n j t)
          (λ j w. c.read.ensures.told j w ∙ ap (passes C j) (get_or_default ts r first t below))
          c.read.ensures.others d k h (omega (arith, l, wide));
    }
