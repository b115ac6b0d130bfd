use Rattle.std.proofs.Common.{◌≡◌, [], filter, get_or, length, ap, sym, subst, ◌∙◌, arith}
use Rattle.std.specs.List.{range_with_len}
use Rattle.std.proofs.lemmas.Grind.{common_steps}
use Rattle.js_automaton.specs.AutomatonView.{atoms_of, rows_of}
use Rattle.js_said.specs.AtomNumbers.{is_true_at}
use Rattle.js_cells.specs.Truths.{IsTruth}
use Rattle.js_cells.proofs.TruthLaws.{where_truth}
use Rattle.js_cells.proofs.truths.rows_where.Goals as goal
use Rattle.list_laws.proofs.Tests.{filter-range_more}

pub loop-row-preserved : goal.loop-row-preserved
loop-row-preserved c =
    let a = c.args.automaton.now in
    let h = filter-range_more (λ r. is_true_at (atoms_of a) (get_or (rows_of a) r []) c.args.atom) c.loop-row.row in
    grind (arith, common_steps, h)

pub returns : goal.returns
returns c =
    let a = c.args.automaton.now in
    let all : c.loop-row.row ≡ length (rows_of a) =
    omega (arith, c.loop-row-test.false, c.loop-row.auto.row-end, c.rows-row-end.ensures.count) in
    subst (λ z. IsTruth (atoms_of a) (rows_of a) c.args.atom z)
    (sym (c.loop-row.invariant
    ∙ ap (λ n. filter (λ r. is_true_at (atoms_of a) (get_or (rows_of a) r []) c.args.atom) (range_with_len 0 n)) all))
    (where_truth (atoms_of a) (rows_of a) c.args.atom)
