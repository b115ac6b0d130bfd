use Rattle.refutations.specs.ObjectLines.{label_of}
use Rattle.js_automaton.specs.AutomatonView.{rows_of}
use Rattle.js_cells.specs.View.{cells_view}
use Rattle.js_row_lines.proofs.CellLabels.{all_labels}
use Rattle.js_row_lines.proofs.caps.labels.Goals as goal

pub returns : goal.returns
returns c =
    let x = c.args.cells.now in
    all_labels (λ v. v.items) (rows_of x.automaton.now) (label_of x.core.now.positions (cells_view x) c.args.cell)
    c.words_from.result c.words_from.ensures.length c.words_from.ensures.numbers
