-- The cells that are found are those of the rows.
use Rattle.std.proofs.Common.{◌≡◌, map, ap, ◌∙◌}
use Rattle.frames.specs.ObjectFrame as O
use Rattle.js_algebra.specs.View.{signed_view}
use Rattle.js_automaton.specs.AutomatonView.{rows_of}
use Rattle.js_cells.specs.View.{cells_view}
use Rattle.js_objects.specs.FrameView.{frame_view}
use Rattle.js_objects.specs.Steps.{cells_by}
use Rattle.js_objects.proofs.Past.{words-past}
use Rattle.js_objects.proofs.LeafLaws.{ok-map}
use Rattle.js_objects.proofs.leaf.frame_of.Goals as goal

pub new-requires-2-clause-names : goal.new-requires-2-clause-names
new-requires-2-clause-names c = ap (λ C. C.names) c.in_ok-cells.ensures.cells

pub new-requires-2-clause-none_past : goal.new-requires-2-clause-none_past
new-requires-2-clause-none_past c =
    words-past c.args.core.now.positions c.args.core.now.ranks c.requires.table (map signed_view c.args.set.now)
    c.requires.in_table c.args.automaton.now c.requires.automaton (cells_view c.in_ok-cells.cells)
    c.in_ok-cells.ensures.cells

pub returns-clause-frame : goal.returns-clause-frame
returns-clause-frame c =
    let T = c.args.core.now.positions in
    let S = map signed_view c.args.set.now in
    ok-map c.new-2.result (λ f. frame_view f ≡ O.object_frame T (cells_view c.in_ok-cells.cells) S)
    (λ f. frame_view f ≡ O.object_frame T (cells_by T S c.args.automaton.now) S)
    (λ f e. e ∙ ap (λ C. O.object_frame T C S) c.in_ok-cells.ensures.cells) c.new-2.ensures.frame

pub returns-clause-cells : goal.returns-clause-cells
returns-clause-cells c =
    ok-map c.new-2.result (λ f. f.cells ≡ c.in_ok-cells.cells)
    (λ f. cells_view f.cells
    ≡ cells_by c.args.core.now.positions (map signed_view c.args.set.now) c.args.automaton.now)
    (λ f e. ap cells_view e ∙ c.in_ok-cells.ensures.cells) c.new-2.ensures.cells

pub returns-clause-cell_table : goal.returns-clause-cell_table
returns-clause-cell_table c =
    ok-map c.new-2.result (λ f. f.cells ≡ c.in_ok-cells.cells)
    (λ f. f.cells.core.now.positions ≡ c.args.core.now.positions)
    (λ f e. ap (λ x. x.core.now.positions) e ∙ c.in_ok-cells.ensures.table) c.new-2.ensures.cells

pub returns-clause-rows : goal.returns-clause-rows
returns-clause-rows c =
    ok-map c.new-2.result (λ f. f.cells ≡ c.in_ok-cells.cells)
    (λ f. rows_of f.cells.automaton.now ≡ rows_of c.args.automaton.now)
    (λ f e. ap (λ x. rows_of x.automaton.now) e ∙ c.in_ok-cells.ensures.rows) c.new-2.ensures.cells
