use Rattle.std.proofs.Common.{◌≡◌, ◌++◌, map, OnOk, subst}
use Rattle.js_nfa.specs.AtomView.{atom_view}
use Rattle.js_automaton.specs.AutomatonView.{atoms_of, rows_of}
use Rattle.js_lines.specs.View.{line_view}
use Rattle.js_row_lines.proofs.OwnRows.{own_length_lines}
use Rattle.js_row_lines.proofs.strings.add_lines_of.Goals as goal

pub returns-in-Ok : goal.returns-in-Ok
returns-in-Ok c =
    let a = c.in-Ok.automaton.now in
    let before = map line_view c.args.lines.now.items in
    let new = map line_view c.add_length_lines.new.lines.items in
    subst (λ z. OnOk c.add_length_lines.result (new ≡ before ++ z))
    (own_length_lines (atoms_of a) (map atom_view c.args.atoms.now) (rows_of a) c.in-Ok.ensures.atoms a.found.1.0
    a.found.1.1)
    c.add_length_lines.ensures
