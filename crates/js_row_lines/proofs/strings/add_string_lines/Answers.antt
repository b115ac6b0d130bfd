use Rattle.std.proofs.Common.{◌≡◌, ◌++◌, map, drop, length, OnOk, ◌∙◌, subst}
use Rattle.refutations.specs.StringLines.{string_lines}
use Rattle.js_algebra.specs.View.{signed_view}
use Rattle.js_nfa.specs.AtomView.{atom_view}
use Rattle.js_lines.specs.View.{line_view}
use Rattle.js_row_lines.specs.Dead.{AreDead}
use Rattle.js_row_lines.proofs.OwnRows.{own_string_lines, error_says}
use Rattle.js_row_lines.proofs.DeadLines.{strings-dead}
use Rattle.js_row_lines.proofs.strings.add_string_lines.Goals as goal

pub returns-in_err-asked-clause-lines : goal.returns-in_err-asked-clause-lines
returns-in_err-asked-clause-lines c = error_says c.from_residual.result
    (map line_view c.args.lines.now.items ≡ map line_view c.args.lines.now.items
    ++ string_lines c.args.core.now.positions (map signed_view c.args.set.now))
    c.in_err-asked.field-0.0 c.from_residual.ensures.1

pub returns-in_err-asked-clause-dead : goal.returns-in_err-asked-clause-dead
returns-in_err-asked-clause-dead c = error_says c.from_residual.result
    (AreDead c.args.core.now.positions (map signed_view c.args.set.now)
    (drop (length c.args.lines.now.items) (map line_view c.args.lines.now.items)))
    c.in_err-asked.field-0.0 c.from_residual.ensures.1

pub returns-clause-lines : goal.returns-clause-lines
returns-clause-lines c =
    let before = map line_view c.args.lines.now.items in
    let new = map line_view c.add_lines_of.new.lines.items in
    subst (λ z. OnOk c.add_lines_of.result (new ≡ before ++ z))
    (own_string_lines c.args.core.now.positions (map signed_view c.args.set.now) (map atom_view c.atoms.result.now)
    (c.atoms.ensures ∙ c.in_ok-asked.ensures.atoms))
    c.add_lines_of.ensures

pub returns-clause-dead : goal.returns-clause-dead
returns-clause-dead c =
    let before = map line_view c.args.lines.now.items in
    let new = map line_view c.add_lines_of.new.lines.items in
    strings-dead c.args.core.now.positions (map signed_view c.args.set.now) c.add_lines_of.result
    c.args.lines.now.items new
    (subst (λ z. OnOk c.add_lines_of.result (new ≡ before ++ z))
    (own_string_lines c.args.core.now.positions (map signed_view c.args.set.now) (map atom_view c.atoms.result.now)
    (c.atoms.ensures ∙ c.in_ok-asked.ensures.atoms))
    c.add_lines_of.ensures)
