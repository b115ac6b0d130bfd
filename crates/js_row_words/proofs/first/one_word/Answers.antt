use Rattle.std.proofs.Common.{◌∷◌, [], ap, sym, ◌∙◌}
use Rattle.js_automaton.specs.AutomatonView.{atoms_of, rows_of}
use Rattle.js_row_words.proofs.MarkedRow.{none_marked, first_marked}
use Rattle.js_row_words.proofs.first.one_word.Goals as goal

pub returns-in_ok-vec-in-Some : goal.returns-in_ok-vec-in-Some
returns-in_ok-vec-in-Some c =
    let h = c.in-Some.ensures in
    c.in_ok-vec-in-Some.ensures.items
    ∙ ap (λ z. z ∷ []) c.in_ok-word-in-Some.ensures
    ∙ sym (first_marked (atoms_of c.args.automaton.now) (rows_of c.args.automaton.now) c.args.automaton.now.found.1.0
    c.args.marks.now c.in-Some.row h.0 h.1 h.2 c.requires.some)

pub returns-in-None : goal.returns-in-None
returns-in-None c =
    c.new.ensures.items
    ∙ sym (none_marked (atoms_of c.args.automaton.now) (rows_of c.args.automaton.now) c.args.automaton.now.found.1.0
    c.args.marks.now c.in-None.ensures)
