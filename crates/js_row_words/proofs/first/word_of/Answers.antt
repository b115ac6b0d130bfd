use Rattle.std.proofs.Common.{◌≡◌, [], true, get_or, sym, subst}
use Rattle.std.specs.List.{list_all}
use Rattle.patterns.specs.CharSet.{is_scalar}
use Rattle.list_laws.proofs.Lists.{get_or-in}
use Rattle.word_laws.proofs.RowLaws.{rows_words}
use Rattle.js_automaton.specs.AutomatonView.{atoms_of, rows_of}
use Rattle.js_row_words.proofs.first.word_of.Goals as goal

pub spell-requires : goal.spell-requires
spell-requires c =
    let L = rows_of c.args.automaton.now in
    subst (λ z. list_all is_scalar z ≡ true) (sym c.in_ok-letters.ensures)
    (rows_words (atoms_of c.args.automaton.now) L c.args.automaton.now.found.1.0 (get_or L c.args.row [])
    (get_or-in L c.args.row [] c.requires))
