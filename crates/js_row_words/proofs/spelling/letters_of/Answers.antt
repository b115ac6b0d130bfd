use Rattle.std.proofs.Common.{[], get_or, reverse}
use Rattle.js_automaton.specs.AutomatonView.{atoms_of, rows_of}
use Rattle.js_row_words.proofs.Letters.{all_letters}
use Rattle.js_row_words.proofs.spelling.letters_of.Goals as goal

pub returns : goal.returns
returns c = all_letters (atoms_of c.args.automaton.now) (rows_of c.args.automaton.now) c.args.automaton.now.found.1.0
    c.loop-at.at (reverse c.loop-at.letters.items) (get_or (rows_of c.args.automaton.now) c.args.row [])
    c.loop-at-test.false c.loop-at.invariant.word
