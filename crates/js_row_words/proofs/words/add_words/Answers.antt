use Rattle.js_automaton.specs.AutomatonView.{atoms_of, rows_of}
use Rattle.js_row_words.specs.Counts.{word_by}
use Rattle.js_row_words.proofs.WordSteps.{words_more}
use Rattle.js_row_words.proofs.words.add_words.Goals as goal

pub loop-number-preserved : goal.loop-number-preserved
loop-number-preserved c =
    words_more (word_by (atoms_of c.args.automaton.now) (rows_of c.args.automaton.now) c.args.lengths.now)
    c.loop-number.words.items c.push.new.self.items c.args.words.now.items c.loop-number.number c.in_ok-word.field-0
    c.in_ok-word.ensures c.loop-number.invariant c.in_ok-push.ensures.items
