use Rattle.std.proofs.Common.{refl}
use Rattle.js_automaton.specs.AutomatonView.{atoms_of}
use Rattle.js_row_words.proofs.Letters.{letter_is, never_empty}
use Rattle.js_row_words.proofs.spelling.first_letter.Goals as goal

pub returns-in-Some : goal.returns-in-Some
returns-in-Some c = letter_is (atoms_of c.args.automaton.now) c.args.class c.requires c.class_set.result.now
    c.class_set.ensures c.in-Some.letter c.in-Some.ensures.member c.in-Some.ensures.least

pub returns-in-None : goal.returns-in-None
returns-in-None c = absurd (never_empty (atoms_of c.args.automaton.now) c.args.class c.requires c.class_set.result.now
    c.class_set.ensures (c.in-None.ensures.none.0 refl))
