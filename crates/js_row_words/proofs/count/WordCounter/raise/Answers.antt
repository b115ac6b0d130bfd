use Rattle.std.proofs.Common.{◌<◌, ◌≤◌, length, arith}
use Rattle.js_row_words.specs.CounterView.{atoms_of, rows_of}
use Rattle.js_row_words.specs.Labels.{asked_of}
use Rattle.js_row_words.proofs.LabelLaws.{words_raised}
use Rattle.js_row_words.proofs.count.WordCounter.raise.Goals as goal

pub returns-then-rises-clause-words : goal.returns-then-rises-clause-words
returns-then-rises-clause-words c =
    let atoms = atoms_of c.args.self.now in
    let L = rows_of c.args.self.now in
    let marks = c.args.marks.now in
    let labels = c.args.labels.now in
    let inside : c.args.row < length labels =
    (let r = c.requires.row in let s = c.requires.size in omega (arith, r, s)) in
    let low : c.asked-asked.result ≤ asked_of atoms L marks labels c.args.row =
    (let e = c.asked-asked.ensures in grind (arith, e)) in
    λ words. words_raised atoms L c.args.self.now.automaton.now.found.1.0 marks labels c.args.row
    c.asked-asked.result inside low words
