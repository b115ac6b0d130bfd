use Rattle.std.proofs.Common.{◌-◌, [], cond, get_or, false, length}
use Rattle.list_laws.proofs.Counts.{sum_over}
use Rattle.word_states.specs.Classes.{characters}
use Rattle.js_automaton.specs.AutomatonView.{atoms_of, rows_of}
use Rattle.js_row_words.specs.Counts.{AreNumbers, to_row, words_of_length}
use Rattle.js_row_words.proofs.Listing.{first_numbers, longer_numbers, last_is, none_last, if_ok}
use Rattle.js_row_words.proofs.first.next_numbers.Goals as goal

pub returns-in-Some : goal.returns-in-Some
returns-in-Some c =
    let atoms = atoms_of c.args.automaton.now in
    let L = rows_of c.args.automaton.now in
    let table = c.args.lengths.now in
    let last = c.in-Some.numbers.now in
    let (long, here) = last_is table last [] c.in-Some.ensures.value in
    if_ok c.longer.result
    (λ n. AreNumbers (length L) c.args.bound (λ r. sum_over (λ c'. get_or last (to_row atoms L r c') 0) characters) n)
    (λ n. AreNumbers (length L) c.args.bound (words_of_length atoms L c.args.marks.now (length table)) n)
    (λ n h. longer_numbers atoms L c.args.automaton.now.found.1.0 c.args.marks.now c.args.bound table
    (length table - 1) last n long here c.requires.lengths h)
    c.longer.ensures

pub returns-in-None : goal.returns-in-None
returns-in-None c =
    let atoms = atoms_of c.args.automaton.now in
    let L = rows_of c.args.automaton.now in
    let marks = c.args.marks.now in
    let table = c.args.lengths.now in
    if_ok c.of_empty_word.result
    (λ n. AreNumbers (length marks) c.args.bound (λ r. cond (get_or marks r false) 1 0) n)
    (λ n. AreNumbers (length L) c.args.bound (words_of_length atoms L marks (length table)) n)
    (λ n h. first_numbers atoms L c.args.automaton.now.found.1.0 marks c.args.bound table n
    (none_last table c.in-None.ensures.value) c.requires.marks h)
    c.of_empty_word.ensures
