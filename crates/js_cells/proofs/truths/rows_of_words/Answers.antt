use Rattle.std.proofs.Common.{◌≡◌, map, take, true, ap, sym, subst, ◌∙◌}
use Rattle.std.specs.List.{list_all}
use Rattle.std.proofs.lemmas.List.{take_all}
use Rattle.patterns.specs.CharSet.{is_scalar}
use Rattle.word_states.specs.Rows.{row_of}
use Rattle.js_automaton.specs.AutomatonView.{atoms_of, rows_of}
use Rattle.js_cells.specs.Truths.{IsTruth}
use Rattle.js_cells.proofs.TruthLaws.{words_truth}
use Rattle.js_cells.proofs.truths.rows_of_words.Goals as goal

pub returns : goal.returns
returns c k l e =
    let a = c.args.automaton.now in
    let ws = c.args.words.now in
    let all : take c.loop-word.word-index ws ≡ ws = take_all c.loop-word.word-index ws c.loop-word-test.false in
    subst (λ z. IsTruth (atoms_of a) (rows_of a) k z)
    (sym (c.loop-word.invariant.rows ∙ ap (map (row_of (atoms_of a) (rows_of a))) all))
    (words_truth (atoms_of a) (rows_of a) a.found.1.0 k ws l e
    (subst (λ z. list_all (list_all is_scalar) z ≡ true) all c.loop-word.invariant.words))
