use Rattle.std.proofs.Common.{◌≡◌, ℕ, ◌<◌, get_or, length, ap, sym, ◌∙◌}
use Rattle.std.proofs.lemmas.Result.{IfOk-weaker}
use Rattle.word_states.specs.Atom.{Words, LengthMin}
use Rattle.js_nfa.specs.AtomView.{atom_view}
use Rattle.js_automaton.specs.AutomatonView.{atoms_of, rows_of}
use Rattle.js_cells.specs.Truths.{IsTruth}
use Rattle.js_cells.proofs.truths.rows_of_atom.Goals as goal

pub returns-in-Words : goal.returns-in-Words
returns-in-Words c =
    let A = atoms_of c.args.automaton.now in
    let L = rows_of c.args.automaton.now in
    let ws = c.as_slice.result.now in
    IfOk-weaker c.rows_of_words.result
    (λ l. (k : ℕ) → k < length A → get_or A k (LengthMin 0) ≡ Words ws → IsTruth A L k l)
    (λ l. IsTruth A L c.args.number l)
    (λ l h. h c.args.number c.requires.number
    (sym c.requires.atom ∙ ap atom_view c.in-Words.is ∙ ap Words (sym c.as_slice.ensures)))
    c.rows_of_words.ensures
