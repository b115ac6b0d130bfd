use Rattle.std.proofs.Common.{◌≡◌, ◌-◌, ◌++◌, [], true, Some, None, sym, ◌∙◌, subst, arith}
use Rattle.std.specs.List.{list_all}
use Rattle.std.proofs.lemmas.List.{get_or_read}
use Rattle.patterns.specs.CharSet.{is_scalar}
use Rattle.js_automaton.specs.AutomatonView.{atoms_of, rows_of}
use Rattle.js_row_words.specs.Counts.{word_by, Chooses}
use Rattle.js_row_words.proofs.WordSteps.{rest, word_more, word_ends}
use Rattle.js_row_words.proofs.words.letters_by.Goals as goal
use Rattle.word_laws.proofs.RowLaws.{all_end}

pub loop-left-preserved : goal.loop-left-preserved
loop-left-preserved c =
    let atoms = atoms_of c.args.automaton.now in
    let L = rows_of c.args.automaton.now in
    let v = c.loop-left.invariant in
    let x = c.in-Some.choice in
    let low = v.left in
    let within = c.loop-left-test.true in
    let read = c.as_slice.ensures
    ∙ get_or_read c.args.lengths.now (c.loop-left.left - 1) c.index-lengths-left.result
    (omega (arith, low, within)) c.index-lengths-left.is [] in
    let chosen = subst (λ z. Chooses atoms L z c.loop-left.row c.loop-left.number (Some x)) read
    c.in-Some.ensures in record {
      left = omega (arith, low);
      row = chosen.2;
      word = subst (λ z. z ++ rest atoms L c.args.lengths.now (c.loop-left.left - 1) x.row x.number
          ≡ word_by atoms L c.args.lengths.now c.args.number)
          (sym c.in_ok-push-in-Some.ensures.items)
          (word_more atoms L c.args.lengths.now c.loop-left.letters.items
          (word_by atoms L c.args.lengths.now c.args.number) c.loop-left.left (c.loop-left.left - 1)
          c.loop-left.row c.loop-left.number x (omega (arith, c.loop-left-test.true)) chosen v.word);
      scalar = subst (λ z. list_all is_scalar z ≡ true) (sym c.in_ok-push-in-Some.ensures.items)
          (all_end c.loop-left.letters.items x.letter v.scalar chosen.3);
    }

pub returns-in-None-clause-letters : goal.returns-in-None-clause-letters
returns-in-None-clause-letters c =
    let atoms = atoms_of c.args.automaton.now in
    let L = rows_of c.args.automaton.now in
    let low = c.loop-left.invariant.left in
    let within = c.loop-left-test.true in
    let read = c.as_slice.ensures
    ∙ get_or_read c.args.lengths.now (c.loop-left.left - 1) c.index-lengths-left.result
    (omega (arith, low, within)) c.index-lengths-left.is [] in
    word_ends atoms L c.args.lengths.now c.loop-left.letters.items
    (word_by atoms L c.args.lengths.now c.args.number) c.loop-left.left (c.loop-left.left - 1) c.loop-left.row
    c.loop-left.number (omega (arith, c.loop-left-test.true))
    (subst (λ z. Chooses atoms L z c.loop-left.row c.loop-left.number None) read c.in-None.ensures)
    c.loop-left.invariant.word
