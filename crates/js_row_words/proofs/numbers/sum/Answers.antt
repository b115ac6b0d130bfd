use Rattle.std.proofs.Common.{◌+◌, suc, min, add-one, refl, drop, get_or, ap, sym, ◌∙◌, arith}
use Rattle.list_laws.proofs.Counts.{sum_over}
use Rattle.word_states.specs.Classes.{characters}
use Rattle.js_automaton.specs.AutomatonView.{atoms_of, rows_of}
use Rattle.js_row_words.specs.Runs.{spelled}
use Rattle.js_row_words.specs.Counts.{to_row}
use Rattle.js_row_words.proofs.ChoiceLaws.{no_run, spelled_left, runs_left}
use Rattle.js_row_words.proofs.NumberLaws.{sum_run}
use Rattle.js_row_words.proofs.numbers.sum.Goals as goal

pub loop-run-preserved : goal.loop-run-preserved
loop-run-preserved c =
    let atoms = atoms_of c.args.automaton.now in
    let L = rows_of c.args.automaton.now in
    let N = c.args.numbers.now in
    let i = c.loop-run.run-index in
    let run = get_or c.args.runs.now i no_run in
    let (is, more) = runs_left atoms c.args.runs.now i c.loop-run-test.true c.loop-run.invariant.runs in
    let few = c.min-sum.ensures in
    rw add-one (record {
      same = sum_run atoms L N c.args.row run is c.target.result (get_or N c.target.result 0) c.target.ensures.target
          refl (spelled (drop (suc i) c.args.runs.now)) c.args.bound c.loop-run.sum c.min-sum.result
          (min c.args.bound (sum_over (λ c'. get_or N (to_row atoms L c.args.row c') 0) characters))
          (ap (λ z. min c.args.bound (c.loop-run.sum + sum_over (λ c'. get_or N (to_row atoms L c.args.row c') 0) z))
          (sym (spelled_left c.args.runs.now i c.loop-run-test.true)) ∙ c.loop-run.invariant.same)
          c.min-sum.ensures;
      small = grind (arith, few);
      runs = more;
    })
