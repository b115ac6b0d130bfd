use Rattle.std.proofs.Common.{◌≡◌, suc, true, ◌+◌, ◌/◌, ◌%◌, ◌∷◌, add-one, refl, drop, get_or, ap, sym, ◌∙◌, subst, arith}
use Rattle.std.proofs.lemmas.List.{drop_all}
use Rattle.patterns.specs.CharSet.{is_scalar}
use Rattle.cell_laws.specs.FirstWords.{pick}
use Rattle.js_automaton.specs.AutomatonView.{atoms_of, rows_of}
use Rattle.js_row_words.specs.Runs.{spelled}
use Rattle.js_row_words.specs.Counts.{to_row}
use Rattle.js_row_words.proofs.ChoiceLaws.{no_run, spelled_left, runs_left, place_below, chosen, passed, place_leads}
use Rattle.js_row_words.proofs.choose.choose.Goals as goal

pub letter_at-requires-clause-place : goal.letter_at-requires-clause-place
letter_at-requires-clause-place c =
    let atoms = atoms_of c.args.automaton.now in
    let L = rows_of c.args.automaton.now in
    let run = get_or c.args.runs.now c.loop-run.run-index no_run in
    let (is, _) = runs_left atoms c.args.runs.now c.loop-run.run-index c.loop-run-test.true c.loop-run.invariant.runs in
    place_below atoms L c.args.numbers.now c.args.row run is c.target-next.result
    (get_or c.args.numbers.now c.target-next.result 0) c.target-next.ensures.target refl c.loop-run.left
    (let t = c.if-left-all.true in t)

pub returns-then-left-all : goal.returns-then-left-all
returns-then-left-all c =
    let atoms = atoms_of c.args.automaton.now in
    let L = rows_of c.args.automaton.now in
    let N = c.args.numbers.now in
    let i = c.loop-run.run-index in
    let run = get_or c.args.runs.now i no_run in
    let t = c.target-next.result in
    let each = get_or N t 0 in
    let left = c.loop-run.left in
    let (is, _) = runs_left atoms c.args.runs.now i c.loop-run-test.true c.loop-run.invariant.runs in
    let below = place_below atoms L N c.args.row run is t each c.target-next.ensures.target refl left
    c.if-left-all.true in
    let letter = c.letter_at.ensures in (
      (λ next.
          c.loop-run.invariant.same next
          ∙ ap (λ z. pick (λ c'. get_or N (to_row atoms L c.args.row c') 0) next z left)
          (spelled_left c.args.runs.now i c.loop-run-test.true)
          ∙ chosen atoms L N c.args.row run is t each c.target-next.ensures.target refl
          (spelled (drop (suc i) c.args.runs.now)) left c.if-left-all.true next
          ∙ ap (λ z. z ∷ next z (left % each)) (sym letter)),
      place_leads atoms L N c.args.row run is t each c.target-next.ensures.target refl (left / each) below
          ∙ ap (to_row atoms L c.args.row) (sym letter),
      c.target-next.ensures.within,
      subst (λ z. is_scalar z ≡ true) (sym letter)
          (is.letters (run.first + left / each) (omega arith) (omega (arith, below))).0,
    )

pub loop-run-preserved : goal.loop-run-preserved
loop-run-preserved c =
    let atoms = atoms_of c.args.automaton.now in
    let L = rows_of c.args.automaton.now in
    let N = c.args.numbers.now in
    let i = c.loop-run.run-index in
    let run = get_or c.args.runs.now i no_run in
    let t = c.target-next.result in
    let each = get_or N t 0 in
    let left = c.loop-run.left in
    let (is, more) = runs_left atoms c.args.runs.now i c.loop-run-test.true c.loop-run.invariant.runs in
    rw add-one (record {
      same = λ next.
          c.loop-run.invariant.same next
          ∙ ap (λ z. pick (λ c'. get_or N (to_row atoms L c.args.row c') 0) next z left)
          (spelled_left c.args.runs.now i c.loop-run-test.true)
          ∙ passed atoms L N c.args.row run is t each c.target-next.ensures.target refl
          (spelled (drop (suc i) c.args.runs.now)) left (omega (arith, c.if-left-all.false)) next;
      runs = more;
    })

pub returns : goal.returns
returns c = λ next.
    c.loop-run.invariant.same next
    ∙ ap (λ z. pick (λ c'. get_or c.args.numbers.now (to_row (atoms_of c.args.automaton.now)
    (rows_of c.args.automaton.now) c.args.row c') 0) next (spelled z) c.loop-run.left)
    (drop_all c.loop-run.run-index c.args.runs.now (omega (arith, c.loop-run-test.false)))
