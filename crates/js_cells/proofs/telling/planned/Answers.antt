use Rattle.std.proofs.Common.{[], get_or}
use Rattle.js_automaton.specs.AutomatonView.{atoms_of, rows_of}
use Rattle.js_cells.proofs.TellingLaws.{planned_told}
use Rattle.js_cells.proofs.telling.planned.Goals as goal

pub returns : goal.returns
returns c =
    let w = get_or (rows_of c.args.automaton.now) c.args.row [] in
    planned_told c.args.core.now.positions (atoms_of c.args.automaton.now) c.args.plan.now c.args.numbers.now w
    c.truth.result c.deref.result.now c.ask.new.asked.items c.requires.plan c.deref.ensures.value c.in_ok-ask.ensures
    (c.truth.ensures.holds w)
