-- What is kept is that of the given atoms.
use Rattle.std.proofs.Common.{map}
use Rattle.js_nfa.specs.AtomView.{atom_view}
use Rattle.js_kept_automaton.proofs.Building.{own-atoms, kept-is, kept-passes, memory-passes, not-ok}
use Rattle.js_kept_automaton.proofs.kept.KeptAutomaton.of.Goals as goal

pub returns-in_err-keep : goal.returns-in_err-keep
returns-in_err-keep c = record {
  atoms = not-ok c.from_residual.result _ _ c.from_residual.ensures.1;
  none = not-ok c.from_residual.result _ _ c.from_residual.ensures.1;
  fault = memory-passes c.from_residual.result (map atom_view c.args.atoms.now) c.from_residual.ensures.1;
}

pub returns-in-Ok : goal.returns-in-Ok
returns-in-Ok c =
    let b = c.in-Some.built in
    let atoms = map atom_view c.args.atoms.now in
    let same = own-atoms c.keep.new.self b c.in-Some.is atoms c.in_ok-keep.ensures in
    let (of, none) = kept-is (map atom_view b.atoms.items) atoms b.outcome b.is_outcome same c.in-Ok.automaton
    c.in-Ok.is in
    record { atoms = of; none = none; fault = tt }

pub returns-in-Err : goal.returns-in-Err
returns-in-Err c =
    let b = c.in-Some.built in
    let atoms = map atom_view c.args.atoms.now in
    record {
      atoms = tt;
      none = tt;
      fault = kept-passes (map atom_view b.atoms.items) atoms b.outcome b.is_outcome
          (own-atoms c.keep.new.self b c.in-Some.is atoms c.in_ok-keep.ensures) c.in-Err.fault c.in-Err.is;
    }
