-- What is built may be kept, since memory sufficed.
use Rattle.std.proofs.Common.{map, sym, subst, ◌∙◌}
use Rattle.js_nfa.specs.AtomView.{atom_view}
use Rattle.js_kept_automaton.specs.Outcomes.{IsOutcome}
use Rattle.js_kept_automaton.proofs.Building.{built-is}
use Rattle.js_kept_automaton.proofs.kept.Built.of.Goals as goal

pub invariant_of-result : goal.invariant_of-result
invariant_of-result c = record {
  is_outcome = subst (λ z. IsOutcome (map atom_view z) c.build-outcome.result) c.as_slice.ensures.value
      (built-is (map atom_view c.as_slice.result.now) c.build-outcome.result c.build-outcome.ensures.atoms
      c.build-outcome.ensures.positions c.build-outcome.ensures.classes c.build-outcome.ensures.limit_positions
      c.build-outcome.ensures.limit_classes c.build-outcome.ensures.limit_states
      (sym c.lacks_memory.ensures ∙ c.if-lacks_memory.false));
}
