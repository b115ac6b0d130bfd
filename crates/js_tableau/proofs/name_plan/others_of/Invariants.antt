-- The others so far.
use Rattle.std.proofs.Common.{◌≡◌, filter, take, not, true}
use Rattle.positions.specs.Position.{position_at}
use Rattle.name_laws.specs.Plans.{is_leaf}
use Rattle.js_tableau.specs.NamePlans.{places_of, have_ranks}
use Rattle.js_tableau.proofs.name_plan.others_of.Given as goal

abbrev pub invariant-loop-q : goal.invariant-loop-q
invariant-loop-q l = record {
  places : places_of l.others.items
      ≡ filter (λ q. not (is_leaf (position_at l.core.positions q))) (take l.q-index l.found);
  ranks : have_ranks l.core.ranks l.others.items ≡ true;
}
