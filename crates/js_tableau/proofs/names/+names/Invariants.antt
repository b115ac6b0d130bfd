use Rattle.std.proofs.Common.{◌≡◌, ◌+◌, ◌*◌, cond, not, drop, length, nat_lt, true}
use Rattle.documents.specs.Tests.{every, some}
use Rattle.documents.specs.Measures.{exactly_one}
use Rattle.js_algebra.specs.View.{places}
use Rattle.name_truths.specs.NameTruth.{are_known, name_within}
use Rattle.js_tableau.proofs.names.+names.Given as goal

abbrev pub decreases-is_held : goal.decreases-is_held
decreases-is_held g l = 3 * l.steps

abbrev pub decreases-is_met : goal.decreases-is_met
decreases-is_met g l = 3 * l.steps + 2

abbrev pub decreases-are_held : goal.decreases-are_held
decreases-are_held g l = 3 * l.steps + 1

abbrev pub decreases-is_one_held : goal.decreases-is_one_held
decreases-is_one_held g l = 3 * l.steps + 1

abbrev pub decreases-is_just_one_held : goal.decreases-is_just_one_held
decreases-is_just_one_held g l = 3 * l.steps + 1

-- the positions that are left decide, are in the table and have atoms that are known
abbrev pub invariant-are_held-loop-q : goal.invariant-are_held-loop-q
invariant-are_held-loop-q g l = record {
  decide : every (name_within l.core.positions (g.S.Truths.truth l.truths) l.steps) (places (drop l.q-index l.q-items))
      ≡ every (name_within l.core.positions (g.S.Truths.truth l.truths) l.steps) (places l.q-items);
  within : every (λ q. nat_lt q (length l.core.positions)) (places (drop l.q-index l.q-items)) ≡ true;
  known : are_known (g.S.Truths.knows l.truths) l.core.positions l.steps (places (drop l.q-index l.q-items)) ≡ true;
}

abbrev pub invariant-is_one_held-loop-q : goal.invariant-is_one_held-loop-q
invariant-is_one_held-loop-q g l = record {
  decide : some (name_within l.core.positions (g.S.Truths.truth l.truths) l.steps) (places (drop l.q-index l.q-items))
      ≡ some (name_within l.core.positions (g.S.Truths.truth l.truths) l.steps) (places l.q-items);
  within : every (λ q. nat_lt q (length l.core.positions)) (places (drop l.q-index l.q-items)) ≡ true;
  known : are_known (g.S.Truths.knows l.truths) l.core.positions l.steps (places (drop l.q-index l.q-items)) ≡ true;
}

abbrev pub invariant-is_just_one_held-loop-q : goal.invariant-is_just_one_held-loop-q
invariant-is_just_one_held-loop-q g l = record {
  decide : cond l.found
      (not (some (name_within l.core.positions (g.S.Truths.truth l.truths) l.steps) (places (drop l.q-index l.q-items))))
      (exactly_one (name_within l.core.positions (g.S.Truths.truth l.truths) l.steps) (places (drop l.q-index l.q-items)))
      ≡ exactly_one (name_within l.core.positions (g.S.Truths.truth l.truths) l.steps) (places l.q-items);
  within : every (λ q. nat_lt q (length l.core.positions)) (places (drop l.q-index l.q-items)) ≡ true;
  known : are_known (g.S.Truths.knows l.truths) l.core.positions l.steps (places (drop l.q-index l.q-items)) ≡ true;
}
