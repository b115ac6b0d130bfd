-- None of those before is ready.
use Rattle.std.proofs.Common.{◌≡◌, take, drop, None, option_map, ◌+◌}
use Rattle.search.specs.Rounds.{first_place}
use Rattle.js_waiting.specs.Counts.{is_ready}
use Rattle.js_waiting.proofs.counts.CountsList.first_ready.Given as goal

abbrev pub invariant-loop-number : goal.invariant-loop-number
invariant-loop-number l =
    first_place is_ready l.self ≡ option_map (λ i. l.number + i) (first_place is_ready (drop l.number l.self))
