use Rattle.std.proofs.Common.{◌≡◌, map, drop}
use Rattle.js_text.specs.Summed.{measure_view, summed, no_elements}
use Rattle.js_text.proofs.MeasureLemmas.{member_entry}
use Rattle.js_text.proofs.measures.measure_members.Given as goal

abbrev pub invariant-loop-member : goal.invariant-loop-member
invariant-loop-member l =
    summed (measure_view l.sum) (map (member_entry (map measure_view l.below)) (drop l.member-index l.named))
    ≡ summed no_elements (map (member_entry (map measure_view l.below)) l.named)
