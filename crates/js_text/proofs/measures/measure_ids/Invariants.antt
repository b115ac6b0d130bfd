use Rattle.std.proofs.Common.{◌≡◌, map, drop}
use Rattle.js_text.specs.Summed.{measure_view, summed, no_elements}
use Rattle.js_text.proofs.MeasureLemmas.{id_entry}
use Rattle.js_text.proofs.measures.measure_ids.Given as goal

abbrev pub invariant-loop-id : goal.invariant-loop-id
invariant-loop-id l =
    summed (measure_view l.sum) (map (id_entry (map measure_view l.below)) (drop l.id-index l.numbers))
    ≡ summed no_elements (map (id_entry (map measure_view l.below)) l.numbers)
