use Rattle.std.proofs.Common.{◌≡◌, ◌<◌, length, map, ℕ}
use Rattle.shared_documents.specs.Unshared.{unshared}
use Rattle.document_texts.specs.Measured.{measured}
use Rattle.js_text.specs.Kept.{measure_at}
use Rattle.js_text.specs.Summed.{measure_view}
use Rattle.js_text.proofs.measures.Measures.room.Given as goal

abbrev pub invariant-loop-part : goal.invariant-loop-part
invariant-loop-part l = record {
  count : length l.of_parts.items ≡ l.part-index;
  each : (i : ℕ) → i < l.part-index → measure_at (map measure_view l.of_parts.items) i ≡ measured (unshared l.parts i);
}
