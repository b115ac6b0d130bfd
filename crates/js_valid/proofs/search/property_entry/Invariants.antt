use Rattle.std.proofs.Common.{◌≡◌, ℕ, ◌-◌, ◌<◌, ◌≤◌, [], true, map, length, get_or, chars}
use Rattle.documents.specs.Tests.{comes_before}
use Rattle.js_schema.specs.View.{property_view}
use Rattle.js_doc.proofs.Search.{names}
use Rattle.js_valid.proofs.search.property_entry.Given as goal

abbrev pub invariant-loop-low : goal.invariant-loop-low
invariant-loop-low l = record {
  order : l.low ≤ l.high;
  within : l.high ≤ length l.properties;
  below : (k : ℕ) → k < l.low
      → comes_before (get_or (names (map property_view l.properties)) k []) (chars l.name) ≡ true;
  above : (k : ℕ) → l.high ≤ k → k < length l.properties
      → comes_before (chars l.name) (get_or (names (map property_view l.properties)) k []) ≡ true;
}

abbrev pub decreases-loop-low : goal.decreases-loop-low
decreases-loop-low l = l.high - l.low
