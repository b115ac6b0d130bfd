-- What the entries so far cite is listed, and they cite it by its places.
use Rattle.std.proofs.Common.{◌≡◌, nat_eq, flat_map, map, take}
use Rattle.word_states.specs.Mention.{mention_all}
use Rattle.refutations.specs.Listing.{place_of, cited_by_entry, renamed_entry}
use Rattle.js_lines.specs.View.{entry_view}
use Rattle.js_refute.proofs.listing.list_entries.Given as goal

abbrev pub invariant-loop-entry : goal.invariant-loop-entry
invariant-loop-entry l =
    let before = map entry_view (take l.entry-index l.entries) in
    record {
      listed : l.listed.keys ≡ mention_all nat_eq l.fn.listed.keys (flat_map cited_by_entry before);
      placed : map entry_view l.placed.items ≡ map (renamed_entry (place_of l.listed.keys)) before;
    }
