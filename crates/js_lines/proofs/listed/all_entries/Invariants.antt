-- The entries that were read, and then those of the words that are left, are all of them.
use Rattle.std.proofs.Common.{◌≡◌, ◌++◌, map, drop, false}
use Rattle.std.specs.Option.{option_map}
use Rattle.certificate_lines.specs.Reading.{entries_on}
use Rattle.js_lines.specs.View.{entry_view}
use Rattle.js_lines.proofs.listed.all_entries.Given as goal

abbrev pub invariant-loop-word : goal.invariant-loop-word
invariant-loop-word l =
    option_map (λ fs. map entry_view l.list.items ++ fs)
    (entries_on l.awaits_number (map (λ word. word.now) (drop l.word-index l.words)))
    ≡ entries_on false (map (λ word. word.now) l.words)
