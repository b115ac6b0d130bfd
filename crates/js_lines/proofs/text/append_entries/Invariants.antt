-- What was there, the word, and the text of the entries that were written.
use Rattle.std.proofs.Common.{◌≡◌, ◌++◌, map, take}
use Rattle.std.specs.Prelude.{codes}
use Rattle.std.specs.String.{string_bytes}
use Rattle.certificate_lines.specs.Text.{list_text, entry_text}
use Rattle.js_lines.specs.View.{entry_view}
use Rattle.js_lines.proofs.text.append_entries.Given as goal

abbrev pub invariant-loop-entry : goal.invariant-loop-entry
invariant-loop-entry l =
    string_bytes l.out
    ≡ string_bytes l.fn.out ++ (codes "short" ++ list_text entry_text (map entry_view (take l.entry-index l.entries)))
