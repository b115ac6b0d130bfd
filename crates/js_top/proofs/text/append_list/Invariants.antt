-- What was there, and the text of the part of the list that was written.
use Rattle.std.proofs.Common.{◌≡◌, ◌++◌, map, take}
use Rattle.std.specs.String.{string_bytes}
use Rattle.certificate_lines.specs.Text.{signed_text, list_text}
use Rattle.js_algebra.specs.View.{signed_view}
use Rattle.js_top.proofs.text.append_list.Given as goal

abbrev pub invariant-loop-x : goal.invariant-loop-x
invariant-loop-x l =
    string_bytes l.text ≡ string_bytes l.fn.text ++ list_text signed_text (map signed_view (take l.x-index l.list))
