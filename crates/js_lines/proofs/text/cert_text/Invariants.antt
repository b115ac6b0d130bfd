-- The text of the lines that were written.
use Rattle.std.proofs.Common.{◌≡◌, map, take}
use Rattle.std.specs.String.{string_bytes}
use Rattle.certificate_lines.specs.Text.{lines_text}
use Rattle.js_lines.specs.View.{line_view}
use Rattle.js_lines.proofs.text.cert_text.Given as goal

abbrev pub invariant-loop-line : goal.invariant-loop-line
invariant-loop-line l = string_bytes l.out ≡ lines_text (map line_view (take l.line-index l.lines))
