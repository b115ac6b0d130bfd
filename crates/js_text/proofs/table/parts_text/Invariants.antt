use Rattle.std.proofs.Common.{◌≡◌, ◌++◌, drop}
use Rattle.std.specs.String.{string_bytes}
use Rattle.document_texts.specs.PartsText.{parts_text, lines_text}
use Rattle.js_text.proofs.table.parts_text.Given as goal

abbrev pub invariant-loop-number : goal.invariant-loop-number
invariant-loop-number l =
    string_bytes l.out ++ lines_text l.number (drop l.number l.parts) ≡ parts_text l.parts
