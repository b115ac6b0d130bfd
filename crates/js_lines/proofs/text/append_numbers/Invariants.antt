-- What was there, the word, and the text of the part of the list that was written.
use Rattle.std.proofs.Common.{◌≡◌, ◌++◌, take}
use Rattle.std.specs.String.{string_bytes}
use Rattle.std.specs.Fmt.{decimal}
use Rattle.certificate_lines.specs.Text.{list_text}
use Rattle.js_lines.proofs.text.append_numbers.Given as goal

abbrev pub invariant-loop-number : goal.invariant-loop-number
invariant-loop-number l =
    string_bytes l.out ≡ string_bytes l.fn.out ++ (l.word ++ list_text decimal (take l.number-index l.numbers))
