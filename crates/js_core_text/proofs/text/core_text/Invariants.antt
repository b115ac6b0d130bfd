use Rattle.std.proofs.Common.{◌≡◌, ◌++◌, drop}
use Rattle.std.specs.String.{string_bytes}
use Rattle.js_core_text.specs.CoreText.{core_text, lines_text}
use Rattle.js_core_text.proofs.text.core_text.Given as goal

abbrev pub invariant-loop-number : goal.invariant-loop-number
invariant-loop-number l =
    string_bytes l.out ++ lines_text l.number (drop l.number l.core.positions) ≡ core_text l.core.positions
