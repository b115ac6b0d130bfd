use Rattle.std.proofs.Common.{◌≡◌, ◌++◌, take}
use Rattle.std.specs.String.{string_bytes}
use Rattle.js_core_text.specs.CoreText.{strings_text}
use Rattle.js_core_text.proofs.strings.push_strings.Given as goal

abbrev pub invariant-loop-text : goal.invariant-loop-text
invariant-loop-text l =
    string_bytes l.out ≡ string_bytes l.fn.out ++ strings_text (take l.text-index l.texts)
