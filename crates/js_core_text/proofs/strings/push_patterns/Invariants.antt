use Rattle.std.proofs.Common.{◌≡◌, ◌++◌, map, take}
use Rattle.std.specs.String.{string_bytes}
use Rattle.js_algebra.specs.View.{pattern_view}
use Rattle.js_core_text.specs.CoreText.{strings_text}
use Rattle.js_core_text.proofs.strings.push_patterns.Given as goal

abbrev pub invariant-loop-pattern : goal.invariant-loop-pattern
invariant-loop-pattern l =
    string_bytes l.out ≡ string_bytes l.fn.out ++ strings_text (map (λ r. r.source) (map pattern_view (take l.pattern-index l.patterns)))
