use Rattle.std.proofs.Common.{◌≡◌, ◌++◌, take}
use Rattle.std.specs.String.{string_bytes}
use Rattle.js_algebra.specs.View.{places}
use Rattle.js_core_text.specs.CoreText.{numbers_text}
use Rattle.js_core_text.proofs.strings.push_places.Given as goal

abbrev pub invariant-loop-place : goal.invariant-loop-place
invariant-loop-place l =
    string_bytes l.out ≡ string_bytes l.fn.out ++ numbers_text (places (take l.place-index l.list))
