use Rattle.std.proofs.Common.{◌≡◌, map, drop}
use Rattle.js_algebra.specs.View.{kind_view}
use Rattle.certificate_lines.specs.Reading.{kind_among, kind_of_word}
use Rattle.js_lines.proofs.words.kind.Given as goal

-- none of the kinds before has this word
abbrev pub invariant-loop-kind : goal.invariant-loop-kind
invariant-loop-kind l = kind_among (map kind_view (drop l.kind-index l.kind-items)) l.text ≡ kind_of_word l.text
