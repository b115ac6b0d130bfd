use Rattle.std.proofs.Common.{◌≡◌, ◌++◌, ◌∷◌, map, flat_map, take}
use Rattle.std.specs.String.{string_bytes}
use Rattle.js_algebra.specs.View.{kind_view}
use Rattle.documents.specs.KindWords.{kind_word}
use Rattle.js_core_text.proofs.text.push_kinds.Given as goal

abbrev pub invariant-loop-kind : goal.invariant-loop-kind
invariant-loop-kind l =
    string_bytes l.out
    ≡ string_bytes l.fn.out ++ flat_map (λ t. 32 ∷ kind_word t) (map kind_view (take l.kind-index l.kinds))
