-- The head, and the goals so far.
use Rattle.std.proofs.Common.{◌≡◌, ◌∷◌, [], length, map, take, get_or}
use Rattle.std.specs.String.{string_bytes}
use Rattle.certificate_lines.specs.Line as L
use Rattle.certificate_lines.specs.Text.{lines_text}
use Rattle.js_explore.specs.ExploredView.{explored_view}
use Rattle.js_refute.proofs.refutation.front.Given as goal

abbrev pub invariant-loop-number : goal.invariant-loop-number
invariant-loop-number l =
    string_bytes l.text
    ≡ lines_text (L.Version ∷ L.Goals (length l.listed)
    ∷ map (λ k. L.Goal (get_or (explored_view l.explored).found.goals k [])) (take l.number-index l.listed))
