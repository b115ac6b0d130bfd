-- Fillers that are left decide.
use Rattle.std.proofs.Common.{◌≡◌, map, drop}
use Rattle.documents.specs.Tests.{some}
use Rattle.alternatives.specs.Expansion.{is_wide}
use Rattle.js_expansion.specs.View.{filler_view}
use Rattle.js_expander.proofs.kept.has_wide_filler.Given as goal

abbrev pub invariant-loop-filler : goal.invariant-loop-filler
invariant-loop-filler l =
    some is_wide (map (λ f. f.goal) (map filler_view (drop l.filler-index l.fillers)))
    ≡ some is_wide (map (λ f. f.goal) (map filler_view l.fillers))
