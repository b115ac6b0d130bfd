-- Members that are left decide.
use Rattle.std.proofs.Common.{◌≡◌, map, drop}
use Rattle.documents.specs.Tests.{some}
use Rattle.alternatives.specs.Expansion.{is_wide}
use Rattle.js_expansion.specs.View.{placed_view}
use Rattle.js_expander.proofs.kept.has_wide_member.Given as goal

abbrev pub invariant-loop-member : goal.invariant-loop-member
invariant-loop-member l =
    some is_wide (map (λ m. m.goal) (map placed_view (drop l.member-index l.members)))
    ≡ some is_wide (map (λ m. m.goal) (map placed_view l.members))
