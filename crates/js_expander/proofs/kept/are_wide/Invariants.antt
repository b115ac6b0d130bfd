-- Alternatives that are left decide.
use Rattle.std.proofs.Common.{◌≡◌, map, drop}
use Rattle.documents.specs.Tests.{some}
use Rattle.alternatives.specs.Alternative.{named}
use Rattle.alternatives.specs.Expansion.{is_wide}
use Rattle.js_expansion.specs.AlternativeView.{alternative_view}
use Rattle.js_expander.proofs.kept.are_wide.Given as goal

abbrev pub invariant-loop-alternative : goal.invariant-loop-alternative
invariant-loop-alternative l =
    some is_wide (named (map alternative_view (drop l.alternative-index l.alternatives)))
    ≡ some is_wide (named (map alternative_view l.alternatives))
