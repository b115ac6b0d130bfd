use Rattle.std.proofs.Common.{◌∙◌, ap, arith}
use Rattle.js_match.specs.First.{set_in_turn}
use Rattle.js_match.proofs.FirstLaws.{set-none}
use Rattle.js_match.proofs.first.set_in_turn.Goals as goal

pub returns-then-list-lt2 : goal.returns-then-list-lt2
returns-then-list-lt2 c =
    set-none c.as_slice-list.result.now (omega (arith, c.if-list-lt2.true)) ∙ ap set_in_turn c.as_slice-list.ensures.view
