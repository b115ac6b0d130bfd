use Rattle.std.proofs.Common.{length, ap, sym, ◌∙◌}
use Rattle.js_algebra.specs.Rules.{choice_view}
use Rattle.js_algebra.proofs.Choosing.{length-only_one}
use Rattle.js_algebra.proofs.choice.Choice.len.Goals as goal

pub returns-in-Only : goal.returns-in-Only
returns-in-Only c = sym (ap (λ x. length (choice_view x)) c.in-Only.is ∙ length-only_one _ _)
