-- The verdicts and decisions that the program's values stand for.
use Rattle.decisions.specs.Decision as D
use Rattle.js_expansion.specs.View.{limit_view}
use Rattle.js_decide.specs.declared.outcome.Outcome.{Outcome}
use Rattle.js_decide.specs.declared.outcome.Outcome.TheVariants as O
use Rattle.js_decide.specs.declared.verdict.Verdict.{Verdict}
use Rattle.js_decide.specs.declared.verdict.Verdict.TheVariants as V
use Rattle.js_decide.specs.declared.verdict.Decided.{Decided}

abbrev pub outcome_view : Outcome → D.Verdict
outcome_view (O.Document ps i) = D.Document ps i.0
outcome_view (O.Limit k g) = D.Limit (limit_view k) g
outcome_view O.NoDocument = D.NoDocument

abbrev pub verdict_view : Verdict → D.Verdict
verdict_view (V.Document ps i) = D.Document ps i.0
verdict_view (V.Limit k g) = D.Limit (limit_view k) g
verdict_view (V.Certificate text) = D.NoDocument

abbrev pub decided_view : Decided → D.Decided
decided_view d = D.decided (verdict_view d.verdict) d.goals d.rounds
