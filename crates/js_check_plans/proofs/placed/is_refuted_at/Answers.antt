-- What is placed by the number, if anything is.
use Rattle.std.proofs.Common.{map, ap, ap₂, sym, ◌∙◌}
use Rattle.frames.specs.Frame.{list_at}
use Rattle.frames.specs.PlanLines.{is_refuted}
use Rattle.js_algebra.specs.View.{signed_view}
use Rattle.verdicts.specs.Duties.{ending}
use Rattle.verdicts.specs.Verdict.{cites}
use Rattle.js_lines.specs.View.{end_view}
use Rattle.js_check_plans.proofs.LineLemmas.{refuted-some, refuted-none}
use Rattle.js_check_plans.proofs.placed.is_refuted_at.Goals as goal
use Rattle.js_plans.proofs.Served.{if_ok}

pub returns-in_ok-served-in-Some : goal.returns-in_ok-served-in-Some
returns-in_ok-served-in-Some g c =
    let T = g.F.CheckFrame.table c.args.frame.now in
    let frame = g.F.CheckFrame.frame c.args.frame.now in
    let goals = c.args.goals.now in
    if_ok _ _ c.is_place_refuted.result
    (λ b e. e
    ∙ ap₂ (λ at ds. is_refuted T (cites goals) (list_at frame at ds) (ending (end_view c.args.end)))
    c.place_of-place.ensures
    (ap (map signed_view) c.as_slice.ensures.value ∙ c.in_ok-served-in-Some.ensures.value)
    ∙ sym (refuted-some T goals frame c.args.path.now.servers.items c.args.number c.in-Some.server
    (ending (end_view c.args.end))
    c.requires (sym c.server_at.ensures ∙ c.in-Some.is)))
    c.is_place_refuted.ensures

pub returns-in-None : goal.returns-in-None
returns-in-None g c =
    sym (refuted-none (g.F.CheckFrame.table c.args.frame.now) c.args.goals.now (g.F.CheckFrame.frame c.args.frame.now)
    c.args.path.now.servers.items c.args.number (ending (end_view c.args.end)) c.requires
    (sym c.server_at.ensures ∙ c.in-None.is))
