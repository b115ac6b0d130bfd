-- A demand is left, or the rooms decide.
use Rattle.std.proofs.Common.{map, arith, ap, length}
use Rattle.std.proofs.lemmas.List.{length-map}
use Rattle.js_algebra.specs.View.{signed_view}
use Rattle.js_lines.specs.View.{entry_view}
use Rattle.js_check_plans.specs.FormView.{form_view}
use Rattle.js_check_plans.proofs.LineLemmas.{short-early}
use Rattle.js_check_plans.proofs.lines.short.Goals as goal

pub returns-then-len-demands-clause-broken : goal.returns-then-len-demands-clause-broken
returns-then-len-demands-clause-broken g c =
    short-early (g.F.CheckFrame.table c.args.frame.now) c.args.goals.now (g.F.CheckFrame.frame c.args.frame.now)
    c.args.path.now.servers.items (form_view c.args.form) (map entry_view c.args.entries.now) (omega (
      arith,
      c.if-len-demands.true,
      c.len.ensures,
      ap length c.demands.ensures,
      length-map c.demands.result.now signed_view,
    ))
