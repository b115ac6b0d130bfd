-- The report of `gen` is one of the command.
use Rattle.std.proofs.Common.{Some, sym, subst}
use Rattle.std.proofs.lemmas.Result.{IfOk-weaker}
use Rattle.js_gen.specs.KindView.{kind_view}
use Rattle.js_words.specs.CommandView.{command_view}
use Rattle.js_top.specs.Report.{IsReportOf, IsGenReport}
use Rattle.js_top.specs.Preparing.{AsBefore, CountsOf}
use Rattle.js_top.proofs.Includes.{ReportSays-weaker}
use Rattle.js_top.proofs.prepare.prepare_command.Goals as goal

pub returns-in-Gen-clause-says : goal.returns-in-Gen-clause-says
returns-in-Gen-clause-says g c =
    let told = g.H.Shelf.told c.args.shelf.now in
    let faults = g.H.Shelf.faults c.args.shelf.now in
    IfOk-weaker c.prepare_gen.result _ _ (λ p h.
    ReportSays-weaker AsBefore (CountsOf (Some (command_view c.args.command.now)))
    (IsGenReport (kind_view c.in-Gen.kind) c.in-Gen.number)
    (IsReportOf told (Some (command_view c.args.command.now)))
    (λ s m n same. subst (λ x. CountsOf (Some (command_view x)) s m n) (sym c.in-Gen.is) same)
    (λ r is. subst (λ x. IsReportOf told (Some (command_view x)) r) (sym c.in-Gen.is) is) faults faults p h)
    (c.prepare_gen.ensures.says faults)
