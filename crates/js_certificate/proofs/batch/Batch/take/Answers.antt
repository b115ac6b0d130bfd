-- A line more waits, and lines may be handed over before it and after it. Where none is handed over then, few wait.
use Rattle.std.proofs.Common.{[], ◌∷◌, ◌++◌, refl}
use Rattle.std.proofs.lemmas.Result.{on_ok_weaker, IfErr-weaker}
use Rattle.js_lines.specs.View.{line_view}
use Rattle.js_certificate.proofs.PartLemmas.{passed}
use Rattle.js_certificate.proofs.BatchLemmas.{line_waits, told_longer, told_same, waits_after}
use Rattle.js_certificate.proofs.batch.Batch.take.Goals as goal

pub returns-in_err-hand_over_if-clause-broken : goal.returns-in_err-hand_over_if-clause-broken
returns-in_err-hand_over_if-clause-broken g c =
    let fault = c.in_err-hand_over_if.field-0.0 in
    passed _ c.from_residual.result fault c.from_residual.ensures.1 (λ ls h.
    told_longer _ _ _ fault ls (line_view c.args.line ∷ []) (c.in_err-hand_over_if.ensures.broken ls h))

pub returns-in-Ok-clause-stands : goal.returns-in-Ok-clause-stands
returns-in-Ok-clause-stands g c =
    on_ok_weaker c.hand_over_if-in-Ok.result
    (λ after ls h. after (ls ++ line_view c.args.line ∷ [])
    (line_waits c.hand_over_if.new.self _ c.args.line ls refl c.in-Ok.ensures
    (c.in_ok-hand_over_if.ensures.stands ls h))) c.hand_over_if-in-Ok.ensures.stands

pub returns-in-Ok-clause-broken : goal.returns-in-Ok-clause-broken
returns-in-Ok-clause-broken g c =
    IfErr-weaker c.hand_over_if-in-Ok.result _ _ (λ fault told ls h.
    told_same _ _ _ _ _ _ fault (ls ++ line_view c.args.line ∷ []) c.hand_over_if.ensures.table
    c.hand_over_if.ensures.premise c.hand_over_if.ensures.conclusion
    (told (ls ++ line_view c.args.line ∷ [])
    (line_waits c.hand_over_if.new.self _ c.args.line ls refl c.in-Ok.ensures
    (c.in_ok-hand_over_if.ensures.stands ls h)))) c.hand_over_if-in-Ok.ensures.broken

pub returns-in-Ok-clause-waits : goal.returns-in-Ok-clause-waits
returns-in-Ok-clause-waits g c =
    on_ok_weaker c.hand_over_if-in-Ok.result
    (λ handed. waits_after c.is_full-full.result c.args.workers.now.count _ _ c.add.new.lines.items
    c.hand_over_if-in-Ok.new.self.waiting.items c.add.new.lines.ok.0 c.hand_over_if-in-Ok.new.self.waiting.ok.0 handed
    c.hand_over_if-in-Ok.ensures.kept c.is_full-full.ensures) c.hand_over_if-in-Ok.ensures.handed
