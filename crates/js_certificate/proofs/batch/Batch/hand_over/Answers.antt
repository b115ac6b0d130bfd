-- The checker took all that waited.
use Rattle.std.proofs.Common.{map, refl, ap}
use Rattle.js_lines.specs.View.{line_view}
use Rattle.js_checker.proofs.Results.{if_err}
use Rattle.js_checker.proofs.TakingLemmas.{took_same}
use Rattle.js_certificate.proofs.BatchLemmas.{on_ok_of, handed, handed_told}
use Rattle.js_certificate.proofs.batch.Batch.hand_over.Goals as goal

pub returns-clause-stands : goal.returns-clause-stands
returns-clause-stands g c =
    let b = c.args.self.now in
    let k = c.take_all-taken.new.self in
    let took = took_same b.checker k (map line_view c.as_slice.result.now) (map line_view b.waiting.items)
    c.take_all-taken.ensures.stands (ap (map line_view) c.as_slice.ensures.value) in
    on_ok_of c.take_all-taken.result (λ ls. handed b k took _ ls refl c.clear.ensures.items)

pub returns-clause-broken : goal.returns-clause-broken
returns-clause-broken g c =
    let b = c.args.self.now in
    let k = c.take_all-taken.new.self in
    let took = took_same b.checker k (map line_view c.as_slice.result.now) (map line_view b.waiting.items)
    c.take_all-taken.ensures.stands (ap (map line_view) c.as_slice.ensures.value) in
    if_err c.take_all-taken.result (λ fault e ls. handed_told b k took fault ls e c.take_all-taken.ensures.table
    c.take_all-taken.ensures.premise c.take_all-taken.ensures.conclusion) c.take_all-taken.ensures.stopped
