-- The file was begun, and what is left of it was judged.
use Rattle.js_certificate.proofs.FileLemmas.{file_judged, fault_judged, file_read_for}
use Rattle.js_certificate.proofs.UnrejectedLemmas.{file_unrejected}
use Rattle.js_certificate.proofs.file.judge_file.Goals as goal

pub returns-clause-verdict : goal.returns-clause-verdict
returns-clause-verdict g c =
    file_judged c.new-judge.result _ _ _ _ _ _ (g.H.Shelf.told c.args.shelf.now) (g.H.Shelf.told c.begin.new.self)
    c.args.name.now (g.H.Shelf.left c.begin.new.self) c.judge_pieces-verdict.result c.new-judge.ensures.table
    c.new-judge.ensures.premise c.new-judge.ensures.conclusion c.in-Ok.ensures.told c.new-judge.ensures.stands
    c.new-judge.ensures.bytes c.in-Ok.ensures.begun c.judge_pieces-verdict.ensures.verdict

pub returns-clause-fault : goal.returns-clause-fault
returns-clause-fault g c =
    fault_judged c.new-judge.result (g.H.Shelf.told c.args.shelf.now) (g.H.Shelf.told c.begin.new.self)
    c.args.name.now (g.H.Shelf.left c.begin.new.self) c.args.workers.now.count (g.H.Shelf.faults c.args.shelf.now)
    (g.H.Shelf.faults c.begin.new.self) (g.H.Shelf.faults c.judge_pieces-verdict.new.shelf)
    c.judge_pieces-verdict.result c.in-Ok.ensures.told c.in-Ok.ensures.counted c.new-judge.ensures.stands
    c.new-judge.ensures.bytes c.in-Ok.ensures.begun c.judge_pieces-verdict.ensures.fault

pub returns-clause-read : goal.returns-clause-read
returns-clause-read g c =
    file_read_for c.new-judge.result (g.H.Shelf.told c.args.shelf.now) (g.H.Shelf.told c.begin.new.self)
    c.args.name.now (g.H.Shelf.left c.begin.new.self) (g.H.Shelf.left c.judge_pieces-verdict.new.shelf)
    c.args.workers.now.count c.judge_pieces-verdict.result c.in-Ok.ensures.told c.new-judge.ensures.stands
    c.new-judge.ensures.bytes c.in-Ok.ensures.begun c.judge_pieces-verdict.ensures.read

pub returns-clause-unrejected : goal.returns-clause-unrejected
returns-clause-unrejected g c =
    file_unrejected c.new-judge.result _ _ _ _ _ _ (g.H.Shelf.told c.args.shelf.now) (g.H.Shelf.told c.begin.new.self)
    c.args.name.now (g.H.Shelf.is_begun c.judge_pieces-verdict.new.shelf) (g.H.Shelf.left c.begin.new.self)
    (g.H.Shelf.left c.judge_pieces-verdict.new.shelf) c.judge_pieces-verdict.result c.new-judge.ensures.table
    c.new-judge.ensures.premise c.new-judge.ensures.conclusion c.in-Ok.ensures.told c.new-judge.ensures.stands
    c.new-judge.ensures.bytes c.in-Ok.ensures.begun c.judge_pieces-verdict.ensures.unrejected
