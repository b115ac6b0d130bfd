use Rattle.std.proofs.Common.{◌≡◌, ◌<◌, Some, refl, sym, subst, arith}
use Rattle.js_outside.specs.Told.{CountsMisses}
use Rattle.js_outside.specs.Counts.{last_count}
use Rattle.js_outside.specs.Contents.{contents}
use Rattle.js_outside.specs.InMemory.{ShelfState}
use Rattle.js_top.specs.Names.{MissesFile}
use Rattle.js_top.specs.Running.{WritesReport}
use Rattle.js_top.proofs.memory.run_in_memory.Goals as goal

pub returns-clause-report : goal.returns-clause-report
returns-clause-report g c = λ r w m.
    subst (λ (old : ShelfState). WritesReport (Some (contents old.files)) c.args.words.now
    (g.K.Sink.written c.args.sink.now) (g.K.Sink.written c.run-status.new.sink) c.run-status.result)
    c.new-shelf.ensures (c.run-status.ensures.report r w m)

pub returns-clause-usage : goal.returns-clause-usage
returns-clause-usage g c = c.run-status.ensures.usage

pub returns-clause-other_words : goal.returns-clause-other_words
returns-clause-other_words g c = c.run-status.ensures.other_words

pub returns-clause-write_fault : goal.returns-clause-write_fault
returns-clause-write_fault g c = c.run-status.ensures.write_fault

pub returns-clause-write_noticed : goal.returns-clause-write_noticed
returns-clause-write_noticed g c = c.run-status.ensures.write_noticed

pub returns-clause-read_text : goal.returns-clause-read_text
returns-clause-read_text g c = c.run-status.ensures.read_text

pub returns-clause-memory_text : goal.returns-clause-memory_text
returns-clause-memory_text g c = c.run-status.ensures.memory_text

pub returns-clause-missing : goal.returns-clause-missing
returns-clause-missing g c = λ w m misses.
    c.run-status.ensures.missing w m
    (subst (λ (old : ShelfState). MissesFile (Some (contents old.files)) c.args.words.now)
    (sym c.new-shelf.ensures) misses)

pub returns-clause-only_missing : goal.returns-clause-only_missing
returns-clause-only_missing g c = λ e.
    let new : ShelfState = c.run-status.new.shelf in
    let all = subst (λ (old : ShelfState).
    Some (contents new.files) ≡ Some (contents old.files)
    × (CountsMisses (Some (contents old.files)) old.begun old.faults
    → CountsMisses (Some (contents old.files)) new.begun new.faults → old.faults < last_count
    → MissesFile (Some (contents old.files)) c.args.words.now))
    c.new-shelf.ensures (c.run-status.ensures.told, c.run-status.ensures.only_missing e) in
    all.1 refl (subst (λ t. CountsMisses t new.begun new.faults) all.0 c.faults.ensures.misses) (omega arith)
