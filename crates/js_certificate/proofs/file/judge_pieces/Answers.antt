-- What was read goes to the judge, and the end is found where nothing is left.
use Rattle.std.proofs.Common.{◌≡◌, inl, ◌<◌, ◌≤◌, ◌+◌, arith, [], length, take, ap, vec_len, ◌∙◌, subst}
use Rattle.std.proofs.lemmas.List.{length-take-le}
use Rattle.js_outside.specs.Counts.{Rose}
use Rattle.js_certificate.specs.JudgeView.{bytes_of, waiting_of}
use Rattle.js_certificate.specs.FileRead.{StandsForFile}
use Rattle.js_certificate.specs.ReadBehind.{longest_piece}
use Rattle.js_certificate.specs.FileVerdicts.{longest_file}
use Rattle.js_certificate.proofs.FileLemmas.{file_read, file_ended, file_stopped, file_too_long, verdict_same, ok_more, take-front, fault_judged_before, fault_or_memory, counts_rejected, counts_failed, consumed, kept_whole, read_for, behind_before, behind_whole, behind_piece}
use Rattle.js_certificate.proofs.UnrejectedLemmas.{told_or_memory, memory_alone, cause_unrejected, read_unrejected, too_far_unrejected, memory_unrejected}
use Rattle.js_certificate.proofs.file.judge_pieces.Goals as goal

pub returns-in-Ok-eq0-clause-verdict : goal.returns-in-Ok-eq0-clause-verdict
returns-in-Ok-eq0-clause-verdict g c =
    let room : 0 < length c.read.new.into =
    omega (arith, c.read.auto.into, c.deref_mut.ensures.len, c.pieces.invariant.room) in
    let taken = rw c.in-Ok-eq0.field-0-test at c.in-Ok-eq0.ensures.taken.0 in
    let end = c.in-Ok-eq0.ensures.taken.1 c.in-Ok-eq0.field-0-test room in
    ok_more c.verdict_at_end.result
    (λ v is name h.
    verdict_same _ _ _ _ _ _ _ name v c.pieces.invariant.table c.pieces.invariant.premise
    c.pieces.invariant.conclusion
    (file_ended c.pieces.judge _ _ _ _ name _ _ v is taken end (c.pieces.invariant.so_far name h)))
    c.verdict_at_end.ensures.verdict

pub returns-in-Err-clause-verdict : goal.returns-in-Err-clause-verdict
returns-in-Err-clause-verdict g c =
    fault_judged_before c.pieces.judge c.args.judge.now _ _ _ _ _ _ (g.H.Shelf.told c.args.shelf.now)
    (g.H.Shelf.left c.args.shelf.now) (g.H.Shelf.left c.pieces.shelf) c.verdict_before.result
    c.pieces.invariant.table c.pieces.invariant.premise c.pieces.invariant.conclusion
    c.verdict_before.ensures.verdict c.pieces.invariant.so_far

-- a read that failed: the count rose, and the lines that wait are judged

pub returns-in-Err-clause-counted : goal.returns-in-Err-clause-counted
returns-in-Err-clause-counted g c =
    let rose : Rose (g.H.Shelf.faults c.args.shelf.now) (g.H.Shelf.faults c.read.new.self) =
    subst (λ n. Rose n (g.H.Shelf.faults c.read.new.self)) c.pieces.invariant.counted c.in-Err.ensures.failed in
    counts_rejected c.args.workers.now.count (waiting_of c.pieces.judge) _ _ c.args.workers.now.some
    c.pieces.invariant.waits rose c.verdict_before.result
    (ok_more c.verdict_before.result (λ v is. is.0) c.verdict_before.ensures.verdict)
    (c.verdict_before.ensures.none c.pieces.invariant.going)

pub returns-in-Err-clause-fault : goal.returns-in-Err-clause-fault
returns-in-Err-clause-fault g c =
    let told = g.H.Shelf.told c.args.shelf.now in
    let rose : Rose (g.H.Shelf.faults c.args.shelf.now) (g.H.Shelf.faults c.read.new.self) =
    subst (λ n. Rose n (g.H.Shelf.faults c.read.new.self)) c.pieces.invariant.counted c.in-Err.ensures.failed in
    counts_failed c.args.workers.now.count (waiting_of c.pieces.judge) _ _ c.args.workers.now.some
    c.pieces.invariant.waits rose told c.verdict_before.result c.verdict_before.ensures.fault
    (c.verdict_before.ensures.none c.pieces.invariant.going)
    (λ name. StandsForFile c.args.judge.now told name (g.H.Shelf.left c.args.shelf.now))

-- how far the file was read

pub returns-in-Err-clause-read : goal.returns-in-Err-clause-read
returns-in-Err-clause-read g c =
    read_for c.pieces.judge c.args.workers.now.count c.pieces.invariant.going c.pieces.invariant.waits [] (omega arith)
    c.args.judge.now (g.H.Shelf.told c.args.shelf.now) (g.H.Shelf.left c.args.shelf.now)
    (g.H.Shelf.left c.pieces.shelf) (g.H.Shelf.left c.read.new.self) c.verdict_before.result
    (kept_whole _ _ c.in-Err.ensures.taken)
    (behind_before c.pieces.judge _ _ _ c.verdict_before.result c.verdict_before.ensures.verdict)
    c.pieces.invariant.so_far

pub returns-in-Ok-eq0-clause-read : goal.returns-in-Ok-eq0-clause-read
returns-in-Ok-eq0-clause-read g c =
    let taken = rw c.in-Ok-eq0.field-0-test at c.in-Ok-eq0.ensures.taken.0 in
    read_for c.pieces.judge c.args.workers.now.count c.pieces.invariant.going c.pieces.invariant.waits [] (omega arith)
    c.args.judge.now (g.H.Shelf.told c.args.shelf.now) (g.H.Shelf.left c.args.shelf.now)
    (g.H.Shelf.left c.pieces.shelf) (g.H.Shelf.left c.read.new.self) c.verdict_at_end.result taken
    (behind_whole c.pieces.judge _ _ _ c.verdict_at_end.result c.verdict_at_end.ensures.verdict)
    c.pieces.invariant.so_far

pub returns-then-count-bytes-clause-read : goal.returns-then-count-bytes-clause-read
returns-then-count-bytes-clause-read g c =
    let count = length-take-le c.in-Ok.count c.read.new.into c.in-Ok.ensures.within.0 in
    let filled : length c.read.new.into ≡ vec_len c.pieces.buffer =
    c.read.auto.into ∙ c.deref_mut.ensures.len in
    let short : length (take c.in-Ok.count c.read.new.into) ≤ longest_piece =
    omega (arith, count, filled, c.in-Ok.ensures.within.0, c.pieces.invariant.short) in
    read_for c.pieces.judge c.args.workers.now.count c.pieces.invariant.going c.pieces.invariant.waits
    (take c.in-Ok.count c.read.new.into) short c.args.judge.now (g.H.Shelf.told c.args.shelf.now)
    (g.H.Shelf.left c.args.shelf.now) (g.H.Shelf.left c.pieces.shelf) (g.H.Shelf.left c.read.new.self)
    c.verdict_before-then-count-bytes.result c.in-Ok.ensures.taken.0
    (behind_before c.pieces.judge _ _ _ c.verdict_before-then-count-bytes.result
    c.verdict_before-then-count-bytes.ensures.verdict) c.pieces.invariant.so_far

pub returns-in-Err-take-clause-read : goal.returns-in-Err-take-clause-read
returns-in-Err-take-clause-read g c =
    let filled : length c.read.new.into ≡ vec_len c.pieces.buffer =
    c.read.auto.into ∙ c.deref_mut.ensures.len in
    let buffer : c.deref.result.now ≡ c.read.new.into =
    rw c.deref.ensures.value (take-front c.read.new.into _ _ filled) in
    let same = ap length buffer in
    let within : c.in-Ok.count ≤ length c.deref.result.now = omega (arith, same, c.in-Ok.ensures.within.0) in
    let count = length-take-le c.in-Ok.count c.deref.result.now within in
    let short : length (take c.in-Ok.count c.deref.result.now) ≤ longest_piece =
    omega (arith, count, same, filled, within, c.pieces.invariant.short) in
    read_for c.pieces.judge c.args.workers.now.count c.pieces.invariant.going c.pieces.invariant.waits
    (take c.in-Ok.count c.deref.result.now) short c.args.judge.now (g.H.Shelf.told c.args.shelf.now)
    (g.H.Shelf.left c.args.shelf.now) (g.H.Shelf.left c.pieces.shelf) (g.H.Shelf.left c.read.new.self)
    c.verdict_of.result
    (consumed _ _ c.deref.result.now c.read.new.into c.in-Ok.count buffer c.in-Ok.ensures.taken.0)
    (behind_piece c.pieces.judge _ _ _ (take c.in-Ok.count c.deref.result.now) c.in-Err-take.fault c.verdict_of.result
    c.in-Err-take.ensures.broken c.verdict_of.ensures) c.pieces.invariant.so_far

-- where it isn't judged to its end

pub returns-in-Err-clause-unrejected : goal.returns-in-Err-clause-unrejected
returns-in-Err-clause-unrejected g c =
    cause_unrejected _ _ _ c.verdict_before.result c.verdict_before.ensures.fault c.verdict_before.ensures.unrejected
    (λ name h. memory_unrejected _ (g.H.Shelf.told c.args.shelf.now) name _)
    (λ unrejected name h.
    read_unrejected c.pieces.judge _ _ _ _ _ _ c.pieces.invariant.table c.pieces.invariant.premise
    c.pieces.invariant.conclusion unrejected (g.H.Shelf.told c.args.shelf.now) name _ _ c.in-Err.ensures.taken
    (c.pieces.invariant.so_far name h))

pub returns-in-Ok-eq0-clause-unrejected : goal.returns-in-Ok-eq0-clause-unrejected
returns-in-Ok-eq0-clause-unrejected g c =
    memory_alone _ c.verdict_at_end.result c.verdict_at_end.ensures.fault
    (λ name h. memory_unrejected _ (g.H.Shelf.told c.args.shelf.now) name _)

pub returns-then-count-bytes-clause-unrejected : goal.returns-then-count-bytes-clause-unrejected
returns-then-count-bytes-clause-unrejected g c =
    let count = length-take-le c.in-Ok.count c.read.new.into c.in-Ok.ensures.within.0 in
    let filled : length c.read.new.into ≡ vec_len c.pieces.buffer =
    c.read.auto.into ∙ c.deref_mut.ensures.len in
    let short : length (take c.in-Ok.count c.read.new.into) ≤ longest_piece =
    omega (arith, count, filled, c.in-Ok.ensures.within.0, c.pieces.invariant.short) in
    let long : longest_file < bytes_of c.pieces.judge + length (take c.in-Ok.count c.read.new.into) =
    omega (arith, count, c.if-count-bytes.true, c.bytes.ensures, c.pieces.invariant.few) in
    cause_unrejected _ _ _ c.verdict_before-then-count-bytes.result c.verdict_before-then-count-bytes.ensures.fault
    c.verdict_before-then-count-bytes.ensures.unrejected
    (λ name h. memory_unrejected _ (g.H.Shelf.told c.args.shelf.now) name _)
    (λ unrejected name h.
    too_far_unrejected c.pieces.judge _ _ _ _ _ _ c.pieces.invariant.table c.pieces.invariant.premise
    c.pieces.invariant.conclusion unrejected (g.H.Shelf.told c.args.shelf.now) name _ _ _ short long
    c.in-Ok.ensures.taken.0 (c.pieces.invariant.so_far name h))

pub returns-in-Err-take-clause-unrejected : goal.returns-in-Err-take-clause-unrejected
returns-in-Err-take-clause-unrejected g c =
    told_or_memory _ c.in-Err-take.fault c.verdict_of.result c.verdict_of.ensures
    (λ name h. memory_unrejected _ (g.H.Shelf.told c.args.shelf.now) name _)

pub overflow_sub-bytes : goal.overflow_sub-bytes
overflow_sub-bytes g c = omega (arith, c.bytes.ensures, c.pieces.invariant.few)

pub returns-then-count-bytes-clause-fault : goal.returns-then-count-bytes-clause-fault
returns-then-count-bytes-clause-fault g c =
    let count = length-take-le c.in-Ok.count c.read.new.into c.in-Ok.ensures.within.0 in
    let long : longest_file < bytes_of c.pieces.judge + length (take c.in-Ok.count c.read.new.into) =
    omega (arith, count, c.if-count-bytes.true, c.bytes.ensures, c.pieces.invariant.few) in
    let same = c.in-Ok.ensures.counted ∙ c.pieces.invariant.counted in
    fault_or_memory _ _ c.verdict_before-then-count-bytes.result c.verdict_before-then-count-bytes.ensures.fault
    (λ name h.
    (file_too_long c.pieces.judge _ name _ _ _ long c.in-Ok.ensures.taken.0 (c.pieces.invariant.so_far name h), same))
    (λ name h. inl same)

pub returns-then-count-bytes-clause-verdict : goal.returns-then-count-bytes-clause-verdict
returns-then-count-bytes-clause-verdict g c =
    fault_judged_before c.pieces.judge c.args.judge.now _ _ _ _ _ _ (g.H.Shelf.told c.args.shelf.now)
    (g.H.Shelf.left c.args.shelf.now) (g.H.Shelf.left c.pieces.shelf) c.verdict_before-then-count-bytes.result
    c.pieces.invariant.table c.pieces.invariant.premise c.pieces.invariant.conclusion
    c.verdict_before-then-count-bytes.ensures.verdict c.pieces.invariant.so_far

pub returns-in-Err-take-clause-verdict : goal.returns-in-Err-take-clause-verdict
returns-in-Err-take-clause-verdict g c =
    let filled : length c.read.new.into ≡ vec_len c.pieces.buffer =
    c.read.auto.into ∙ c.deref_mut.ensures.len in
    let buffer : c.deref.result.now ≡ c.read.new.into =
    rw c.deref.ensures.value (take-front c.read.new.into _ _ filled) in
    file_stopped c.pieces.judge c.args.judge.now _ _ _ _ _ _ (g.H.Shelf.told c.args.shelf.now) c.deref.result.now
    c.read.new.into c.in-Ok.count (g.H.Shelf.left c.args.shelf.now) (g.H.Shelf.left c.pieces.shelf)
    (g.H.Shelf.left c.read.new.self) c.in-Err-take.fault c.verdict_of.result buffer c.pieces.invariant.table
    c.pieces.invariant.premise c.pieces.invariant.conclusion c.in-Err-take.ensures.broken c.verdict_of.ensures
    c.in-Ok.ensures.taken.0 c.pieces.invariant.so_far

pub pieces-preserved : goal.pieces-preserved
pieces-preserved g c =
    let filled : length c.read.new.into ≡ vec_len c.pieces.buffer =
    c.read.auto.into ∙ c.deref_mut.ensures.len in
    let buffer : c.deref.result.now ≡ c.read.new.into =
    rw c.deref.ensures.value (take-front c.read.new.into _ _ filled) in
    let same = ap length buffer in
    let within : c.in-Ok.count ≤ length c.deref.result.now = omega (arith, same, c.in-Ok.ensures.within.0) in
    let count = length-take-le c.in-Ok.count c.deref.result.now within in
    record {
      so_far = λ name h.
          file_read c.pieces.judge c.take.new.self (g.H.Shelf.told c.args.shelf.now) name c.deref.result.now
          c.read.new.into c.in-Ok.count (g.H.Shelf.left c.pieces.shelf) (g.H.Shelf.left c.read.new.self) buffer
          c.in-Ok-take.ensures.stands c.in-Ok-take.ensures.counted c.in-Ok.ensures.taken.0
          (c.pieces.invariant.so_far name h);
      told = c.in-Ok.ensures.told ∙ c.pieces.invariant.told;
      counted = c.in-Ok.ensures.counted ∙ c.pieces.invariant.counted;
      begun = c.in-Ok.ensures.named ∙ c.pieces.invariant.begun;
      room = c.pieces.invariant.room;
      short = c.pieces.invariant.short;
      few = omega (
        arith,
        count,
        c.in-Ok-take.ensures.counted,
        c.if-count-bytes.false,
        c.bytes.ensures,
        c.pieces.invariant.few,
      );
      going = c.in-Ok-take.ensures.going;
      waits = c.in-Ok-take.ensures.waits c.pieces.invariant.waits;
      table = c.in-Ok-take.ensures.table ∙ c.pieces.invariant.table;
      premise = c.in-Ok-take.ensures.premise ∙ c.pieces.invariant.premise;
      conclusion = c.in-Ok-take.ensures.conclusion ∙ c.pieces.invariant.conclusion;
    }
