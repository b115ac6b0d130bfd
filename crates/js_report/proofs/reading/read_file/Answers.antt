use Rattle.std.proofs.Common.{◌≡◌, ◌<◌, ◌≤◌, ◌++◌, arith, length, take, refl, vec_len, ◌∙◌}
use Rattle.js_report.proofs.SoFar.{ReadSoFar-begun, ReadSoFar-more, ReadSoFar-end, ReadSoFar-too_long}
use Rattle.js_report.proofs.SoFar.{take-front}
use Rattle.js_report.specs.WholeFile.{longest_file}
use Rattle.js_report.proofs.reading.read_file.Goals as goal

pub pieces-init : goal.pieces-init
pieces-init g c = record {
  so_far = ReadSoFar-begun _ _ _ _ c.new-bytes.ensures.items c.in-Ok.ensures.begun;
  told = c.in-Ok.ensures.told;
  counted = c.in-Ok.ensures.counted;
  begun = c.in-Ok.ensures.named;
  room = omega (arith, c.in_ok-buffer.ensures);
}

pub pieces-preserved : goal.pieces-preserved
pieces-preserved g c =
    let filled : length c.read.new.into ≡ vec_len c.pieces.buffer =
    c.read.auto.into ∙ c.deref_mut.ensures.len in
    let buffer : c.deref.result.now ≡ c.read.new.into =
    rw c.deref.ensures.value (take-front c.read.new.into _ _ filled) in
    let piece = take c.in-Ok-read.count c.read.new.into in
    let grown : c.extend_from_slice.new.self.items ≡ c.pieces.bytes.items ++ piece =
    rw (c.in_ok-extend_from_slice-in-Ok-read.ensures.items, buffer) refl in
    record {
      so_far = ReadSoFar-more _ _ _ piece _ _ _
          grown c.pieces.invariant.so_far c.in-Ok-read.ensures.taken.0;
      told = c.in-Ok-read.ensures.told ∙ c.pieces.invariant.told;
      counted = c.in-Ok-read.ensures.counted ∙ c.pieces.invariant.counted;
      begun = c.in-Ok-read.ensures.named ∙ c.pieces.invariant.begun;
      room = c.pieces.invariant.room;
    }

pub returns-in-Ok-eq0-clause-whole : goal.returns-in-Ok-eq0-clause-whole
returns-in-Ok-eq0-clause-whole g c =
    let short : length c.pieces.bytes.items ≤ longest_file =
    omega (arith, c.pieces-test.true, c.len.ensures, c.pieces.bytes.ok) in
    let room : 0 < length c.read.new.into =
    omega (arith, c.read.auto.into, c.deref_mut.ensures.len, c.pieces.invariant.room) in
    let taken = rw c.in-Ok-eq0.field-0-test at c.in-Ok-eq0.ensures.taken.0 in
    let end = c.in-Ok-eq0.ensures.taken.1 c.in-Ok-eq0.field-0-test room in
    (short, ReadSoFar-end _ _ _ _ _ c.pieces.invariant.so_far taken end)

pub returns-clause-fault : goal.returns-clause-fault
returns-clause-fault g c =
    let long : longest_file < length c.pieces.bytes.items =
    omega (arith, c.pieces-test.false, c.len.ensures, c.pieces.bytes.ok) in
    (ReadSoFar-too_long _ _ _ _ c.pieces.invariant.so_far long, c.pieces.invariant.counted)
