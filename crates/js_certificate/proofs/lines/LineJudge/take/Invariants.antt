-- So many bytes of the piece were read, and what they are was judged.
use Rattle.std.proofs.Common.{◌≡◌, ◌+◌, ◌-◌, ◌≤◌, ℕ, List, ◌++◌, length, take}
use Rattle.js_certificate.specs.LinesView.{table_of, premise_of, conclusion_of, AreJudged, IsWell}
use Rattle.js_certificate.specs.BatchView.{FewWait}
use Rattle.js_certificate.proofs.lines.LineJudge.take.Given as goal

abbrev pub invariant-loop-read : goal.invariant-loop-read
invariant-loop-read g l = record {
  within : l.read ≤ length l.piece;
  well : IsWell l.self;
  waits : FewWait l.fn.workers.count l.fn.self.batch → FewWait l.fn.workers.count l.self.batch;
  stands : (bytes : List ℕ) → AreJudged l.fn.self bytes → AreJudged l.self (bytes ++ take l.read l.piece);
  counted : l.self.bytes ≡ l.fn.self.bytes + l.read;
  table : table_of l.self ≡ table_of l.fn.self;
  premise : premise_of l.self ≡ premise_of l.fn.self;
  conclusion : conclusion_of l.self ≡ conclusion_of l.fn.self;
}

abbrev pub decreases-loop-read : goal.decreases-loop-read
decreases-loop-read g l = length l.piece - l.read
