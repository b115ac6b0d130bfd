-- The judge stands for what was read.
use Rattle.std.proofs.Common.{◌≡◌, ◌-◌, ◌<◌, ◌≤◌, ◌^◌, ℕ, List, None, vec_len}
use Rattle.js_certificate.specs.JudgeView.{table_of, premise_of, conclusion_of, bytes_of, waiting_of, fault_of}
use Rattle.js_certificate.specs.ReadBehind.{most_waiting, longest_piece}
use Rattle.js_certificate.specs.FileRead.{StandsForFile}
use Rattle.js_certificate.proofs.file.judge_pieces.Given as goal

abbrev pub invariant-pieces : goal.invariant-pieces
invariant-pieces g l = record {
  so_far : (name : List ℕ) → StandsForFile l.fn.judge (g.H.Shelf.told l.fn.shelf) name (g.H.Shelf.left l.fn.shelf)
      → StandsForFile l.judge (g.H.Shelf.told l.fn.shelf) name (g.H.Shelf.left l.shelf);
  told : g.H.Shelf.told l.shelf ≡ g.H.Shelf.told l.fn.shelf;
  counted : g.H.Shelf.faults l.shelf ≡ g.H.Shelf.faults l.fn.shelf;
  begun : g.H.Shelf.begun l.shelf ≡ g.H.Shelf.begun l.fn.shelf;
  room : 0 < vec_len l.buffer;
  short : vec_len l.buffer ≤ longest_piece;
  few : bytes_of l.judge < 2 ^ 63;
  going : fault_of l.judge ≡ None;
  waits : waiting_of l.judge ≤ most_waiting l.fn.workers.count;
  table : table_of l.judge ≡ table_of l.fn.judge;
  premise : premise_of l.judge ≡ premise_of l.fn.judge;
  conclusion : conclusion_of l.judge ≡ conclusion_of l.fn.judge;
}

abbrev pub decreases-pieces : goal.decreases-pieces
decreases-pieces g l = 9223372036854775808 - bytes_of l.judge
