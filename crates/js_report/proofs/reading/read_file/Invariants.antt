use Rattle.std.proofs.Common.{◌≡◌, ◌-◌, ◌<◌, [], ◌∷◌, ◌++◌, vec_len}
use Rattle.js_report.proofs.SoFar.{ReadSoFar}
use Rattle.js_report.proofs.reading.read_file.Given as goal

abbrev pub invariant-pieces : goal.invariant-pieces
invariant-pieces g l = record {
  so_far : ReadSoFar (g.H.Shelf.told l.fn.shelf) l.name l.bytes.items (g.H.Shelf.left l.shelf);
  told : g.H.Shelf.told l.shelf ≡ g.H.Shelf.told l.fn.shelf;
  counted : g.H.Shelf.faults l.shelf ≡ g.H.Shelf.faults l.fn.shelf;
  begun : g.H.Shelf.begun l.shelf ≡ g.H.Shelf.begun l.fn.shelf ++ l.name ∷ [];
  room : 0 < vec_len l.buffer;
}

abbrev pub decreases-pieces : goal.decreases-pieces
decreases-pieces g l = 16777217 - vec_len l.bytes
