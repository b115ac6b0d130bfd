-- What is left is read on to what all of it is read to.
use Rattle.std.proofs.Common.{◌≡◌, ◌≤◌, length, []}
use Rattle.document_text_laws.specs.Reader.{read_on, plain}
use Rattle.js_text.specs.Reads.{mode_of}
use Rattle.js_text.proofs.scanner.unquoted.Given as goal

abbrev pub invariant-loop-left : goal.invariant-loop-left
invariant-loop-left l = record {
  same : read_on (mode_of l.place) l.out.items l.left ≡ read_on plain [] l.text;
  shorter : length l.left ≤ length l.text;
}

abbrev pub decreases-loop-left : goal.decreases-loop-left
decreases-loop-left l = length l.left
