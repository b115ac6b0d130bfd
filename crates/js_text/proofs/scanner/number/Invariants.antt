-- The digits that are left say the number that all of them say.
use Rattle.std.proofs.Common.{◌≡◌, ◌<◌, ◌≤◌, length}
use Rattle.document_text_laws.specs.Reader.{number_on}
use Rattle.js_text.proofs.scanner.number.Given as goal

abbrev pub invariant-loop-left : goal.invariant-loop-left
invariant-loop-left l = record {
  small : l.value < 4294967296;
  same : number_on l.value l.left ≡ number_on 0 l.text;
  shorter : length l.left ≤ length l.text;
}

abbrev pub decreases-loop-left : goal.decreases-loop-left
decreases-loop-left l = length l.left
