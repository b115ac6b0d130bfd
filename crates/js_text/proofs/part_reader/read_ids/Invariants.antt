-- The numbers that were found are the first of the list.
use Rattle.std.proofs.Common.{◌≡◌, true, length, map}
use Rattle.documents.specs.Tests.{every}
use Rattle.document_texts.specs.PartsRead.{is_named}
use Rattle.document_texts.specs.PartsText.{reference_text}
use Rattle.js_doc.specs.PartMembers.{number_of}
use Rattle.js_text.proofs.ListReading.{Listing}
use Rattle.js_text.proofs.part_reader.read_ids.Given as goal

abbrev pub invariant-loop-left : goal.invariant-loop-left
invariant-loop-left l = record {
  listing : Listing reference_text is_named 93 (map number_of l.found.items) l.text l.left;
  fine : every is_named (map number_of l.found.items) ≡ true;
}

abbrev pub decreases-loop-left : goal.decreases-loop-left
decreases-loop-left l = length l.left
