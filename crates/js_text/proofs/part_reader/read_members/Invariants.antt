-- The members that were found are the first of the list.
use Rattle.std.proofs.Common.{◌≡◌, true, length, map}
use Rattle.documents.specs.Tests.{every}
use Rattle.document_texts.specs.PartsRead.{is_member}
use Rattle.document_texts.specs.PartsText.{named_text}
use Rattle.js_doc.specs.PartMembers.{member_view}
use Rattle.js_text.proofs.ListReading.{Listing}
use Rattle.js_text.proofs.part_reader.read_members.Given as goal

abbrev pub invariant-loop-left : goal.invariant-loop-left
invariant-loop-left l = record {
  listing : Listing named_text is_member 125 (map member_view l.found.items) l.text l.left;
  fine : every is_member (map member_view l.found.items) ≡ true;
}

abbrev pub decreases-loop-left : goal.decreases-loop-left
decreases-loop-left l = length l.left
