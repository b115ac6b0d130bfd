use Rattle.std.proofs.Common.{◌≡◌, List, map, drop}
use Rattle.documents.specs.Tests.{every}
use Rattle.schemas.specs.Entry.{Entry}
use Rattle.shared_documents.specs.Part.{Part}
use Rattle.js_doc.specs.PartMembers.{member_view}
use Rattle.js_schema.specs.View.{form_view}
use Rattle.js_valid.specs.PartTables.{KnowsTables}
use Rattle.js_valid.proofs.PartMemberLaws.{value_met}
use Rattle.js_valid.proofs.part_members.are_members_met.Given as goal

abbrev pub invariant-loop-member : goal.invariant-loop-member
invariant-loop-member l = (es : List Entry) (ps : List Part) → KnowsTables es ps l.tables
    → every (value_met es ps (form_view l.form)) (map member_view (drop l.member-index l.members))
    ≡ every (value_met es ps (form_view l.form)) (map member_view l.members)
