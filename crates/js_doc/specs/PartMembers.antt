-- What lists of numbers of parts stand for.
use Rattle.std.specs.Prelude.{ℕ, List}
use Rattle.js_doc.specs.declared.parts.PartId.{PartId}
use Rattle.js_doc.specs.declared.parts.PartMember.{PartMember}

abbrev pub number_of : PartId → ℕ
number_of id = id.0

-- the name, with the number of the part that is its value
abbrev pub member_view : PartMember → List ℕ × ℕ
member_view m = (m.name, m.part.0)
