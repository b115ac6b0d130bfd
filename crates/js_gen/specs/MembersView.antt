-- The members that are seen: their names and values, in order.
use Rattle.std.specs.Prelude.{ℕ, List, map}
use Rattle.documents.specs.Json as D
use Rattle.js_doc.specs.JsonView.{member_view}
use Rattle.js_gen.specs.declared.members.Members.{Members}

abbrev pub entries_of : Members → List (List ℕ × D.Json)
entries_of m = map member_view m.items.items
