use Rattle.std.proofs.Common.{◌≡◌, ◌++◌, map, drop}
use Rattle.documents.specs.Json.{members_of}
use Rattle.js_doc.specs.JsonView.{member_view, map_view}
use Rattle.js_reader.specs.Links.{needs_at}
use Rattle.js_reader.specs.KeywordPlaceView.{places_about, at}
use Rattle.js_schema.specs.View.{dependency_view}
use Rattle.js_reader.proofs.links.dependency_list.Given as goal

abbrev pub invariant-loop-member : goal.invariant-loop-member
invariant-loop-member l =
    map dependency_view l.made.items ++ needs_at (places_about l.place) (at l.place)
    (members_of (map member_view (drop l.member-index l.member-items)))
    ≡ needs_at (places_about l.place) (at l.place) (map_view l.fn.members)
