use Rattle.std.proofs.Common.{◌≡◌, ◌++◌, true, map, drop}
use Rattle.documents.specs.Json.{members_of}
use Rattle.js_doc.specs.JsonView.{member_view, map_view}
use Rattle.js_reader.specs.Faultless.{names_are_patterns}
use Rattle.js_reader.specs.Links.{names_at}
use Rattle.js_reader.specs.KeywordPlaceView.{places_about, at}
use Rattle.js_schema.specs.View.{pattern_property_view}
use Rattle.js_reader.proofs.links.pattern_property_list.Given as goal

abbrev pub invariant-loop-member : goal.invariant-loop-member
invariant-loop-member l = record {
  made : map pattern_property_view l.made.items ++ names_at (places_about l.place) (at l.place)
      (members_of (map member_view (drop l.member-index l.member-items)))
      ≡ names_at (places_about l.place) (at l.place) (map_view l.fn.members);
  patterns : names_are_patterns (members_of (map member_view (drop l.member-index l.member-items))) ≡ true;
}
