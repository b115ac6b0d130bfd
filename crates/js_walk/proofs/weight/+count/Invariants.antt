use Rattle.std.proofs.Common.{◌≡◌, ◌+◌, ◌<◌, ◌^◌, map, drop}
use Rattle.documents.specs.Json.{items_count, members_count, items_of, members_of}
use Rattle.js_doc.specs.JsonView.{view, member_view}
use Rattle.js_walk.specs.Holding.{capped}
use Rattle.js_walk.proofs.weight.+count.Given as goal

abbrev pub invariant-count_items-loop-item : goal.invariant-count_items-loop-item
invariant-count_items-loop-item l =
    record {
      counted : capped (l.total + items_count (items_of (map view (drop l.item-index l.item-items))))
          ≡ capped (items_count (items_of (map view l.item-items)));
      fits : l.total < 2 ^ 64;
    }

abbrev pub invariant-count_members-loop-member : goal.invariant-count_members-loop-member
invariant-count_members-loop-member l =
    record {
      counted : capped (l.total + members_count (members_of (map member_view (drop l.member-index l.member-items))))
          ≡ capped (members_count (members_of (map member_view l.member-items)));
      fits : l.total < 2 ^ 64;
    }
