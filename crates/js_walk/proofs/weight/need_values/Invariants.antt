use Rattle.std.proofs.Common.{◌≡◌, ◌+◌, ◌<◌, ◌^◌, map, drop}
use Rattle.documents.specs.Json.{members_of}
use Rattle.js_doc.specs.JsonView.{member_view}
use Rattle.schemas.specs.Weight as W
use Rattle.js_walk.specs.Holding.{capped}
use Rattle.js_walk.proofs.weight.need_values.Given as goal

abbrev pub invariant-loop-member : goal.invariant-loop-member
invariant-loop-member l =
    record {
      counted : capped (l.total + W.need_values (members_of (map member_view (drop l.member-index l.member-items))))
          ≡ capped (W.need_values (members_of (map member_view l.member-items)));
      fits : l.total < 2 ^ 64;
    }
