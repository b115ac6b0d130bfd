use Rattle.std.proofs.Common.{◌≡◌, ◌+◌, ◌<◌, ◌^◌, map, drop}
use Rattle.documents.specs.Json.{members_of}
use Rattle.js_doc.specs.JsonView.{member_view}
use Rattle.js_walk.specs.Holding.{members_values, capped}
use Rattle.js_walk.proofs.weight.members_values.Given as goal

abbrev pub invariant-loop-member : goal.invariant-loop-member
invariant-loop-member l =
    record {
      counted : capped (l.total
          + members_values l.listed (members_of (map member_view (drop l.member-index l.member-items))))
          ≡ capped (members_values l.fn.listed (members_of (map member_view l.member-items)));
      fits : l.total < 2 ^ 64;
    }
