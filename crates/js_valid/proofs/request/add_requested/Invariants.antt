use Rattle.std.proofs.Common.{◌≡◌, ◌++◌, drop}
use Rattle.js_valid.specs.Requests.{entries_in}
use Rattle.js_valid.proofs.request.add_requested.Given as goal

abbrev pub invariant-loop-request : goal.invariant-loop-request
invariant-loop-request l =
    l.entries.items ++ entries_in (drop l.request-index l.requests) ≡ l.fn.entries.items ++ entries_in l.requests
