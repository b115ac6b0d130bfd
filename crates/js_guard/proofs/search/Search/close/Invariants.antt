-- The open entries so far are done.
use Rattle.std.proofs.Common.{◌≡◌, ◌≤◌}
use Rattle.js_guard.specs.Steps.{IsClosed}
use Rattle.js_guard.proofs.search.Search.close.Given as goal

abbrev pub invariant-loop-i : goal.invariant-loop-i
invariant-loop-i l =
    record {
      opened : l.self.opened ≡ l.fn.self.opened;
      groups : l.self.groups ≡ l.fn.self.groups;
      path : l.self.path ≡ l.fn.self.path;
      after : l.place ≤ l.i;
      closes : IsClosed l.fn.self.marks.items l.fn.self.opened.items l.fn.self.done l.fn.self.least l.self.marks.items
          l.self.done l.self.least l.place l.i;
    }
