-- The first line enters another goal, or none.
use Rattle.std.proofs.Common.{◌∷◌, map, ap, sym}
use Rattle.js_lines.specs.View.{line_view}
use Rattle.js_checker.proofs.EntryLemmas.{not_entered}
use Rattle.js_checker.proofs.entries.is_entry.Goals as goal

pub returns-then-not-enters : goal.returns-then-not-enters
returns-then-not-enters c =
    not_entered c.args.core.now.positions c.args.goals.now c.args.number (line_view c.in-Some.first.now)
    (map line_view c.in-Some.rest.now) (map line_view c.args.lines.now) c.if-not-enters.ensures
    (ap (map line_view) (sym c.in-Some.ensures.cases.0))
