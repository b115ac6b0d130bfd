-- Lines before the entries, the entries, and the lines after them, or a part of these up to the first fault.
use Rattle.std.proofs.Common.{◌++◌, map, refl}
use Rattle.js_lines.specs.View.{line_view}
use Rattle.js_checker.proofs.Results.{passed}
use Rattle.js_checker.proofs.CheckerLemmas.{told_next, stopped_next}
use Rattle.js_checker.proofs.TakingLemmas.{took_on, took_stopped, took_told, all_told, both_parts, three_parts, same_question}
use Rattle.js_checker.proofs.checker.Checker.take_all.Goals as goal

pub returns-then-workers-eq1-clause-broken : goal.returns-then-workers-eq1-clause-broken
returns-then-workers-eq1-clause-broken g c =
    all_told c.args.self.now c.take_each.new.self (map line_view c.args.lines.now) c.take_each.result
    c.take_each.ensures.stopped c.take_each.ensures.question c.take_each.ensures.stands

pub returns-in_err-take_each-clause-stands : goal.returns-in_err-take_each-clause-stands
returns-in_err-take_each-clause-stands g c =
    let head = c.split_at.result.0.now in
    let rest = c.split_at.result.1.now in
    took_stopped c.args.self.now c.take_each-2.new.self c.in_err-take_each.field-0.0 (map line_view head)
    (map line_view rest) (map line_view c.args.lines.now) c.in_err-take_each.ensures.stopped
    c.in_err-take_each.ensures.stands (both_parts c.args.lines.now head rest c.split_at.ensures.by_index.0)

pub returns-in_err-take_each-clause-broken : goal.returns-in_err-take_each-clause-broken
returns-in_err-take_each-clause-broken g c =
    let head = c.split_at.result.0.now in
    let rest = c.split_at.result.1.now in
    let fault = c.in_err-take_each.field-0.0 in
    passed _ c.from_residual.result fault c.from_residual.ensures.1
    (took_told c.args.self.now c.take_each-2.new.self fault (map line_view c.args.lines.now)
    c.in_err-take_each.ensures.stopped c.in_err-take_each.ensures.question
    (took_stopped c.args.self.now c.take_each-2.new.self fault (map line_view head) (map line_view rest)
    (map line_view c.args.lines.now) c.in_err-take_each.ensures.stopped c.in_err-take_each.ensures.stands
    (both_parts c.args.lines.now head rest c.split_at.ensures.by_index.0)))

pub returns-in_err-take_entries-clause-stands : goal.returns-in_err-take_entries-clause-stands
returns-in_err-take_entries-clause-stands g c =
    let head = c.split_at.result.0.now in
    let rest = c.split_at.result.1.now in
    let entries = c.split_at-2.result.0.now in
    let tail = c.split_at-2.result.1.now in
    let front = map line_view head ++ map line_view entries in
    took_stopped c.args.self.now c.take_entries.new.self c.in_err-take_entries.field-0.0 front (map line_view tail)
    (map line_view c.args.lines.now) c.in_err-take_entries.ensures.stopped
    (took_on c.args.self.now c.take_each-2.new.self c.take_entries.new.self (map line_view head)
    (map line_view entries) front c.in_ok-take_each.ensures.stands c.in_err-take_entries.ensures.stands refl)
    (three_parts c.args.lines.now head rest entries tail c.split_at.ensures.by_index.0
    c.split_at-2.ensures.by_index.0)

pub returns-in_err-take_entries-clause-broken : goal.returns-in_err-take_entries-clause-broken
returns-in_err-take_entries-clause-broken g c =
    let head = c.split_at.result.0.now in
    let rest = c.split_at.result.1.now in
    let entries = c.split_at-2.result.0.now in
    let tail = c.split_at-2.result.1.now in
    let front = map line_view head ++ map line_view entries in
    let fault = c.in_err-take_entries.field-0.0 in
    passed _ c.from_residual-in_err-take_entries.result fault c.from_residual-in_err-take_entries.ensures.1
    (took_told c.args.self.now c.take_entries.new.self fault (map line_view c.args.lines.now)
    c.in_err-take_entries.ensures.stopped
    (same_question c.args.self.now c.take_each-2.new.self c.take_entries.new.self c.in_ok-take_each.ensures.question
    c.in_err-take_entries.ensures.question)
    (took_stopped c.args.self.now c.take_entries.new.self fault front (map line_view tail)
    (map line_view c.args.lines.now) c.in_err-take_entries.ensures.stopped
    (took_on c.args.self.now c.take_each-2.new.self c.take_entries.new.self (map line_view head)
    (map line_view entries) front c.in_ok-take_each.ensures.stands c.in_err-take_entries.ensures.stands refl)
    (three_parts c.args.lines.now head rest entries tail c.split_at.ensures.by_index.0
    c.split_at-2.ensures.by_index.0)))

pub returns-clause-stands : goal.returns-clause-stands
returns-clause-stands g c =
    let head = c.split_at.result.0.now in
    let rest = c.split_at.result.1.now in
    let entries = c.split_at-2.result.0.now in
    let tail = c.split_at-2.result.1.now in
    let front = map line_view head ++ map line_view entries in
    took_on c.args.self.now c.take_entries.new.self c.take_each-3.new.self front (map line_view tail)
    (map line_view c.args.lines.now)
    (took_on c.args.self.now c.take_each-2.new.self c.take_entries.new.self (map line_view head)
    (map line_view entries) front c.in_ok-take_each.ensures.stands c.in_ok-take_entries.ensures.stands refl)
    c.take_each-3.ensures.stands
    (three_parts c.args.lines.now head rest entries tail c.split_at.ensures.by_index.0
    c.split_at-2.ensures.by_index.0)

pub returns-clause-broken : goal.returns-clause-broken
returns-clause-broken g c =
    let head = c.split_at.result.0.now in
    let rest = c.split_at.result.1.now in
    let entries = c.split_at-2.result.0.now in
    let tail = c.split_at-2.result.1.now in
    let front = map line_view head ++ map line_view entries in
    all_told c.args.self.now c.take_each-3.new.self (map line_view c.args.lines.now) c.take_each-3.result
    c.take_each-3.ensures.stopped
    (same_question c.args.self.now c.take_entries.new.self c.take_each-3.new.self
    (same_question c.args.self.now c.take_each-2.new.self c.take_entries.new.self c.in_ok-take_each.ensures.question
    c.in_ok-take_entries.ensures.question) c.take_each-3.ensures.question)
    (took_on c.args.self.now c.take_entries.new.self c.take_each-3.new.self front (map line_view tail)
    (map line_view c.args.lines.now)
    (took_on c.args.self.now c.take_each-2.new.self c.take_entries.new.self (map line_view head)
    (map line_view entries) front c.in_ok-take_each.ensures.stands c.in_ok-take_entries.ensures.stands refl)
    c.take_each-3.ensures.stands
    (three_parts c.args.lines.now head rest entries tail c.split_at.ensures.by_index.0
    c.split_at-2.ensures.by_index.0))

-- the line that is rejected is the next one

pub returns-in-Some-clause-next : goal.returns-in-Some-clause-next
returns-in-Some-clause-next g c = told_next c.args.self.now c.in-Some.fault c.in-Some.is

pub returns-then-workers-eq1-clause-next : goal.returns-then-workers-eq1-clause-next
returns-then-workers-eq1-clause-next g c =
    stopped_next c.take_each.new.self c.take_each.result c.take_each.ensures.stopped

pub returns-in_err-take_each-clause-next : goal.returns-in_err-take_each-clause-next
returns-in_err-take_each-clause-next g c =
    passed _ c.from_residual.result c.in_err-take_each.field-0.0 c.from_residual.ensures.1
    (told_next c.take_each-2.new.self c.in_err-take_each.field-0.0 c.in_err-take_each.ensures.stopped)

pub returns-in_err-take_entries-clause-next : goal.returns-in_err-take_entries-clause-next
returns-in_err-take_entries-clause-next g c =
    passed _ c.from_residual-in_err-take_entries.result c.in_err-take_entries.field-0.0
    c.from_residual-in_err-take_entries.ensures.1
    (told_next c.take_entries.new.self c.in_err-take_entries.field-0.0 c.in_err-take_entries.ensures.stopped)

pub returns-clause-next : goal.returns-clause-next
returns-clause-next g c =
    stopped_next c.take_each-3.new.self c.take_each-3.result c.take_each-3.ensures.stopped
