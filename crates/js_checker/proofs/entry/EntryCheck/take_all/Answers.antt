-- A line more leaves what is left then; one that breaks a rule breaks it whatever comes.
use Rattle.std.proofs.Common.{◌+◌, map, take, drop, refl, ap, sym, arith}
use Rattle.std.proofs.lemmas.List.{take_all}
use Rattle.js_rules.specs.RuleView.{rule_view}
use Rattle.js_lines.specs.View.{line_view}
use Rattle.js_checker.specs.EntryView.{goal_duties}
use Rattle.js_checker.proofs.EntryLemmas.{lines_to, lines_around, led_on, broken_off, faults_rule, all_done}
use Rattle.js_checker.proofs.entry.EntryCheck.take_all.Goals as goal

pub loop-line-init : goal.loop-line-init
loop-line-init c = record { led = refl; over = c.requires.over; steady = c.requires.steady }

pub loop-line-preserved : goal.loop-line-preserved
loop-line-preserved c =
    let xs = c.args.lines.now in
    let i = c.loop-line.line-index in
    let x = c.line-item.result in
    let g = c.args.goal.now in
    record {
      led = led_on c.args.core.now.positions c.args.goals.now (goal_duties g c.args.self.now)
          (goal_duties g c.loop-line.self) (goal_duties g c.take.new.self) (map line_view (take i xs))
          (map line_view (take (i + 1) xs)) (line_view x) (lines_to xs i x c.loop-line-test.true c.line-item.is)
          c.loop-line.invariant.led c.in-Ok.ensures.taken;
      over = c.in-Ok.ensures.over;
      steady = c.in-Ok.ensures.steady;
    }

pub returns-in-Err-Breaks : goal.returns-in-Err-Breaks
returns-in-Err-Breaks c =
    let xs = c.args.lines.now in
    let i = c.loop-line.line-index in
    let x = c.line-item.result in
    let g = c.args.goal.now in
    sym (broken_off c.args.core.now.positions c.args.goals.now (goal_duties g c.args.self.now)
    (goal_duties g c.loop-line.self) (map line_view (take i xs)) (map line_view (drop (i + 1) xs))
    (map line_view xs) (line_view x) (rule_view c.in-Err-Breaks.field-0-0)
    (lines_around xs i x c.loop-line-test.true c.line-item.is) c.loop-line.invariant.led
    (faults_rule c.args.core.now.positions c.args.goals.now (goal_duties g c.loop-line.self) (line_view x)
    c.in-Err-Breaks.field-0 c.in-Err-Breaks.field-0-0 c.in-Err-Breaks.field-0-is c.in-Err-Breaks.ensures.broken))

pub returns : goal.returns
returns c =
    let xs = c.args.lines.now in
    let g = c.args.goal.now in
    all_done c.args.core.now.positions c.args.goals.now (goal_duties g c.args.self.now) g c.loop-line.self
    (map line_view (take c.loop-line.line-index xs)) (map line_view xs) c.is_done.result
    (ap (map line_view) (take_all c.loop-line.line-index xs (omega (arith, c.loop-line-test.false))))
    c.loop-line.invariant.led c.is_done.ensures
