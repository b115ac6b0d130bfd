-- A line more; after one that breaks a rule whatever comes is taken.
use Rattle.std.proofs.Common.{[], ◌∷◌, ◌++◌, ◌+◌, map, take, drop, refl, ◌∙◌, append_assoc, arith}
use Rattle.js_lines.specs.View.{line_view}
use Rattle.js_checker.proofs.EntryLemmas.{lines_to, lines_around}
use Rattle.js_checker.proofs.TakingLemmas.{took_none, took_on, took_stopped, same_question}
use Rattle.js_checker.proofs.checker.Checker.take_each.Goals as goal

pub loop-line-init : goal.loop-line-init
loop-line-init c = record {
  stands = took_none c.args.self.now;
  going = c.requires.going;
  lines = omega arith;
  question = record { table = refl; premise = refl; conclusion = refl };
}

pub loop-line-preserved : goal.loop-line-preserved
loop-line-preserved c =
    let xs = c.args.lines.now in
    let i = c.loop-line.line-index in
    let x = c.line-item.result in
    record {
      stands = took_on c.args.self.now c.loop-line.self c.take.new.self (map line_view (take i xs))
          (line_view x ∷ []) (map line_view (take (i + 1) xs)) c.loop-line.invariant.stands
          c.in_ok-take.ensures.stands (lines_to xs i x c.loop-line-test.true c.line-item.is);
      going = c.in_ok-take.ensures.going;
      lines = omega (arith, c.in_ok-take.ensures.lines, c.loop-line.invariant.lines);
      question = same_question c.args.self.now c.loop-line.self c.take.new.self c.loop-line.invariant.question
          (record {
            table = c.in_ok-take.ensures.table;
            premise = c.in_ok-take.ensures.premise;
            conclusion = c.in_ok-take.ensures.conclusion;
          });
    }

pub returns-in_err-take-clause-stands : goal.returns-in_err-take-clause-stands
returns-in_err-take-clause-stands c =
    let xs = c.args.lines.now in
    let i = c.loop-line.line-index in
    let x = c.line-item.result in
    let front = map line_view (take i xs) in
    let behind = map line_view (drop (i + 1) xs) in
    took_stopped c.args.self.now c.take.new.self c.in_err-take.field-0.0 (front ++ line_view x ∷ []) behind
    (map line_view xs) c.in_err-take.ensures.stopped
    (took_on c.args.self.now c.loop-line.self c.take.new.self front (line_view x ∷ []) (front ++ line_view x ∷ [])
    c.loop-line.invariant.stands c.in_err-take.ensures.stands refl)
    (append_assoc front (line_view x ∷ []) behind ∙ lines_around xs i x c.loop-line-test.true c.line-item.is)
