-- The next entry leads to the goals after it.
use Rattle.std.proofs.Common.{◌+◌, length, arith}
use Rattle.std.proofs.lemmas.List.{length-map}
use Rattle.js_lines.specs.View.{line_view}
use Rattle.js_checker.specs.JudgeView.{stage_of}
use Rattle.js_checker.specs.Entries.{lines_in}
use Rattle.js_checker.proofs.PassingLemmas.{pass_leads, pass_well}
use Rattle.js_checker.proofs.CheckerLemmas.{lines_reached, lines_stand, none_next}
use Rattle.js_checker.proofs.checker.Checker.pass_entry.Goals as goal

pub invariant_of-self : goal.invariant_of-self
invariant_of-self c =
    let x = c.args.self.now in
    let q = x.question in
    let p = c.args.piece.now in
    let T = q.core.now.positions in
    let long = length-map p.lines.now line_view in
    record {
      few = omega (arith, c.requires.few);
      next = none_next x.fault _ c.requires.going;
      well = λ e. pass_well T x.judge c.pass_entry.new.self p.number (lines_in p) c.requires.between
          c.pass_entry.ensures c.requires.next c.requires.entry (x.well e);
      reached = λ e. lines_reached T q.premise.0 q.conclusion.0 (lines_in p) (stage_of x.judge)
          (stage_of c.pass_entry.new.self) x.lines (x.lines + length p.lines.now) (omega (arith, long))
          (pass_leads T x.judge c.pass_entry.new.self p.number (lines_in p) c.requires.between c.pass_entry.ensures
          c.requires.next c.requires.entry q.premise.0 q.conclusion.0)
          (x.reached e);
    }

pub returns-clause-stands : goal.returns-clause-stands
returns-clause-stands c =
    let x = c.args.self.now in
    let q = x.question in
    let p = c.args.piece.now in
    let T = q.core.now.positions in
    let long = length-map p.lines.now line_view in
    λ ls. lines_stand T q.premise.0 q.conclusion.0 (lines_in p) (stage_of x.judge) (stage_of c.pass_entry.new.self)
    x.lines (x.lines + length p.lines.now) (omega (arith, long))
    (pass_leads T x.judge c.pass_entry.new.self p.number (lines_in p) c.requires.between c.pass_entry.ensures
    c.requires.next c.requires.entry q.premise.0 q.conclusion.0)
    x.fault ls c.requires.going
