-- After a fault nothing is read; else a piece was read, or nothing.
use Rattle.std.proofs.Common.{refl, ap, sym, ◌∙◌}
use Rattle.std.specs.Prelude.{option_map}
use Rattle.js_lines.specs.Answers.{is_memory}
use Rattle.js_lines.specs.Bad.{bad_view}
use Rattle.js_lines.proofs.FeedLaws.{fed-cut, fed-counted, stopped-cut}
use Rattle.js_lines.proofs.reader.LineReader.feed.Goals as goal

pub returns-in-Some-clause-cut : goal.returns-in-Some-clause-cut
returns-in-Some-clause-cut c = λ bytes ls h s.
    stopped-cut c.args.self.now c.args.self.now c.args.piece.now (bad_view c.in-Some.bad) c.requires.idle
    (ap (λ r. r.fault) (sym c.self.view_is) ∙ ap (option_map bad_view) c.in-Some.is) refl bytes ls s

pub returns-clause-cut : goal.returns-clause-cut
returns-clause-cut c =
    fed-cut c.args.self.now c.read.new.self c.args.piece.now (is_memory c.read.result) c.requires.idle
    c.read.ensures.state

pub returns-clause-counted : goal.returns-clause-counted
returns-clause-counted c =
    fed-counted c.args.self.now c.read.new.self c.args.piece.now (is_memory c.read.result) c.read.ensures.state
