-- The line that waited in the reader is taken.
use Rattle.std.proofs.Common.{List, ◌++◌, subst}
use Rattle.std.specs.Prelude.{option_to_list}
use Rattle.std.proofs.lemmas.Result.{on_ok_weaker}
use Rattle.certificate_lines.specs.Line.{Line}
use Rattle.js_certificate.specs.BatchView.{StandsFor}
use Rattle.js_certificate.proofs.lines.LineJudge.judge_line.Goals as goal

pub returns-in-Some-clause-stands : goal.returns-in-Some-clause-stands
returns-in-Some-clause-stands g c =
    on_ok_weaker c.take.result
    (λ on. subst (λ o. (ls : List Line) → StandsFor c.args.self.now.batch ls
    → StandsFor c.take.new.self (ls ++ option_to_list o)) c.in-Some.ensures.line on) c.take.ensures.stands
