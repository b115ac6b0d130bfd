use Rattle.std.proofs.Common.{IfErr, encode_utf8_all, subst}
use Rattle.decisions.specs.Meaning.{IsIncluded}
use Rattle.verdicts.specs.Verdict.{verdict_of_bytes}
use Rattle.js_guard.specs.RankedView.{entries_of}
use Rattle.js_certificate.specs.Unrejected.{FailsUnrejected}
use Rattle.js_inclusion.proofs.MeaningLaws.{are-included}
use Rattle.js_inclusion.proofs.TableLaws.{over-both}
use Rattle.js_inclusion.proofs.judge.judge_file.Goals as goal

pub returns-in-Ok-clause-included : goal.returns-in-Ok-clause-included
returns-in-Ok-clause-included g c accepted =
    are-included (entries_of c.args.a.now) (entries_of c.args.b.now) c.in-Ok.ensures.a_table c.in-Ok.ensures.b_table
    c.args.a.now.ranks c.args.b.now.ranks c.args.a.now.falls c.args.b.now.falls
    (over-both (entries_of c.args.a.now) (entries_of c.args.b.now) c.in-Ok.core.positions c.in-Ok.at_a.0
    c.in-Ok.at_b.0 c.in-Ok.ensures.positions c.in-Ok.ensures.first c.in-Ok.ensures.second IsIncluded
    (c.judge_file.ensures.sound accepted))

pub returns-in-Ok-clause-unrejected : goal.returns-in-Ok-clause-unrejected
returns-in-Ok-clause-unrejected g c =
    let told = g.H.Shelf.told c.args.shelf.now in
    let is_begun = g.H.Shelf.is_begun c.judge_file.new.shelf in
    let left = g.H.Shelf.left c.judge_file.new.shelf in
    over-both (entries_of c.args.a.now) (entries_of c.args.b.now) c.in-Ok.core.positions c.in-Ok.at_a.0 c.in-Ok.at_b.0
    c.in-Ok.ensures.positions c.in-Ok.ensures.first c.in-Ok.ensures.second (λ T m n. IfErr c.judge_file.result
    (FailsUnrejected (verdict_of_bytes T m n) told (encode_utf8_all c.args.name.now) is_begun left))
    (subst (λ name. IfErr c.judge_file.result (FailsUnrejected (verdict_of_bytes c.in-Ok.core.positions c.in-Ok.at_a.0
    c.in-Ok.at_b.0) told name is_begun left)) c.as_text.ensures.bytes c.judge_file.ensures.unrejected)
