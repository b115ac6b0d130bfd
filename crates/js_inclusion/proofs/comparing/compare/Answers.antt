use Rattle.std.proofs.Common.{◌≡◌, ap, sym}
use Rattle.alternatives.specs.Limit.{most_goals, most_total}
use Rattle.decisions.specs.Decision.{decision}
use Rattle.decisions.specs.Meaning.{Means}
use Rattle.certificate_lines.specs.Text.{lines_text}
use Rattle.refutations.specs.Refutation.{refutation}
use Rattle.js_guard.specs.RankedView.{entries_of}
use Rattle.js_expander.specs.Found.{finders}
use Rattle.js_decide.specs.View.{verdict_view, decided_view}
use Rattle.js_decide.specs.Certified.{HasCertificate}
use Rattle.js_decide.specs.Counted.{IsCounted}
use Rattle.js_inclusion.proofs.MeaningLaws.{means-verdict}
use Rattle.js_inclusion.proofs.TableLaws.{over-both}
use Rattle.js_inclusion.proofs.comparing.compare.Goals as goal

pub returns-clause-answer : goal.returns-clause-answer
returns-clause-answer g c =
    over-both (entries_of c.args.a.now) (entries_of c.args.b.now) c.in_ok-core.core.positions c.in_ok-core.at_a.0
    c.in_ok-core.at_b.0 c.in_ok-core.ensures.positions c.in_ok-core.ensures.first c.in_ok-core.ensures.second
    (λ T m n. decided_view c.in_ok-decided.decided ≡ decision (finders T) T m n) c.in_ok-decided.ensures.decided

pub returns-clause-certificate : goal.returns-clause-certificate
returns-clause-certificate g c =
    over-both (entries_of c.args.a.now) (entries_of c.args.b.now) c.in_ok-core.core.positions c.in_ok-core.at_a.0
    c.in_ok-core.at_b.0 c.in_ok-core.ensures.positions c.in_ok-core.ensures.first c.in_ok-core.ensures.second
    (λ T m n. HasCertificate (lines_text (refutation T m n)) c.in_ok-decided.decided.verdict)
    c.in_ok-decided.ensures.certificate

pub returns-clause-means : goal.returns-clause-means
returns-clause-means g c =
    means-verdict (entries_of c.args.a.now) (entries_of c.args.b.now) c.in_ok-core.ensures.a_table
    c.in_ok-core.ensures.b_table c.args.a.now.ranks c.args.b.now.ranks c.args.a.now.falls c.args.b.now.falls
    (verdict_view c.in_ok-decided.decided.verdict)
    (sym (over-both (entries_of c.args.a.now) (entries_of c.args.b.now) c.in_ok-core.core.positions
    c.in_ok-core.at_a.0 c.in_ok-core.at_b.0 c.in_ok-core.ensures.positions c.in_ok-core.ensures.first
    c.in_ok-core.ensures.second
    (λ T m n. verdict_view c.in_ok-decided.decided.verdict ≡ (decision (finders T) T m n).verdict)
    (ap (λ d. d.verdict) c.in_ok-decided.ensures.decided)))
    (over-both (entries_of c.args.a.now) (entries_of c.args.b.now) c.in_ok-core.core.positions c.in_ok-core.at_a.0
    c.in_ok-core.at_b.0 c.in_ok-core.ensures.positions c.in_ok-core.ensures.first c.in_ok-core.ensures.second
    (λ T m n. Means (finders T) T most_goals most_total m n (verdict_view c.in_ok-decided.decided.verdict))
    c.in_ok-decided.ensures.means)

pub returns-clause-counted : goal.returns-clause-counted
returns-clause-counted g c =
    over-both (entries_of c.args.a.now) (entries_of c.args.b.now) c.in_ok-core.core.positions c.in_ok-core.at_a.0
    c.in_ok-core.at_b.0 c.in_ok-core.ensures.positions c.in_ok-core.ensures.first c.in_ok-core.ensures.second
    (λ T m n. IsCounted T m n (verdict_view c.in_ok-decided.decided.verdict)) c.in_ok-decided.ensures.counted
