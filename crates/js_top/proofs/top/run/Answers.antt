use Rattle.std.proofs.Common.{◌≡◌, true, false, sym, ◌∙◌, subst}
use Rattle.js_top.specs.declared.status.Status.TheVariants.{Other, Done, Limit, Refused}
use Rattle.js_top.proofs.FileLaws.{prepared-document, prepared-inclusion, prepared-satisfied, prepared-unsatisfied, prepared-limit, prepared-report, prepared-part, prepared-correct, prepared-limited, means-refusal}
use Rattle.js_top.proofs.JudgingLaws.{means-judgement, prepared-decision, means-judged_refusal}
use Rattle.js_top.proofs.CheckingLaws.{means-acceptance, means-rejection, means-check_refusal}
use Rattle.js_top.proofs.Includes.{no_read_fault, refused-noticed, prepared-noticed, noticed-alone, written-read}
use Rattle.js_top.proofs.UnrejectedLaws.{fault-unrejected, written-unrejected}
use Rattle.js_top.proofs.GeneratingLaws.{gen-fileless, means-summary}
use Rattle.js_top.proofs.ListingLaws.{means-table, prepared-listing, means-norm_refusal}
use Rattle.js_top.proofs.MissingLaws.{prepared-missing, prepared-only_missing}
use Rattle.js_words.specs.Commands.{command}
use Rattle.js_top.specs.Judging.{WritesDecision}
use Rattle.js_top.specs.Correct.{IsCorrect}
use Rattle.js_top.specs.Listing.{WritesListing}
use Rattle.js_report.specs.Written.{AppendsPrefix}
use Rattle.js_top.specs.Meaning.{WhereTold, PassLimit}
use Rattle.js_top.specs.Preparing.{report_of}
use Rattle.js_top.proofs.top.run.Goals as goal

pub returns-in-Ok-write_report-clause-report : goal.returns-in-Ok-write_report-clause-report
returns-in-Ok-write_report-clause-report g c = λ r w m. (
  c.text.result.now,
  c.in-Ok-write_report.ensures.whole,
  prepared-report (g.H.Shelf.told c.args.shelf.now) c.args.words.now _ _ c.in-Ok.prepared c.text.result.now _
      c.in-Ok.ensures.says c.text.ensures (sym c.status.ensures) r,
)

pub returns-in-Ok-write_report-clause-document : goal.returns-in-Ok-write_report-clause-document
returns-in-Ok-write_report-clause-document g c = λ e i. (
  c.text.result.now,
  c.in-Ok-write_report.ensures.whole,
  prepared-document (g.H.Shelf.told c.args.shelf.now) c.args.words.now _ _ c.in-Ok.prepared c.text.result.now
      c.in-Ok.ensures.says c.text.ensures (sym c.status.ensures ∙ e) i,
)

pub returns-in-Ok-write_report-clause-inclusion : goal.returns-in-Ok-write_report-clause-inclusion
returns-in-Ok-write_report-clause-inclusion g c = λ e i. (
  c.text.result.now,
  c.in-Ok-write_report.ensures.whole,
  prepared-inclusion (g.H.Shelf.told c.args.shelf.now) c.args.words.now _ _ c.in-Ok.prepared c.text.result.now
      c.in-Ok.ensures.says c.text.ensures (sym c.status.ensures ∙ e) i,
)

pub returns-in-Ok-write_report-clause-satisfied : goal.returns-in-Ok-write_report-clause-satisfied
returns-in-Ok-write_report-clause-satisfied g c = λ e i. (
  c.text.result.now,
  c.in-Ok-write_report.ensures.whole,
  prepared-satisfied (g.H.Shelf.told c.args.shelf.now) c.args.words.now _ _ c.in-Ok.prepared c.text.result.now
      c.in-Ok.ensures.says c.text.ensures (sym c.status.ensures ∙ e) i,
)

pub returns-in-Ok-write_report-clause-unsatisfied : goal.returns-in-Ok-write_report-clause-unsatisfied
returns-in-Ok-write_report-clause-unsatisfied g c = λ e i. (
  c.text.result.now,
  c.in-Ok-write_report.ensures.whole,
  prepared-unsatisfied (g.H.Shelf.told c.args.shelf.now) c.args.words.now _ _ c.in-Ok.prepared c.text.result.now
      c.in-Ok.ensures.says c.text.ensures (sym c.status.ensures ∙ e) i,
)

pub returns-in-Ok-write_report-clause-limit : goal.returns-in-Ok-write_report-clause-limit
returns-in-Ok-write_report-clause-limit g c = λ e i. (
  c.text.result.now,
  c.in-Ok-write_report.ensures.whole,
  prepared-limit (g.H.Shelf.told c.args.shelf.now) c.args.words.now _ _ c.in-Ok.prepared c.text.result.now
      c.in-Ok.ensures.says c.text.ensures (sym c.status.ensures ∙ e) i,
)

pub returns-in-Ok-write_report-clause-refusal : goal.returns-in-Ok-write_report-clause-refusal
returns-in-Ok-write_report-clause-refusal g c = λ e i. (
  c.text.result.now,
  c.in-Ok-write_report.ensures.whole,
  means-refusal (g.H.Shelf.told c.args.shelf.now) c.args.words.now c.text.result.now
      (prepared-report (g.H.Shelf.told c.args.shelf.now) c.args.words.now _ _ c.in-Ok.prepared c.text.result.now Refused
      c.in-Ok.ensures.says c.text.ensures (sym c.status.ensures ∙ e) (λ w. cc)) i,
)

pub returns-in-Ok-write_report-clause-limited : goal.returns-in-Ok-write_report-clause-limited
returns-in-Ok-write_report-clause-limited g c = λ r w m.
    subst (λ s. WhereTold (g.H.Shelf.told c.args.shelf.now) c.args.words.now (λ a b. PassLimit a b → s ≡ Limit))
    (sym c.status.ensures)
    (prepared-limited (g.H.Shelf.told c.args.shelf.now) c.args.words.now _ _ c.in-Ok.prepared c.in-Ok.ensures.says
    (λ e. r (c.status.ensures ∙ e)))

pub returns-clause-write_text : goal.returns-clause-write_text
returns-clause-write_text g c = λ e. (
  report_of c.in-Ok.prepared,
  subst (λ t. AppendsPrefix (g.K.Sink.written c.args.sink.now) (g.K.Sink.written c.write_report.new.sink) t)
      c.text.ensures
      c.in-Err-write_report.ensures.prefix,
  prepared-part (g.H.Shelf.told c.args.shelf.now) c.args.words.now _ _ c.in-Ok.prepared c.in-Ok.ensures.says,
)

pub returns-in-Ok-write_report-clause-headline : goal.returns-in-Ok-write_report-clause-headline
returns-in-Ok-write_report-clause-headline g c = λ h k m.
    subst (IsCorrect (g.H.Shelf.told c.args.shelf.now) c.args.words.now (g.K.Sink.written c.args.sink.now)
    (g.K.Sink.written c.write_report.new.sink)) (sym c.status.ensures)
    (prepared-correct (g.H.Shelf.told c.args.shelf.now) c.args.words.now _ _ c.in-Ok.prepared _ _ c.text.result.now
    c.in-Ok.ensures.plain c.in-Ok.ensures.says c.text.ensures h c.in-Ok-write_report.ensures.whole)

pub returns-in-Ok-write_report-clause-decided : goal.returns-in-Ok-write_report-clause-decided
returns-in-Ok-write_report-clause-decided g c = λ h k m.
    subst (WritesDecision (g.H.Shelf.told c.args.shelf.now) c.args.words.now (g.K.Sink.written c.args.sink.now)
    (g.K.Sink.written c.write_report.new.sink)) (sym c.status.ensures)
    (prepared-decision (g.H.Shelf.told c.args.shelf.now) c.args.words.now _ _ c.in-Ok.prepared _ _ c.text.result.now
    c.in-Ok.ensures.says c.text.ensures h c.in-Ok-write_report.ensures.whole)

pub returns-in-Ok-write_report-clause-valid : goal.returns-in-Ok-write_report-clause-valid
returns-in-Ok-write_report-clause-valid g c = λ e i.
    means-judgement (g.H.Shelf.told c.args.shelf.now) c.args.words.now _ _ c.text.result.now true
    (prepared-report (g.H.Shelf.told c.args.shelf.now) c.args.words.now _ _ c.in-Ok.prepared c.text.result.now Done
    c.in-Ok.ensures.says c.text.ensures (sym c.status.ensures ∙ e) (λ w. cc)) i
    c.in-Ok-write_report.ensures.whole

pub returns-in-Ok-write_report-clause-invalid : goal.returns-in-Ok-write_report-clause-invalid
returns-in-Ok-write_report-clause-invalid g c = λ e i.
    means-judgement (g.H.Shelf.told c.args.shelf.now) c.args.words.now _ _ c.text.result.now false
    (prepared-report (g.H.Shelf.told c.args.shelf.now) c.args.words.now _ _ c.in-Ok.prepared c.text.result.now Other
    c.in-Ok.ensures.says c.text.ensures (sym c.status.ensures ∙ e) (λ w. cc)) i
    c.in-Ok-write_report.ensures.whole

pub returns-in-Ok-write_report-clause-valid_refusal : goal.returns-in-Ok-write_report-clause-valid_refusal
returns-in-Ok-write_report-clause-valid_refusal g c = λ e i. (
  c.text.result.now,
  c.in-Ok-write_report.ensures.whole,
  means-judged_refusal (g.H.Shelf.told c.args.shelf.now) c.args.words.now c.text.result.now
      (prepared-report (g.H.Shelf.told c.args.shelf.now) c.args.words.now _ _ c.in-Ok.prepared c.text.result.now Refused
      c.in-Ok.ensures.says c.text.ensures (sym c.status.ensures ∙ e) (λ w. cc)) i,
)

pub returns-in-Ok-write_report-clause-check_accepted : goal.returns-in-Ok-write_report-clause-check_accepted
returns-in-Ok-write_report-clause-check_accepted g c = λ e i.
    means-acceptance (g.H.Shelf.told c.args.shelf.now) c.args.words.now _ _ c.text.result.now
    (prepared-report (g.H.Shelf.told c.args.shelf.now) c.args.words.now _ _ c.in-Ok.prepared c.text.result.now Done
    c.in-Ok.ensures.says c.text.ensures (sym c.status.ensures ∙ e) (λ w. cc)) i
    c.in-Ok-write_report.ensures.whole

pub returns-in-Ok-write_report-clause-check_rejected : goal.returns-in-Ok-write_report-clause-check_rejected
returns-in-Ok-write_report-clause-check_rejected g c = λ e i.
    means-rejection (g.H.Shelf.told c.args.shelf.now) c.args.words.now _ _ c.text.result.now
    (prepared-report (g.H.Shelf.told c.args.shelf.now) c.args.words.now _ _ c.in-Ok.prepared c.text.result.now Other
    c.in-Ok.ensures.says c.text.ensures (sym c.status.ensures ∙ e) (λ w. cc)) i
    c.in-Ok-write_report.ensures.whole

pub returns-in-Ok-write_report-clause-check_refusal : goal.returns-in-Ok-write_report-clause-check_refusal
returns-in-Ok-write_report-clause-check_refusal g c = λ e i. (
  c.text.result.now,
  c.in-Ok-write_report.ensures.whole,
  means-check_refusal (g.H.Shelf.told c.args.shelf.now) c.args.words.now c.text.result.now
      (prepared-report (g.H.Shelf.told c.args.shelf.now) c.args.words.now _ _ c.in-Ok.prepared c.text.result.now Refused
      c.in-Ok.ensures.says c.text.ensures (sym c.status.ensures ∙ e) (λ w. cc)) i,
)

pub returns-in-Ok-write_report-clause-listed : goal.returns-in-Ok-write_report-clause-listed
returns-in-Ok-write_report-clause-listed g c = λ h k m.
    subst (WritesListing (g.H.Shelf.told c.args.shelf.now) c.args.words.now (g.K.Sink.written c.args.sink.now)
    (g.K.Sink.written c.write_report.new.sink)) (sym c.status.ensures)
    (prepared-listing (g.H.Shelf.told c.args.shelf.now) c.args.words.now _ _ c.in-Ok.prepared _ _ c.text.result.now
    c.in-Ok.ensures.says c.text.ensures h c.in-Ok-write_report.ensures.whole)

pub returns-in-Ok-write_report-clause-table : goal.returns-in-Ok-write_report-clause-table
returns-in-Ok-write_report-clause-table g c = λ e i.
    means-table (g.H.Shelf.told c.args.shelf.now) c.args.words.now _ _ c.text.result.now
    (prepared-report (g.H.Shelf.told c.args.shelf.now) c.args.words.now _ _ c.in-Ok.prepared c.text.result.now Done
    c.in-Ok.ensures.says c.text.ensures (sym c.status.ensures ∙ e) (λ w. cc)) i
    c.in-Ok-write_report.ensures.whole

pub returns-in-Ok-write_report-clause-norm_refusal : goal.returns-in-Ok-write_report-clause-norm_refusal
returns-in-Ok-write_report-clause-norm_refusal g c = λ e i. (
  c.text.result.now,
  c.in-Ok-write_report.ensures.whole,
  means-norm_refusal (g.H.Shelf.told c.args.shelf.now) c.args.words.now c.text.result.now
      (prepared-report (g.H.Shelf.told c.args.shelf.now) c.args.words.now _ _ c.in-Ok.prepared c.text.result.now Refused
      c.in-Ok.ensures.says c.text.ensures (sym c.status.ensures ∙ e) (λ w. cc)) i,
)

pub returns-in-Ok-write_report-clause-missing : goal.returns-in-Ok-write_report-clause-missing
returns-in-Ok-write_report-clause-missing g c = λ w m misses.
    c.status.ensures ∙ prepared-missing (g.H.Shelf.told c.args.shelf.now) c.args.words.now _ _ c.in-Ok.prepared
    c.in-Ok.ensures.says misses

pub returns-in-Ok-write_report-clause-only_missing : goal.returns-in-Ok-write_report-clause-only_missing
returns-in-Ok-write_report-clause-only_missing g c = λ e counts counts' below.
    prepared-only_missing (g.H.Shelf.told c.args.shelf.now) c.args.words.now _ _ c.in-Ok.prepared _ _
    c.in-Ok.ensures.says (sym c.status.ensures ∙ e) c.prepare.ensures.begun counts counts' below

pub returns-in-Ok-write_report-clause-generated : goal.returns-in-Ok-write_report-clause-generated
returns-in-Ok-write_report-clause-generated g c = λ w m i.
    means-summary (g.H.Shelf.told c.args.shelf.now) c.args.words.now _ _ c.text.result.now _
    (prepared-report (g.H.Shelf.told c.args.shelf.now) c.args.words.now _ _ c.in-Ok.prepared c.text.result.now _
    c.in-Ok.ensures.says c.text.ensures (sym c.status.ensures)
    (λ r. no_read_fault (g.H.Shelf.told c.args.shelf.now) c.args.words.now _ _ c.in-Ok.prepared c.in-Ok.ensures.says
    (rw c.in-Ok.is at c.prepare.ensures.made (gen-fileless c.args.words.now i)) (sym c.status.ensures ∙ r))) i
    c.in-Ok-write_report.ensures.whole

pub returns-in-Ok-write_report-clause-not_read_behind : goal.returns-in-Ok-write_report-clause-not_read_behind
returns-in-Ok-write_report-clause-not_read_behind g c = λ e.
    written-read (g.H.Shelf.told c.args.shelf.now) (command c.args.words.now) (g.H.Shelf.left c.prepare.new.shelf) _ _
    (report_of c.in-Ok.prepared) c.text.result.now c.in-Ok.ensures.read c.text.ensures (sym c.status.ensures ∙ e)
    c.in-Ok-write_report.ensures.whole

-- where a certificate isn't judged to its end

pub returns-in-Ok-write_report-clause-fault_unrejected : goal.returns-in-Ok-write_report-clause-fault_unrejected
returns-in-Ok-write_report-clause-fault_unrejected g c = λ e all begun.
    fault-unrejected (g.H.Shelf.told c.args.shelf.now) (command c.args.words.now)
    (g.H.Shelf.is_begun c.prepare.new.shelf) (g.H.Shelf.left c.prepare.new.shelf) (g.H.Shelf.begun c.args.shelf.now)
    (g.H.Shelf.begun c.prepare.new.shelf) (report_of c.in-Ok.prepared) c.in-Ok.ensures.unrejected
    (sym c.status.ensures ∙ e) all begun

pub returns-in-Ok-write_report-clause-refusal_unrejected : goal.returns-in-Ok-write_report-clause-refusal_unrejected
returns-in-Ok-write_report-clause-refusal_unrejected g c = λ e.
    written-unrejected (g.H.Shelf.told c.args.shelf.now) (command c.args.words.now)
    (g.H.Shelf.is_begun c.prepare.new.shelf) (g.H.Shelf.left c.prepare.new.shelf) (g.H.Shelf.begun c.args.shelf.now)
    (g.H.Shelf.begun c.prepare.new.shelf) _ _ (report_of c.in-Ok.prepared) c.text.result.now
    c.in-Ok.ensures.unrejected c.text.ensures (sym c.status.ensures ∙ e) c.in-Ok-write_report.ensures.whole

-- with one worker a count that rose is reported

pub returns-in-Ok-write_report-clause-read_noticed_alone : goal.returns-in-Ok-write_report-clause-read_noticed_alone
returns-in-Ok-write_report-clause-read_noticed_alone g c = λ less stays alone.
    c.status.ensures
    ∙ noticed-alone c.args.words.now _ (prepared-noticed (g.H.Shelf.told c.args.shelf.now) c.args.words.now _ _
    c.in-Ok.prepared c.in-Ok.ensures.says less) alone

pub returns-in-Err-clause-read_noticed_alone : goal.returns-in-Err-clause-read_noticed_alone
returns-in-Err-clause-read_noticed_alone g c = λ less stays alone.
    noticed-alone c.args.words.now _ (refused-noticed c.args.words.now _ _ c.in-Err.ensures.memory less) alone
