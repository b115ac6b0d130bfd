-- A reference is its mark and a number.
use Rattle.std.proofs.Common.{arith, ap, ◌∙◌, ◌++◌}
use Rattle.std.specs.Fmt.{decimal}
use Rattle.std.proofs.lemmas.Bool.{ltb-true}
use Rattle.document_text_laws.proofs.NumberLaws.{number-read}
use Rattle.document_text_laws.specs.Reader.{number_on}
use Rattle.js_text.proofs.ScanLemmas.{behind-first}
use Rattle.js_text.proofs.scanner.reference.Goals as goal

pub returns-in_err-id-clause-reads : goal.returns-in_err-id-clause-reads
returns-in_err-id-clause-reads c x rest named ends is =
    let small = ltb-true x 4294967296 named in
    let read = ap (number_on 0) (behind-first c.args.text.now 35 (decimal x ++ rest) is)
    ∙ number-read x rest (omega (arith, small)) ends in
    let some = c.in_err-id.ensures.value x rest read small in
    absurd cc

pub returns-clause-reads : goal.returns-clause-reads
returns-clause-reads c x rest named ends is =
    let small = ltb-true x 4294967296 named in
    let read = ap (number_on 0) (behind-first c.args.text.now 35 (decimal x ++ rest) is)
    ∙ number-read x rest (omega (arith, small)) ends in
    c.in_ok-id.ensures.value x rest read small
