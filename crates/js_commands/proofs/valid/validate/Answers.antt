use Rattle.std.proofs.Common.{[], encode_utf8_all, string_bytes, refl, subst, ◌∙◌}
use Rattle.draft06.specs.Validity.{valid}
use Rattle.js_doc.specs.View.{view}
use Rattle.js_keywords.specs.Reading.{rules}
use Rattle.js_report.specs.WholeFile.{HasBytes}
use Rattle.std.proofs.lemmas.Result.{IfOk-weaker}
use Rattle.js_input.specs.DocumentReading.{RefusedDocument, ReadDocument, last_document}
use Rattle.js_input.proofs.OrderLaws.{begins_two}
use Rattle.js_commands.specs.ValidOutcome.{DocumentRefused, of_test}
use Rattle.js_commands.proofs.FileLemmas.{OnErr-anyway}
use Rattle.js_commands.proofs.ValidOutcomeLemmas.{validation-schema_refused, validation-read, says-judged}
use Rattle.js_commands.proofs.valid.validate.Goals as goal

pub returns-in-Some-Refused-clause-says : goal.returns-in-Some-Refused-clause-says
returns-in-Some-Refused-clause-says g c =
    let says = rw c.in-Some-Refused.is at c.in_ok-ranked.ensures.says in
    let (same, (bytes, has, is)) = rw c.in-Some-Refused.field-0-is at says in (
      same,
      validation-schema_refused (g.H.Shelf.told c.args.shelf.now) c.args.schema.now c.args.document.now bytes
          (string_bytes c.in-Some-Refused.words) has is,
    )

pub returns-in-Some-Refused-2-clause-says : goal.returns-in-Some-Refused-2-clause-says
returns-in-Some-Refused-2-clause-says g c =
    let first = rw c.in-Some-Read.is at c.in_ok-ranked.ensures.says in
    let (same, (bytes, has, (j, is, of))) = rw c.in-Some-Read.field-0-is at first in
    let second = rw c.in-Some-Refused-2.is at c.in_ok-doc.ensures.says in
    let (again, (others, has_others, read)) = rw c.in-Some-Refused-2.field-0-is at second in (
      again ∙ same,
      validation-read (g.H.Shelf.told c.args.shelf.now) c.args.schema.now c.args.document.now bytes others j
          (RefusedDocument (string_bytes c.in-Some-Refused-2.words))
          (DocumentRefused (string_bytes c.in-Some-Refused-2.words)) has
          (subst (λ t. HasBytes t (encode_utf8_all c.args.document.now) others) c.in_ok-ranked.ensures.told has_others)
          is read refl,
    )

pub returns-in-Some-Read-2-clause-says : goal.returns-in-Some-Read-2-clause-says
returns-in-Some-Read-2-clause-says g c =
    let first = rw c.in-Some-Read.is at c.in_ok-ranked.ensures.says in
    let (same, (bytes, has, (j, is, of))) = rw c.in-Some-Read.field-0-is at first in
    let second = rw c.in-Some-Read-2.is at c.in_ok-doc.ensures.says in
    let (again, (others, has_others, (read, well))) = rw c.in-Some-Read-2.field-0-is at second in
    IfOk-weaker c.judged.result _ _ (λ v h.
    says-judged (g.H.Shelf.told c.args.shelf.now) c.args.schema.now c.args.document.now _ _ _ v
    (valid rules j (view c.in-Some-Read-2.doc)) same again (h j of.well_formed of.entries)
    (validation-read (g.H.Shelf.told c.args.shelf.now) c.args.schema.now c.args.document.now bytes others j
    (ReadDocument (view c.in-Some-Read-2.doc)) (of_test (valid rules j (view c.in-Some-Read-2.doc))) has
    (subst (λ t. HasBytes t (encode_utf8_all c.args.document.now) others) c.in_ok-ranked.ensures.told has_others) is
    read refl)) c.judged.ensures

pub returns-in-Some-Parts-clause-says : goal.returns-in-Some-Parts-clause-says
returns-in-Some-Parts-clause-says g c =
    let first = rw c.in-Some-Read.is at c.in_ok-ranked.ensures.says in
    let (same, (bytes, has, (j, is, of))) = rw c.in-Some-Read.field-0-is at first in
    let second = rw c.in-Some-Parts.is at c.in_ok-doc.ensures.says in
    let (again, (others, has_others, (read, table))) = rw c.in-Some-Parts.field-0-is at second in
    let d = last_document c.in-Some-Parts.parts in
    IfOk-weaker c.judged_parts.result _ _ (λ v h.
    says-judged (g.H.Shelf.told c.args.shelf.now) c.args.schema.now c.args.document.now _ _ _ v
    (valid rules j d) same again (h j of.well_formed of.entries)
    (validation-read (g.H.Shelf.told c.args.shelf.now) c.args.schema.now c.args.document.now bytes others j
    (ReadDocument d) (of_test (valid rules j d)) has
    (subst (λ t. HasBytes t (encode_utf8_all c.args.document.now) others) c.in_ok-ranked.ensures.told has_others) is
    read refl)) c.judged_parts.ensures

pub judged_parts-requires : goal.judged_parts-requires
judged_parts-requires g c =
    let second = rw c.in-Some-Parts.is at c.in_ok-doc.ensures.says in
    let (again, (others, has_others, (read, table))) = rw c.in-Some-Parts.field-0-is at second in
    record { some = table.some }

pub returns-in_err-doc-clause-begun : goal.returns-in_err-doc-clause-begun
returns-in_err-doc-clause-begun g c =
    let first = rw c.in-Some-Read.is at c.in_ok-ranked.ensures.says in
    let (same, (bytes, has, (j, is, of))) = rw c.in-Some-Read.field-0-is at first in
    begins_two (g.H.Shelf.told c.args.shelf.now) (encode_utf8_all c.args.schema.now)
    (encode_utf8_all c.args.document.now) [] (g.H.Shelf.begun c.args.shelf.now)
    (g.H.Shelf.begun c.load_schema.new.shelf) (g.H.Shelf.begun c.load_document.new.shelf) c.load_schema.ensures.begun
    c.load_document.ensures.begun (bytes, has, (j, is))

pub returns-in-Some-Read-2-clause-begun : goal.returns-in-Some-Read-2-clause-begun
returns-in-Some-Read-2-clause-begun g c =
    let first = rw c.in-Some-Read.is at c.in_ok-ranked.ensures.says in
    let (same, (bytes, has, (j, is, of))) = rw c.in-Some-Read.field-0-is at first in
    begins_two (g.H.Shelf.told c.args.shelf.now) (encode_utf8_all c.args.schema.now)
    (encode_utf8_all c.args.document.now) [] (g.H.Shelf.begun c.args.shelf.now)
    (g.H.Shelf.begun c.load_schema.new.shelf) (g.H.Shelf.begun c.load_document.new.shelf) c.load_schema.ensures.begun
    c.load_document.ensures.begun (bytes, has, (j, is))

pub returns-in-Some-Refused-2-clause-begun : goal.returns-in-Some-Refused-2-clause-begun
returns-in-Some-Refused-2-clause-begun g c =
    let first = rw c.in-Some-Read.is at c.in_ok-ranked.ensures.says in
    let (same, (bytes, has, (j, is, of))) = rw c.in-Some-Read.field-0-is at first in
    begins_two (g.H.Shelf.told c.args.shelf.now) (encode_utf8_all c.args.schema.now)
    (encode_utf8_all c.args.document.now) [] (g.H.Shelf.begun c.args.shelf.now)
    (g.H.Shelf.begun c.load_schema.new.shelf) (g.H.Shelf.begun c.load_document.new.shelf) c.load_schema.ensures.begun
    c.load_document.ensures.begun (bytes, has, (j, is))

pub returns-clause-begun : goal.returns-clause-begun
returns-clause-begun g c =
    let first = rw c.in-Some-Read.is at c.in_ok-ranked.ensures.says in
    let (same, (bytes, has, (j, is, of))) = rw c.in-Some-Read.field-0-is at first in
    begins_two (g.H.Shelf.told c.args.shelf.now) (encode_utf8_all c.args.schema.now)
    (encode_utf8_all c.args.document.now) [] (g.H.Shelf.begun c.args.shelf.now)
    (g.H.Shelf.begun c.load_schema.new.shelf) (g.H.Shelf.begun c.load_document.new.shelf) c.load_schema.ensures.begun
    c.load_document.ensures.begun (bytes, has, (j, is))

pub returns-in-Some-Read-2-clause-memory : goal.returns-in-Some-Read-2-clause-memory
returns-in-Some-Read-2-clause-memory g c =
    let first = rw c.in-Some-Read.is at c.in_ok-ranked.ensures.says in
    let (same, (bytes, has, (j, is, of))) = rw c.in-Some-Read.field-0-is at first in
    let second = rw c.in-Some-Read-2.is at c.in_ok-doc.ensures.says in
    let (again, rest) = rw c.in-Some-Read-2.field-0-is at second in
    OnErr-anyway _ c.judged.result (again ∙ same)

pub returns-in-Some-Parts-clause-begun : goal.returns-in-Some-Parts-clause-begun
returns-in-Some-Parts-clause-begun g c =
    let first = rw c.in-Some-Read.is at c.in_ok-ranked.ensures.says in
    let (same, (bytes, has, (j, is, of))) = rw c.in-Some-Read.field-0-is at first in
    begins_two (g.H.Shelf.told c.args.shelf.now) (encode_utf8_all c.args.schema.now)
    (encode_utf8_all c.args.document.now) [] (g.H.Shelf.begun c.args.shelf.now)
    (g.H.Shelf.begun c.load_schema.new.shelf) (g.H.Shelf.begun c.load_document.new.shelf) c.load_schema.ensures.begun
    c.load_document.ensures.begun (bytes, has, (j, is))

pub returns-in-Some-Parts-clause-memory : goal.returns-in-Some-Parts-clause-memory
returns-in-Some-Parts-clause-memory g c =
    let first = rw c.in-Some-Read.is at c.in_ok-ranked.ensures.says in
    let (same, (bytes, has, (j, is, of))) = rw c.in-Some-Read.field-0-is at first in
    let second = rw c.in-Some-Parts.is at c.in_ok-doc.ensures.says in
    let (again, rest) = rw c.in-Some-Parts.field-0-is at second in
    OnErr-anyway _ c.judged_parts.result (again ∙ same)
