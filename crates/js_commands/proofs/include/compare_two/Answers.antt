use Rattle.std.proofs.Common.{[], Some, encode_utf8_all, string_bytes, refl, subst, ◌∙◌}
use Rattle.js_report.specs.WholeFile.{HasBytes}
use Rattle.js_guard.specs.RankedView.{entries_of}
use Rattle.js_input.specs.SchemaReading.{Refused, Read}
use Rattle.std.proofs.lemmas.Result.{IfOk-weaker}
use Rattle.js_input.proofs.OrderLaws.{begins_two}
use Rattle.js_commands.specs.IncludeOutcome.{SecondRefused}
use Rattle.js_commands.proofs.IncludeOutcomeLemmas.{comparison-first_refused, comparison-second, schemas-told, says-compared}
use Rattle.js_commands.proofs.FileLemmas.{OnErr-anyway}
use Rattle.js_commands.proofs.include.compare_two.Goals as goal

pub returns-in-Some-Refused-clause-says : goal.returns-in-Some-Refused-clause-says
returns-in-Some-Refused-clause-says g c =
    let says = rw c.in-Some-Refused.is at c.in_ok-schema.ensures.says in
    let (same, (bytes, has, is)) = rw c.in-Some-Refused.field-0-is at says in (
      same,
      comparison-first_refused (g.H.Shelf.told c.args.shelf.now) c.args.first.now (Some c.args.second.now) bytes
          (string_bytes c.in-Some-Refused.words) has is,
      tt,
    )

pub returns-in-Some-Refused-2-clause-says : goal.returns-in-Some-Refused-2-clause-says
returns-in-Some-Refused-2-clause-says g c =
    let first = rw c.in-Some-Read.is at c.in_ok-schema.ensures.says in
    let (same, (bytes, has, (j, is, of))) = rw c.in-Some-Read.field-0-is at first in
    let second = rw c.in-Some-Refused-2.is at c.in_ok-b.ensures.says in
    let (again, (others, has_others, read)) = rw c.in-Some-Refused-2.field-0-is at second in (
      again ∙ same,
      comparison-second (g.H.Shelf.told c.args.shelf.now) c.args.first.now c.args.second.now bytes others j
          (Refused (string_bytes c.in-Some-Refused-2.words)) (SecondRefused (string_bytes c.in-Some-Refused-2.words))
          has
          (subst (λ t. HasBytes t (encode_utf8_all c.args.second.now) others) c.in_ok-schema.ensures.told has_others)
          is read refl,
      tt,
    )

pub returns-in-Some-Read-2-clause-says : goal.returns-in-Some-Read-2-clause-says
returns-in-Some-Read-2-clause-says g c =
    let first = rw c.in-Some-Read.is at c.in_ok-schema.ensures.says in
    let (same, (bytes, has, (x, is, of))) = rw c.in-Some-Read.field-0-is at first in
    let second = rw c.in-Some-Read-2.is at c.in_ok-b.ensures.says in
    let (again, (others, has_others, (y, is', of'))) = rw c.in-Some-Read-2.field-0-is at second in
    let has' : HasBytes (g.H.Shelf.told c.args.shelf.now) (encode_utf8_all c.args.second.now) others =
    subst (λ t. HasBytes t (encode_utf8_all c.args.second.now) others) c.in_ok-schema.ensures.told has_others in
    IfOk-weaker c.compared.result _ _ (λ f h.
    says-compared (g.H.Shelf.told c.args.shelf.now) c.args.first.now (Some c.args.second.now) x y
    (entries_of c.in-Some-Read.schema) (entries_of c.in-Some-Read-2.b)
    (record { well_formed = of.well_formed; entries = of.entries })
    (record { well_formed = of'.well_formed; entries = of'.entries })
    (schemas-told (g.H.Shelf.told c.args.shelf.now) c.args.first.now c.args.second.now bytes others x y has has' is is')
    (λ o. comparison-second (g.H.Shelf.told c.args.shelf.now) c.args.first.now c.args.second.now bytes others x (Read y)
    o has has' is is') _ _ f (again ∙ same) h) c.compared.ensures

pub returns-in-Some-Read-2-clause-memory : goal.returns-in-Some-Read-2-clause-memory
returns-in-Some-Read-2-clause-memory g c =
    let first = rw c.in-Some-Read.is at c.in_ok-schema.ensures.says in
    let (same, (bytes, has, (x, is, of))) = rw c.in-Some-Read.field-0-is at first in
    let second = rw c.in-Some-Read-2.is at c.in_ok-b.ensures.says in
    let (again, (others, has_others, (y, is', of'))) = rw c.in-Some-Read-2.field-0-is at second in
    OnErr-anyway _ c.compared.result (again ∙ same)

pub returns-in_err-b-clause-begun : goal.returns-in_err-b-clause-begun
returns-in_err-b-clause-begun g c =
    let first = rw c.in-Some-Read.is at c.in_ok-schema.ensures.says in
    let (same, (bytes, has, (j, is, of))) = rw c.in-Some-Read.field-0-is at first in
    begins_two (g.H.Shelf.told c.args.shelf.now) (encode_utf8_all c.args.first.now) (encode_utf8_all c.args.second.now)
    [] (g.H.Shelf.begun c.args.shelf.now) (g.H.Shelf.begun c.load_schema.new.shelf)
    (g.H.Shelf.begun c.load_schema-2.new.shelf) c.load_schema.ensures.begun c.load_schema-2.ensures.begun
    (bytes, has, (j, is))

pub returns-in-Some-Refused-2-clause-begun : goal.returns-in-Some-Refused-2-clause-begun
returns-in-Some-Refused-2-clause-begun g c =
    let first = rw c.in-Some-Read.is at c.in_ok-schema.ensures.says in
    let (same, (bytes, has, (j, is, of))) = rw c.in-Some-Read.field-0-is at first in
    begins_two (g.H.Shelf.told c.args.shelf.now) (encode_utf8_all c.args.first.now) (encode_utf8_all c.args.second.now)
    [] (g.H.Shelf.begun c.args.shelf.now) (g.H.Shelf.begun c.load_schema.new.shelf)
    (g.H.Shelf.begun c.load_schema-2.new.shelf) c.load_schema.ensures.begun c.load_schema-2.ensures.begun
    (bytes, has, (j, is))

pub returns-clause-begun : goal.returns-clause-begun
returns-clause-begun g c =
    let first = rw c.in-Some-Read.is at c.in_ok-schema.ensures.says in
    let (same, (bytes, has, (j, is, of))) = rw c.in-Some-Read.field-0-is at first in
    begins_two (g.H.Shelf.told c.args.shelf.now) (encode_utf8_all c.args.first.now) (encode_utf8_all c.args.second.now)
    [] (g.H.Shelf.begun c.args.shelf.now) (g.H.Shelf.begun c.load_schema.new.shelf)
    (g.H.Shelf.begun c.load_schema-2.new.shelf) c.load_schema.ensures.begun c.load_schema-2.ensures.begun
    (bytes, has, (j, is))

pub returns-in-Some-Read-2-clause-begun : goal.returns-in-Some-Read-2-clause-begun
returns-in-Some-Read-2-clause-begun g c =
    let first = rw c.in-Some-Read.is at c.in_ok-schema.ensures.says in
    let (same, (bytes, has, (j, is, of))) = rw c.in-Some-Read.field-0-is at first in
    begins_two (g.H.Shelf.told c.args.shelf.now) (encode_utf8_all c.args.first.now) (encode_utf8_all c.args.second.now)
    [] (g.H.Shelf.begun c.args.shelf.now) (g.H.Shelf.begun c.load_schema.new.shelf)
    (g.H.Shelf.begun c.load_schema-2.new.shelf) c.load_schema.ensures.begun c.load_schema-2.ensures.begun
    (bytes, has, (j, is))
