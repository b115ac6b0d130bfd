use Rattle.std.proofs.Common.{[], ◌∷◌, IfOk, OnErr, encode_utf8_all, string_bytes, subst, ◌∙◌}
use Rattle.js_report.specs.WholeFile.{HasBytes}
use Rattle.js_guard.specs.RankedView.{entries_of}
use Rattle.js_input.specs.OrderOfFiles.{IsSchemaOn}
use Rattle.js_input.proofs.OrderLaws.{begins_two}
use Rattle.std.proofs.lemmas.Result.{IfOk-weaker}
use Rattle.js_certificate.specs.FileVerdicts.{SameOrRose}
use Rattle.js_commands.specs.CheckSaying.{CertificateSays, IsReadWith, IsUnrejectedWith}
use Rattle.js_commands.proofs.CheckOutcomeLemmas.{checking-first_refused, checking-second_refused, says-checked, says-after, begins_three}
use Rattle.js_commands.proofs.CheckUnrejectedLemmas.{ends-unrejected, first-begun, second-begun}
use Rattle.js_commands.proofs.check.check_files.Goals as goal

pub returns-in-Some-Refused-clause-says : goal.returns-in-Some-Refused-clause-says
returns-in-Some-Refused-clause-says g c =
    let says = rw c.in-Some-Refused.is at c.in_ok-schema.ensures.says in
    let (same, (bytes, has, is)) = rw c.in-Some-Refused.field-0-is at says in (
      same,
      checking-first_refused (g.H.Shelf.told c.args.shelf.now) c.args.first.now c.args.second.now
          c.args.certificate.now bytes (string_bytes c.in-Some-Refused.words) has is,
      tt,
    )

pub returns-in-Some-Refused-2-clause-says : goal.returns-in-Some-Refused-2-clause-says
returns-in-Some-Refused-2-clause-says g c =
    let first = rw c.in-Some-Read.is at c.in_ok-schema.ensures.says in
    let (same, (bytes, has, (j, is, of))) = rw c.in-Some-Read.field-0-is at first in
    let second = rw c.in-Some-Refused-2.is at c.in_ok-schema-2.ensures.says in
    let (again, (others, has_others, read)) = rw c.in-Some-Refused-2.field-0-is at second in (
      again ∙ same,
      checking-second_refused (g.H.Shelf.told c.args.shelf.now) c.args.first.now c.args.second.now
          c.args.certificate.now bytes others (string_bytes c.in-Some-Refused-2.words) j has
          (subst (λ t. HasBytes t (encode_utf8_all c.args.second.now) others) c.in_ok-schema.ensures.told has_others)
          is read,
      tt,
    )

pub returns-clause-says : goal.returns-clause-says
returns-clause-says g c =
    let first = rw c.in-Some-Read.is at c.in_ok-schema.ensures.says in
    let (same, (bytes, has, (x, is, of))) = rw c.in-Some-Read.field-0-is at first in
    let second = rw c.in-Some-Read-2.is at c.in_ok-schema-2.ensures.says in
    let (again, (others, has_others, (y, is', of'))) = rw c.in-Some-Read-2.field-0-is at second in
    let told = g.H.Shelf.told c.args.shelf.now in
    let has' : HasBytes told (encode_utf8_all c.args.second.now) others =
    subst (λ t. HasBytes t (encode_utf8_all c.args.second.now) others) c.in_ok-schema.ensures.told has_others in
    IfOk-weaker c.check_certificate.result _ _ (λ r h.
    says-after told c.args.first.now c.args.second.now c.args.certificate.now _ _ _ _ r (again ∙ same)
    (says-checked told c.args.first.now c.args.second.now c.args.certificate.now bytes others x y has has' is is'
    (entries_of c.in-Some-Read.schema) (entries_of c.in-Some-Read-2.schema)
    (record { well_formed = of.well_formed; entries = of.entries })
    (record { well_formed = of'.well_formed; entries = of'.entries }) _ _ _ r
    (subst (λ t. CertificateSays (entries_of c.in-Some-Read.schema) (entries_of c.in-Some-Read-2.schema) t
    (encode_utf8_all c.args.certificate.now) c.args.workers.now.count (g.H.Shelf.faults c.load_schema-2.new.shelf)
    (g.H.Shelf.faults c.check_certificate.new.shelf) r)
    (c.in_ok-schema-2.ensures.told ∙ c.in_ok-schema.ensures.told) h))) c.check_certificate.ensures.says

pub returns-clause-memory : goal.returns-clause-memory
returns-clause-memory g c =
    let first = rw c.in-Some-Read.is at c.in_ok-schema.ensures.says in
    let (same, read) = rw c.in-Some-Read.field-0-is at first in
    let second = rw c.in-Some-Read-2.is at c.in_ok-schema-2.ensures.says in
    let (again, others) = rw c.in-Some-Read-2.field-0-is at second in
    subst (λ n. OnErr c.check_certificate.result (SameOrRose c.args.workers.now.count n
    (g.H.Shelf.faults c.check_certificate.new.shelf))) (again ∙ same) c.check_certificate.ensures.memory

pub returns-clause-read : goal.returns-clause-read
returns-clause-read g c =
    subst (λ t. IfOk c.check_certificate.result (IsReadWith t (encode_utf8_all c.args.certificate.now)
    (g.H.Shelf.left c.check_certificate.new.shelf) c.args.workers.now.count))
    (c.in_ok-schema-2.ensures.told ∙ c.in_ok-schema.ensures.told) c.check_certificate.ensures.read

-- where the certificate isn't judged to its end

pub returns-in-None-clause-unrejected : goal.returns-in-None-clause-unrejected
returns-in-None-clause-unrejected g c = λ all.
    first-begun _ _ _ _ _ _ _ c.load_schema.ensures.begun all

pub returns-in-None-2-clause-unrejected : goal.returns-in-None-2-clause-unrejected
returns-in-None-2-clause-unrejected g c = λ all.
    second-begun _ _ _ _ _ _ _ _ _ c.load_schema.ensures.begun c.load_schema-2.ensures.begun all

pub returns-clause-unrejected : goal.returns-clause-unrejected
returns-clause-unrejected g c =
    let first = rw c.in-Some-Read.is at c.in_ok-schema.ensures.says in
    let (same, (bytes, has, (x, is, of))) = rw c.in-Some-Read.field-0-is at first in
    let second = rw c.in-Some-Read-2.is at c.in_ok-schema-2.ensures.says in
    let (again, (others, has_others, (y, is', of'))) = rw c.in-Some-Read-2.field-0-is at second in
    let told = g.H.Shelf.told c.args.shelf.now in
    let has' : HasBytes told (encode_utf8_all c.args.second.now) others =
    subst (λ t. HasBytes t (encode_utf8_all c.args.second.now) others) c.in_ok-schema.ensures.told has_others in
    IfOk-weaker c.check_certificate.result _ _ (λ r h.
    ends-unrejected told c.args.first.now c.args.second.now c.args.certificate.now bytes others x y has has' is is'
    (entries_of c.in-Some-Read.schema) (entries_of c.in-Some-Read-2.schema)
    (record { well_formed = of.well_formed; entries = of.entries })
    (record { well_formed = of'.well_formed; entries = of'.entries }) (g.H.Shelf.left c.check_certificate.new.shelf)
    (g.H.Shelf.is_begun c.check_certificate.new.shelf) (g.H.Shelf.begun c.args.shelf.now)
    (g.H.Shelf.begun c.check_certificate.new.shelf) r
    (subst (λ t. IsUnrejectedWith (entries_of c.in-Some-Read.schema) (entries_of c.in-Some-Read-2.schema) t
    (encode_utf8_all c.args.certificate.now) (g.H.Shelf.is_begun c.check_certificate.new.shelf)
    (g.H.Shelf.left c.check_certificate.new.shelf) r)
    (c.in_ok-schema-2.ensures.told ∙ c.in_ok-schema.ensures.told) h)) c.check_certificate.ensures.unrejected

pub returns-in_err-schema-2-clause-begun : goal.returns-in_err-schema-2-clause-begun
returns-in_err-schema-2-clause-begun g c =
    let first = rw c.in-Some-Read.is at c.in_ok-schema.ensures.says in
    let (same, (bytes, has, (j, is, of))) = rw c.in-Some-Read.field-0-is at first in
    begins_two (g.H.Shelf.told c.args.shelf.now) (encode_utf8_all c.args.first.now) (encode_utf8_all c.args.second.now)
    (encode_utf8_all c.args.certificate.now ∷ []) (g.H.Shelf.begun c.args.shelf.now)
    (g.H.Shelf.begun c.load_schema.new.shelf) (g.H.Shelf.begun c.load_schema-2.new.shelf) c.load_schema.ensures.begun
    c.load_schema-2.ensures.begun (bytes, has, (j, is))

pub returns-in-Some-Refused-2-clause-begun : goal.returns-in-Some-Refused-2-clause-begun
returns-in-Some-Refused-2-clause-begun g c =
    let first = rw c.in-Some-Read.is at c.in_ok-schema.ensures.says in
    let (same, (bytes, has, (j, is, of))) = rw c.in-Some-Read.field-0-is at first in
    begins_two (g.H.Shelf.told c.args.shelf.now) (encode_utf8_all c.args.first.now) (encode_utf8_all c.args.second.now)
    (encode_utf8_all c.args.certificate.now ∷ []) (g.H.Shelf.begun c.args.shelf.now)
    (g.H.Shelf.begun c.load_schema.new.shelf) (g.H.Shelf.begun c.load_schema-2.new.shelf) c.load_schema.ensures.begun
    c.load_schema-2.ensures.begun (bytes, has, (j, is))

pub returns-in-None-2-clause-begun : goal.returns-in-None-2-clause-begun
returns-in-None-2-clause-begun g c =
    let first = rw c.in-Some-Read.is at c.in_ok-schema.ensures.says in
    let (same, (bytes, has, (j, is, of))) = rw c.in-Some-Read.field-0-is at first in
    begins_two (g.H.Shelf.told c.args.shelf.now) (encode_utf8_all c.args.first.now) (encode_utf8_all c.args.second.now)
    (encode_utf8_all c.args.certificate.now ∷ []) (g.H.Shelf.begun c.args.shelf.now)
    (g.H.Shelf.begun c.load_schema.new.shelf) (g.H.Shelf.begun c.load_schema-2.new.shelf) c.load_schema.ensures.begun
    c.load_schema-2.ensures.begun (bytes, has, (j, is))

pub returns-clause-begun : goal.returns-clause-begun
returns-clause-begun g c =
    let first = rw c.in-Some-Read.is at c.in_ok-schema.ensures.says in
    let (same, (bytes, has, (j, is, of))) = rw c.in-Some-Read.field-0-is at first in
    let second = rw c.in-Some-Read-2.is at c.in_ok-schema-2.ensures.says in
    let (again, (others, has_others, (k, is', of'))) = rw c.in-Some-Read-2.field-0-is at second in
    let on : IsSchemaOn (g.H.Shelf.told c.args.shelf.now) (encode_utf8_all c.args.second.now) =
    subst (λ t. IsSchemaOn t (encode_utf8_all c.args.second.now)) c.in_ok-schema.ensures.told
    (others, has_others, (k, is')) in
    begins_three (g.H.Shelf.told c.args.shelf.now) (encode_utf8_all c.args.first.now)
    (encode_utf8_all c.args.second.now) (encode_utf8_all c.args.certificate.now) (g.H.Shelf.begun c.args.shelf.now)
    (g.H.Shelf.begun c.load_schema.new.shelf) (g.H.Shelf.begun c.load_schema-2.new.shelf)
    (g.H.Shelf.begun c.check_certificate.new.shelf) c.load_schema.ensures.begun c.load_schema-2.ensures.begun
    (bytes, has, (j, is)) on c.check_certificate.ensures.begun
