use Rattle.std.proofs.Common.{false, None, string_bytes}
use Rattle.documents.specs.Json.{boolean}
use Rattle.js_guard.specs.RankedView.{entries_of}
use Rattle.std.proofs.lemmas.Result.{IfOk-weaker}
use Rattle.js_inclusion.specs.Nothing.{nothing}
use Rattle.js_inclusion.proofs.NothingLaws.{IsReadAs-false}
use Rattle.js_commands.proofs.IncludeOutcomeLemmas.{comparison-first_refused, comparison-false, schemas-false, says-compared}
use Rattle.js_commands.proofs.FileLemmas.{OnErr-anyway}
use Rattle.js_commands.proofs.include.compare_with_false.Goals as goal

pub returns-in-Some-Refused-clause-says : goal.returns-in-Some-Refused-clause-says
returns-in-Some-Refused-clause-says g c =
    let says = rw c.in-Some-Refused.is at c.in_ok-a.ensures.says in
    let (same, (bytes, has, is)) = rw c.in-Some-Refused.field-0-is at says in (
      same,
      comparison-first_refused (g.H.Shelf.told c.args.shelf.now) c.args.first.now None bytes
          (string_bytes c.in-Some-Refused.words) has is,
      tt,
    )

pub returns-in-Some-Read-clause-says : goal.returns-in-Some-Read-clause-says
returns-in-Some-Read-clause-says g c =
    let first = rw c.in-Some-Read.is at c.in_ok-a.ensures.says in
    let (same, (bytes, has, (x, is, of))) = rw c.in-Some-Read.field-0-is at first in
    IfOk-weaker c.compared_with_false.result _ _ (λ f h.
    says-compared (g.H.Shelf.told c.args.shelf.now) c.args.first.now None x (boolean false)
    (entries_of c.in-Some-Read.a) nothing (record { well_formed = of.well_formed; entries = of.entries })
    IsReadAs-false (schemas-false (g.H.Shelf.told c.args.shelf.now) c.args.first.now bytes x has is)
    (comparison-false (g.H.Shelf.told c.args.shelf.now) c.args.first.now bytes x has is) _ _ f same h)
    c.compared_with_false.ensures

pub returns-in-Some-Read-clause-memory : goal.returns-in-Some-Read-clause-memory
returns-in-Some-Read-clause-memory g c =
    let first = rw c.in-Some-Read.is at c.in_ok-a.ensures.says in
    let (same, (bytes, has, (x, is, of))) = rw c.in-Some-Read.field-0-is at first in
    OnErr-anyway _ c.compared_with_false.result same
