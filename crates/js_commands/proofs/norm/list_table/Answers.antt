use Rattle.std.proofs.Common.{string_bytes, refl}
use Rattle.js_guard.specs.RankedView.{entries_of}
use Rattle.js_input.specs.SchemaReading.{Refused}
use Rattle.js_commands.specs.NormOutcome.{SchemaRefused}
use Rattle.js_commands.proofs.NormOutcomeLemmas.{listing-bytes, listing-read}
use Rattle.js_commands.proofs.norm.list_table.Goals as goal

pub returns-in_ok-text_of-in-Some-Read-clause-says :
    goal.returns-in_ok-text_of-in-Some-Read-clause-says
returns-in_ok-text_of-in-Some-Read-clause-says g c =
    let says = rw c.in-Some-Read.is at c.in_ok-schema.ensures.says in
    let (same, (bytes, has, (j, is, of))) = rw c.in-Some-Read.field-0-is at says in (
      same,
      listing-read (g.H.Shelf.told c.args.shelf.now) c.args.name.now bytes
          (string_bytes c.in_ok-text_of-in-Some-Read.field-0) j (entries_of c.in-Some-Read.schema) has is
          of.well_formed of.entries c.in_ok-text_of-in-Some-Read.ensures.text c.in_ok-text_of-in-Some-Read.ensures.means,
    )

pub returns-in-Some-Refused-clause-says : goal.returns-in-Some-Refused-clause-says
returns-in-Some-Refused-clause-says g c =
    let says = rw c.in-Some-Refused.is at c.in_ok-schema.ensures.says in
    let (same, (bytes, has, is)) = rw c.in-Some-Refused.field-0-is at says in (
      same,
      listing-bytes (g.H.Shelf.told c.args.shelf.now) c.args.name.now bytes
          (Refused (string_bytes c.in-Some-Refused.words)) (SchemaRefused (string_bytes c.in-Some-Refused.words)) has is refl,
    )
