use Rattle.std.proofs.Common.{string_bytes, refl}
use Rattle.js_doc.specs.JsonView.{view}
use Rattle.js_guard.specs.RankedView.{entries_of}
use Rattle.js_input.specs.SchemaReading.{Refused, Read}
use Rattle.js_commands.proofs.GenOutcomeLemmas.{says-decided}
use Rattle.js_commands.proofs.family.compare_values.Goals as goal

pub returns-in-Refused : goal.returns-in-Refused
returns-in-Refused g c =
    let says = rw c.in-Refused.is at c.in_ok-schema.ensures in
    ((Refused (string_bytes c.in-Refused.words), says, refl), tt)

pub returns-in-Read-2 : goal.returns-in-Read-2
returns-in-Read-2 g c =
    let (reads, of) = rw c.in-Read.is at c.in_ok-schema.ensures in
    let (reads', of') = rw c.in-Read-2.is at c.in_ok-b.ensures in
    says-decided (view c.args.first.now) (view c.args.second.now) (entries_of c.in-Read.schema)
    (entries_of c.in-Read-2.b) (record { well_formed = of.well_formed; entries = of.entries })
    (record { well_formed = of'.well_formed; entries = of'.entries }) reads reads' c.in_ok-decided-in-Read-2.decided
    c.in_ok-decided-in-Read-2.ensures.answer c.in_ok-decided-in-Read-2.ensures.certificate
    c.in_ok-decided-in-Read-2.ensures.means c.in_ok-decided-in-Read-2.ensures.counted
