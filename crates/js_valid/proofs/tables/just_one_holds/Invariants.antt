use Rattle.std.proofs.Common.{◌≡◌, cond, not, drop}
use Rattle.documents.specs.Tests.{some}
use Rattle.documents.specs.Measures.{exactly_one}
use Rattle.js_valid.specs.Parts.{flag}
use Rattle.js_valid.proofs.tables.just_one_holds.Given as goal

abbrev pub invariant-loop-entry : goal.invariant-loop-entry
invariant-loop-entry l =
    cond l.found (not (some (flag l.table) (drop l.entry-index l.entries)))
    (exactly_one (flag l.table) (drop l.entry-index l.entries)) ≡ exactly_one (flag l.table) l.entries
