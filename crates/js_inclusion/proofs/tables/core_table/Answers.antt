use Rattle.js_guard.specs.RankedView.{entries_of}
use Rattle.js_inclusion.proofs.TableLaws.{made-filled}
use Rattle.js_inclusion.proofs.tables.core_table.Goals as goal

pub returns-clause-filled : goal.returns-clause-filled
returns-clause-filled c =
    made-filled (λ t. t.positions) c.normalise.result (entries_of c.args.schema.now) c.args.schema.now.ranks
    c.len.ensures.table c.args.schema.now.falls c.normalise.ensures.positions c.normalise.ensures.small
