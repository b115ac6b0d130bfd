use Rattle.js_doc.proofs.PartTables.{part-found}
use Rattle.js_doc.proofs.parts.Parts.get.Goals as goal

pub returns-clause-part : goal.returns-clause-part
returns-clause-part c =
    part-found c.self.inside.parts.items c.args.self.now c.args.id.0 c.index.result c.index-2.result.now
    c.self.invariant.table c.self.view_is c.requires c.index.ensures c.index-2.ensures
