use Rattle.js_outside.proofs.MissesLemmas.{FaultsAreMisses-begins}
use Rattle.js_outside.proofs.memory_shelf.MemoryShelfShelf.begin.Goals as goal

pub invariant_of-self : goal.invariant_of-self
invariant_of-self c =
    FaultsAreMisses-begins c.self.inside.stock c.begin.new.self c.args.name.now c.begin.result c.self.invariant
    c.begin.ensures
