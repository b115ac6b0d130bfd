use Rattle.js_pointers.specs.TokensView.{names_of}
use Rattle.js_pointers.proofs.GrowthLemmas.{word-table, same_pointers}
use Rattle.js_pointers.proofs.pointers.Pointers.token_number.Goals as goal

pub invariant_of-self : goal.invariant_of-self
invariant_of-self c =
    let t = c.args.self.now in
    record { table = word-table (names_of t.tokens) (names_of c.add.new.self) c.add.ensures.keeps t.steps t.table }

pub returns-clause-same : goal.returns-clause-same
returns-clause-same c =
    let t = c.args.self.now in
    same_pointers (names_of t.tokens) (names_of c.add.new.self) c.add.ensures.keeps t.steps _ t.table
