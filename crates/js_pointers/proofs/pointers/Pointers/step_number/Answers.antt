use Rattle.std.proofs.Common.{◌&&◌, nat_eq}
use Rattle.js_pointers.specs.TokensView.{names_of}
use Rattle.js_pointers.proofs.GrowthLemmas.{inserted, step-table, step-grows, step-number}
use Rattle.js_pointers.proofs.pointers.Pointers.step_number.Goals as goal

pub invariant_of-self : goal.invariant_of-self
invariant_of-self c =
    let t = c.args.self.now in
    record {
      table = step-table (names_of t.tokens) t.steps t.table t.tokens.are_names
          c.args.of c.args.token c.requires.of c.requires.token
          c.add.new.self
          (inserted (λ a b. nat_eq a.0 b.0 && nat_eq a.1 b.1) t.steps c.add.new.self
          (c.args.of, c.args.token) c.add.result c.add.ensures.keys c.add.ensures.err);
    }

pub returns-clause-grows : goal.returns-clause-grows
returns-clause-grows c =
    let t = c.args.self.now in
    step-grows (names_of t.tokens) t.steps t.table t.tokens.are_names
    c.args.of c.args.token c.requires.of c.requires.token
    c.add.new.self
    (inserted (λ a b. nat_eq a.0 b.0 && nat_eq a.1 b.1) t.steps c.add.new.self
    (c.args.of, c.args.token) c.add.result c.add.ensures.keys c.add.ensures.err)

pub returns-clause-number : goal.returns-clause-number
returns-clause-number c =
    let t = c.args.self.now in
    step-number (names_of t.tokens) t.steps t.table t.tokens.are_names
    c.args.of c.args.token c.requires.of c.requires.token
    c.add.new.self _ c.in_ok-index.ensures.keys c.in_ok-index.ensures.index
