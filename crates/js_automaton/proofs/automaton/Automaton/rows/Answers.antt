use Rattle.std.proofs.Common.{◌≡◌, length, ◌∙◌, arith}
use Rattle.js_automaton.specs.AutomatonView.{atoms_of, rows_of}
use Rattle.js_automaton.proofs.RowsLemmas.{all-length, all-start, all-below, all-own}
use Rattle.js_automaton.proofs.automaton.Automaton.rows.Goals as goal

count : (c : goal.After-len) → c.len.result ≡ length (rows_of c.args.self.now)
count c =
    let a = c.args.self.now in c.len.ensures.len ∙ all-length (atoms_of a) a.states.keys a.targets.items a.found

pub overflow_cast-result : goal.overflow_cast-result
overflow_cast-result c = let e = count c in let few = c.args.self.now.found.1.1 in omega (arith, e, few)

pub returns-clause-count : goal.returns-clause-count
returns-clause-count c = count c

pub returns-clause-limit : goal.returns-clause-limit
returns-clause-limit c = let e = count c in let few = c.args.self.now.found.1.1 in omega (arith, e, few)

pub returns-clause-start : goal.returns-clause-start
returns-clause-start c =
    let a = c.args.self.now in all-start (atoms_of a) a.states.keys a.targets.items a.found

pub returns-clause-words : goal.returns-clause-words
returns-clause-words c = λ w s.
    let a = c.args.self.now in
    let e = count c in
    let l = all-below (atoms_of a) a.states.keys a.targets.items a.found w s in omega (arith, e, l)

pub returns-clause-own : goal.returns-clause-own
returns-clause-own c = λ r l.
    let a = c.args.self.now in
    let e = count c in all-own (atoms_of a) a.states.keys a.targets.items a.found r (omega (arith, e, l))
