use Rattle.std.proofs.Common.{◌≡◌, ◌<◌, ◌*◌, ◌+◌, [], get_or, sym, ◌∙◌, ap, subst, arith}
use Rattle.word_states.specs.Rows.{targets_of}
use Rattle.js_automaton.specs.AutomatonView.{atoms_of, rows_of}
use Rattle.js_automaton.proofs.RowsLemmas.{target-within, target-at, target-below, target-words}
use Rattle.js_automaton.proofs.automaton.Automaton.target.Goals as goal

pub index-requires : goal.index-requires
index-requires c =
    let a = c.args.self.now in
    let within = target-within (atoms_of a) a.states.keys a.targets.items a.found c.args.row c.args.class c.requires.row
    c.requires.class in
    subst (λ n. c.args.row * n + c.args.class < a.targets.len) (sym c.classes.ensures)
    (omega (arith, within, a.targets.ok))

at : (c : goal.After-row_known-1) → c.index.result.now
    ≡ get_or (targets_of (atoms_of c.args.self.now) (rows_of c.args.self.now)
    (get_or (rows_of c.args.self.now) c.args.row [])) c.args.class 0
at c =
    let a = c.args.self.now in
    target-at (atoms_of a) a.states.keys a.targets.items a.found c.args.row c.args.class c.index.result.now
    c.requires.row c.requires.class
    (c.index.ensures
    ∙ ap (λ n. get_or a.targets.items (c.args.row * n + c.args.class) c.index.result.now) c.classes.ensures)

pub returns-clause-target : goal.returns-clause-target
returns-clause-target c = at c

pub returns-clause-within : goal.returns-clause-within
returns-clause-within c =
    let a = c.args.self.now in
    target-below (atoms_of a) a.states.keys a.targets.items a.found c.args.row c.args.class c.index.result.now
    c.requires.row c.requires.class (at c)

pub returns-clause-words : goal.returns-clause-words
returns-clause-words c =
    let a = c.args.self.now in
    target-words (atoms_of a) a.states.keys a.targets.items a.found c.args.row c.args.class c.index.result.now (at c)
