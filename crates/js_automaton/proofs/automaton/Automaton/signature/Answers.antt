use Rattle.std.proofs.Common.{◌≡◌, ◌<◌, ◌*◌, ◌+◌, ◌∙◌, [], false, length, map, get_or, sym, ap, arith}
use Rattle.std.proofs.lemmas.List.{length-map}
use Rattle.word_states.specs.Atom.{is_true}
use Rattle.word_states.specs.Rows.{signature_of}
use Rattle.state_laws.specs.Flow.{flag_at}
use Rattle.js_nfa.specs.View.{tree_of}
use Rattle.js_automaton.specs.AutomatonView.{atoms_of, rows_of}
use Rattle.js_automaton.proofs.RowsLemmas.{all-length, states-at, truth-at, truth-words}
use Rattle.js_automaton.proofs.ToldLemmas.{told-at}
use Rattle.js_automaton.proofs.automaton.Automaton.signature.Goals as goal

pub index-requires : goal.index-requires
index-requires c =
    let a = c.args.self.now in
    let e = all-length (atoms_of a) a.states.keys a.targets.items a.found in omega (arith, e, c.requires.row)

pub truth-requires-clause-made : goal.truth-requires-clause-made
truth-requires-clause-made c =
    let a = c.args.self.now in (
      get_or (rows_of a) c.args.row [],
      states-at (atoms_of a) a.states.keys (rows_of a) c.args.row c.index.result.now a.found.1.3 c.requires.row
          c.index.ensures,
    )

-- ---- by its state
truth : (c : goal.After-truth) → c.truth.result
    ≡ get_or (signature_of (atoms_of c.args.self.now)
    (get_or (rows_of c.args.self.now) c.args.row [])) c.args.atom false
truth c =
    let a = c.args.self.now in
    let w = get_or (rows_of a) c.args.row [] in
    let s = states-at (atoms_of a) a.states.keys (rows_of a) c.args.row c.index.result.now a.found.1.3 c.requires.row
    c.index.ensures in
    truth-at (atoms_of a) a.states.keys a.targets.items a.found c.args.atom w c.truth.result c.requires.atom
    (c.truth.ensures w s)

pub returns-in-None-clause-signature : goal.returns-in-None-clause-signature
returns-in-None-clause-signature c = truth c

pub returns-in-None-clause-words : goal.returns-in-None-clause-words
returns-in-None-clause-words c =
    let a = c.args.self.now in
    truth-words (atoms_of a) a.states.keys a.targets.items a.found c.args.row c.args.atom c.truth.result
    c.requires.atom (truth c)

-- ---- by a bit
told : (c : goal.After-contains) → c.contains.result
    ≡ get_or (signature_of (atoms_of c.args.self.now)
    (get_or (rows_of c.args.self.now) c.args.row [])) c.args.atom false
told c =
    let a = c.args.self.now in
    let ns = a.tuples.patterns.items in
    let w = get_or (rows_of a) c.args.row [] in
    let place = c.in-Some.place in
    let long = length-map ns tree_of in
    let within : place < length (map tree_of ns) = omega (arith, c.in-Some.ensures.0, long) in
    truth-at (atoms_of a) a.states.keys a.targets.items a.found c.args.atom w c.contains.result c.requires.atom
    (c.contains.ensures
    ∙ ap (λ n. flag_at a.told.flags (c.args.row * n + place)) (c.count_patterns.ensures ∙ sym long)
    ∙ told-at (atoms_of a) (map tree_of ns) a.states.keys a.told.flags (rows_of a) c.args.row place a.tells a.found.1.3
    c.requires.row within
    ∙ sym (ap (λ x. is_true x w) c.in-Some.ensures.1))

pub returns-in-Some-clause-signature : goal.returns-in-Some-clause-signature
returns-in-Some-clause-signature c = told c

pub returns-in-Some-clause-words : goal.returns-in-Some-clause-words
returns-in-Some-clause-words c =
    let a = c.args.self.now in
    truth-words (atoms_of a) a.states.keys a.targets.items a.found c.args.row c.args.atom c.contains.result
    c.requires.atom (told c)
