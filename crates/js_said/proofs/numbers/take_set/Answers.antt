use Rattle.std.proofs.Common.{[], ◌∷◌, map, subst}
use Rattle.word_states.specs.Atom as W
use Rattle.js_nfa.specs.AtomView.{atom_view}
use Rattle.js_pattern.specs.View.{view}
use Rattle.js_said.specs.AtomNumbers.{Takes}
use Rattle.js_said.proofs.Taking.{others_taken, takes_of}
use Rattle.js_said.proofs.numbers.take_set.Goals as goal

pub returns-in_ok-take_patterns-in-Others : goal.returns-in_ok-take_patterns-in-Others
returns-in_ok-take_patterns-in-Others c =
    let A = map atom_view c.args.atoms.now.keys in
    let B = map atom_view c.take_names.new.atoms.keys in
    let C = map atom_view c.take_patterns.new.atoms.keys in
    let ks = c.args.numbers.now.items in
    let ls = c.take_names.new.numbers.items in
    let ms = c.take_patterns.new.numbers.items in
    takes_of A C ks ms c.args.set.now c.in-Others.names c.in-Others.patterns c.in-Others.is
    (others_taken A B C ks ls ms c.in-Others.names c.in-Others.patterns
    (subst (λ z. Takes A B ks ls (map (λ n. W.Words (n ∷ [])) z)) c.as_slice.ensures
    c.in_ok-take_names-in-Others.ensures)
    (subst (λ z. Takes B C ls ms (map (λ r. W.Match (view r.re)) z)) c.as_slice-in-Others.ensures
    c.in_ok-take_patterns-in-Others.ensures))
