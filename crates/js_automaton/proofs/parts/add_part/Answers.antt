use Rattle.std.proofs.Common.{◌≡◌, suc, ◌++◌, ◌∷◌, [], length, sym, ◌∙◌, ap, ap₂, arith, length-append}
use Rattle.word_states.specs.Atom.{Match}
use Rattle.js_nfa.specs.AtomView.{atom_view}
use Rattle.js_automaton.specs.declared.part.Part.TheVariants as P
use Rattle.js_automaton.specs.Parts.{atoms_made, are_placed}
use Rattle.js_automaton.proofs.PartLemmas.{atoms-match, placed-match, placed-words, placed-length}
use Rattle.js_automaton.proofs.parts.add_part.Goals as goal

pub returns-in_ok-push-in-Match-2-clause-atoms : goal.returns-in_ok-push-in-Match-2-clause-atoms
returns-in_ok-push-in-Match-2-clause-atoms c =
    let ns = c.args.patterns.now.items in
    let ps = c.args.parts.now.items in
    let n = c.in_ok-nfa-in-Match.nfa in
    let long : c.len.result ≡ length ns = omega (arith, c.len.ensures, c.args.patterns.now.ok) in
    ap₂ atoms_made c.in_ok-push-in-Match-2.ensures.items
    (c.in_ok-push-in-Match.ensures.items ∙ ap (λ i. ps ++ P.Match i ∷ []) long)
    ∙ atoms-match ns ps n c.requires
    ∙ ap (λ t. atoms_made ns ps ++ Match t ∷ []) c.in_ok-nfa-in-Match.ensures.tree
    ∙ sym (ap (λ a. atoms_made ns ps ++ atom_view a ∷ []) c.in-Match.is)

pub returns-in_ok-push-in-Match-2-clause-places : goal.returns-in_ok-push-in-Match-2-clause-places
returns-in_ok-push-in-Match-2-clause-places c =
    let ns = c.args.patterns.now.items in
    let ps = c.args.parts.now.items in
    let long : c.len.result ≡ length ns = omega (arith, c.len.ensures, c.args.patterns.now.ok) in
    let more : length c.push-in-Match.new.self.items ≡ suc (length ns) =
    ap length c.in_ok-push-in-Match-2.ensures.items
    ∙ omega (arith, length-append ns (c.in_ok-nfa-in-Match.nfa ∷ [])) in
    ap₂ (are_placed 0) (c.in_ok-push-in-Match.ensures.items ∙ ap (λ i. ps ++ P.Match i ∷ []) long) more
    ∙ placed-match 0 ps (length ns) c.requires

pub returns-in_ok-push-in-Words-clause-places : goal.returns-in_ok-push-in-Words-clause-places
returns-in_ok-push-in-Words-clause-places c =
    let n = length c.args.patterns.now.items in
    ap (λ ps. are_placed 0 ps n) c.in_ok-push-in-Words.ensures.items
    ∙ placed-words 0 c.args.parts.now.items n c.in_ok-list-in-Words.list c.requires

pub returns-in_ok-push-in-LengthMin-clause-places : goal.returns-in_ok-push-in-LengthMin-clause-places
returns-in_ok-push-in-LengthMin-clause-places c =
    let n = length c.args.patterns.now.items in
    ap (λ ps. are_placed 0 ps n) c.in_ok-push-in-LengthMin.ensures.items
    ∙ placed-length 0 c.args.parts.now.items n c.in-LengthMin.n c.requires
