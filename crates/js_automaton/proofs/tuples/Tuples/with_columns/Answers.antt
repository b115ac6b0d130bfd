use Rattle.std.proofs.Common.{◌≡◌, true, List, length, map, sym, ◌∙◌, ap, subst}
use Rattle.std.proofs.lemmas.List.{length-map}
use Rattle.patterns.specs.Tree.{Tree}
use Rattle.word_states.specs.Classes.{class_firsts, dividers}
use Rattle.word_states.specs.WordState.{greatest_least}
use Rattle.js_nfa.specs.View.{tree_of}
use Rattle.js_automaton.specs.ClassView.{AreClasses}
use Rattle.js_automaton.specs.Parts.{are_placed, atoms_made, part_view}
use Rattle.js_automaton.specs.Trie.{AreEnds, edges_of, listed}
use Rattle.js_automaton.proofs.tuples.Tuples.with_columns.Goals as goal

pub invariant_of-result : goal.invariant_of-result
invariant_of-result c =
    let t = c.args.self in
    let old = t.patterns.items in
    let new = c.in_ok-patterns.patterns.items in
    let same = c.in_ok-patterns.ensures in
    let long : length new ≡ length old =
    sym (length-map new tree_of) ∙ ap (length {A = Tree}) same ∙ length-map old tree_of in
    let made : atoms_made new t.parts.items ≡ atoms_made old t.parts.items =
    ap (λ (ts : List Tree). map (part_view ts) t.parts.items) same in
    record {
      places = subst (λ n. are_placed 0 t.parts.items n ≡ true) (sym long) t.places;
      nodes = t.nodes ∙ sym (ap (λ bs. edges_of (listed bs)) made);
      found = subst (λ bs. AreEnds bs t.ends.keys) (sym made) t.found;
      firsts = t.firsts ∙ sym (ap class_firsts made);
      sets = subst (λ bs. AreClasses (dividers bs) t.classes.items) (sym made) t.sets;
      few = t.few;
      greatest = t.greatest ∙ sym (ap greatest_least made);
    }

pub returns : goal.returns
returns c = ap (λ (ts : List Tree). map (part_view ts) c.args.self.parts.items) c.in_ok-patterns.ensures
