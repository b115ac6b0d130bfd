use Rattle.std.proofs.Common.{List, flat_map, map, get_or, sym, ◌∙◌, ap, subst}
use Rattle.word_states.specs.Classes.{class_firsts, dividers}
use Rattle.word_states.specs.WordState.{greatest_least}
use Rattle.js_nfa.specs.View.{tree_of}
use Rattle.js_automaton.specs.declared.part.Part.{Part}
use Rattle.js_automaton.specs.declared.part.Part.TheVariants as P
use Rattle.js_automaton.specs.ClassView.{AreClasses}
use Rattle.js_automaton.specs.Parts.{part_view, part_words}
use Rattle.js_automaton.specs.Trie.{edges_of, ends_at, listed}
use Rattle.js_automaton.proofs.PartLemmas.{words-made, words-at}
use Rattle.js_automaton.proofs.tuples.Tuples.new.Goals as goal

pub invariant_of-result : goal.invariant_of-result
invariant_of-result c =
    let ps = c.in_ok-patterns.parts.items in
    let ts = map tree_of c.in_ok-patterns.patterns.items in
    let same = c.in_ok-patterns.ensures.atoms in
    record {
      places = c.in_ok-patterns.ensures.places;
      nodes =
          c.in_ok-trie.ensures ∙ ap (λ (qs : List Part). edges_of (flat_map part_words qs)) c.deref.ensures.value
          ∙ sym (ap edges_of (words-made ts ps));
      found = λ n k.
          c.in_ok-ends.ensures n k
          ∙ ap (λ (qs : List Part). ends_at (flat_map part_words qs) (part_words (get_or qs k (P.Length 0))) n)
          c.deref-2.ensures.value
          ∙ sym (ap (λ all. ends_at all (part_words (get_or ps k (P.Length 0))) n) (words-made ts ps))
          ∙ sym (ap (λ ws. ends_at (listed (map (part_view ts) ps)) ws n) (words-at ts ps k));
      firsts = c.in_ok-classes.ensures.firsts ∙ ap class_firsts (sym same);
      sets =
          subst (λ bs. AreClasses (dividers bs) c.in_ok-classes.classes.items) (sym same)
          c.in_ok-classes.ensures.classes;
      few = c.in_ok-classes.ensures.few;
      greatest = c.longest-longest.ensures ∙ ap greatest_least (sym same);
    }
