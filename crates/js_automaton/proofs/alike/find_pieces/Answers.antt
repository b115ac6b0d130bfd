use Rattle.std.proofs.Common.{subst}
use Rattle.js_automaton.specs.Pieces.{ArePlaces, AreNumbers, are_like}
use Rattle.js_automaton.proofs.DividerLemmas.{numbered-all}
use Rattle.js_automaton.proofs.alike.find_pieces.Goals as goal

pub returns : goal.returns
returns c =
    let letters = c.in_ok-letters.letters in
    let starts = c.in_ok-starts.starts.items in
    let numbers = c.in_ok-numbers.numbers.items in
    numbered-all c.args.atoms.now starts numbers c.in_ok-sets.sets.items letters c.in_ok-starts.ensures.order
    (subst (λ sets. ArePlaces starts (are_like sets letters)) c.deref.ensures.value c.in_ok-starts.ensures.places)
    (subst (λ sets. AreNumbers starts numbers (are_like sets letters)) c.deref-3.ensures.value
    (subst (λ places. AreNumbers places numbers (are_like c.deref-3.result.now letters)) c.deref-2.ensures.value
    c.in_ok-numbers.ensures))
    c.in_ok-sets.ensures c.in_ok-letters.ensures
