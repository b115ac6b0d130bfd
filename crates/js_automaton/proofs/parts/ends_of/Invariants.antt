use Rattle.std.proofs.Common.{flat_map}
use Rattle.js_automaton.specs.Parts.{part_words}
use Rattle.js_automaton.proofs.EndLemmas.{AreEndsBefore}
use Rattle.js_automaton.proofs.parts.ends_of.Given as goal

abbrev pub invariant-loop-place : goal.invariant-loop-place
invariant-loop-place l = AreEndsBefore (flat_map part_words l.parts) l.parts l.ends.keys l.place
