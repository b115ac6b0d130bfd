use Rattle.std.proofs.Common.{◌≡◌, map, take}
use Rattle.js_automaton.specs.ClassView.{first_of}
use Rattle.js_automaton.proofs.classes.firsts.Given as goal

abbrev pub invariant-loop-class : goal.invariant-loop-class
invariant-loop-class l = l.firsts.items ≡ map first_of (take l.class-index l.classes)
