use Rattle.std.proofs.Common.{length}
use Rattle.js_automaton.proofs.letters.+letters.Given as goal

abbrev pub decreases-letters : goal.decreases-letters
decreases-letters l = length l.atoms.now
