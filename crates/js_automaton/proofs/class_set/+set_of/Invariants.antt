use Rattle.std.proofs.Common.{length}
use Rattle.js_automaton.proofs.class_set.+set_of.Given as goal

abbrev pub decreases-set_of : goal.decreases-set_of
decreases-set_of l = length l.ranges.now
