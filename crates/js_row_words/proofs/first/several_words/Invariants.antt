-- All words with fewer letters are gone through.
use Rattle.std.proofs.Common.{◌-◌, length}
use Rattle.finders.specs.WordsFound.{far}
use Rattle.js_automaton.specs.AutomatonView.{atoms_of, rows_of}
use Rattle.js_row_words.proofs.Listing.{IsListing}
use Rattle.js_row_words.proofs.first.several_words.Given as goal

abbrev pub invariant-loop-alloc : goal.invariant-loop-alloc
invariant-loop-alloc l = IsListing (atoms_of l.automaton) (rows_of l.automaton) l.automaton.found.1.0 l.marks l.count
    l.words.items l.lengths.items

abbrev pub decreases-loop-alloc : goal.decreases-loop-alloc
decreases-loop-alloc l = far - length l.lengths.items
