use Rattle.js_row_words.specs.CounterView.{atoms_of, rows_of}
use Rattle.js_row_words.proofs.RaisingLaws.{AreRaised}
use Rattle.js_row_words.proofs.count.WordCounter.sweep.Given as goal

abbrev pub invariant-loop-i : goal.invariant-loop-i
invariant-loop-i l =
    AreRaised (atoms_of l.self) (rows_of l.self) l.marks l.list l.initial.labels l.labels l.rose l.i
