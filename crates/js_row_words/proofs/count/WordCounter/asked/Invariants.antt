use Rattle.std.proofs.Common.{◌≡◌, min}
use Rattle.js_row_words.specs.CounterView.{atoms_of, rows_of}
use Rattle.js_row_words.proofs.RaisingLaws.{asked_by_first}
use Rattle.js_row_words.proofs.count.WordCounter.asked.Given as goal

abbrev pub invariant-loop-class : goal.invariant-loop-class
invariant-loop-class l =
    l.asked ≡ min 65537 (asked_by_first (atoms_of l.self) (rows_of l.self) l.marks l.labels l.row l.class)
