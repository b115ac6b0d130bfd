use Rattle.std.proofs.Common.{◌≡◌, ℕ, ◌+◌, ◌-◌, ◌*◌, ◌<◌, length, get_or, false, cond}
use Rattle.std.specs.List.{sum}
use Rattle.js_row_words.specs.CounterView.{atoms_of, rows_of}
use Rattle.js_row_words.specs.Labels.{AreCut, IsSettled, HaveWords}
use Rattle.js_row_words.proofs.count.WordCounter.settle.Given as goal

abbrev pub invariant-loop-rising : goal.invariant-loop-rising
invariant-loop-rising l = record {
  size : length l.labels ≡ length l.initial.labels;
  cut : AreCut l.labels;
  words : HaveWords (atoms_of l.self) (rows_of l.self) l.marks l.initial.labels
      → HaveWords (atoms_of l.self) (rows_of l.self) l.marks l.labels;
  others : (r : ℕ) → ((i : ℕ) → i < length l.list → get_or l.list i 0 ≡ r → ⊥)
      → get_or l.labels r 0 ≡ get_or l.initial.labels r 0;
  settled : l.rising ≡ false → (i : ℕ) → i < length l.list
      → IsSettled (atoms_of l.self) (rows_of l.self) l.marks l.labels (get_or l.list i 0);
}

abbrev pub decreases-loop-rising : goal.decreases-loop-rising
decreases-loop-rising l = length l.labels * 65537 - sum l.labels + cond l.rising 1 0
