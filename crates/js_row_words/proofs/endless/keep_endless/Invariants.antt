use Rattle.std.proofs.Common.{◌≡◌, ℕ, ◌<◌, ◌+◌, true, false, cond, length, get_or}
use Rattle.std.specs.List.{count_by}
use Rattle.js_automaton.specs.AutomatonView.{atoms_of, rows_of}
use Rattle.js_row_words.specs.Labels.{HasNext, IsPart}
use Rattle.js_row_words.proofs.endless.keep_endless.Given as goal

abbrev pub invariant-loop-falling : goal.invariant-loop-falling
invariant-loop-falling l =
    (length l.left ≡ length l.initial.left)
    × IsPart l.initial.left l.left
    × (l.falling ≡ false → (i : ℕ) → i < length l.list → get_or l.left (get_or l.list i 0) false ≡ true
    → HasNext (atoms_of l.automaton) (rows_of l.automaton) l.left (get_or l.list i 0))

abbrev pub decreases-loop-falling : goal.decreases-loop-falling
decreases-loop-falling l = count_by (λ b. b) l.left + cond l.falling 1 0
