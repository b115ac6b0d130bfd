-- The targets of the classes before are right, and the row has its word.
use Rattle.std.proofs.Common.{◌≡◌, ◌<◌, ℕ, [], take, length, get_or, Ok}
use Rattle.word_states.specs.WordState.{have_same_state}
use Rattle.verdicts.specs.RowLines.{targets, extend}
use Rattle.js_check_rows.specs.MentionsView.{atoms_in, words_in}
use Rattle.js_check_rows.proofs.mentions.Mentions.follow.Given as goal

abbrev pub invariant-loop-class : goal.invariant-loop-class
invariant-loop-class l = record {
  tuples : l.self.tuples ≡ l.fn.self.tuples;
  count : l.self.count ≡ l.fn.self.count;
  grown : take (length l.fn.self.list.items) l.self.list.items ≡ l.fn.self.list.items;
  within : (k : ℕ) → k < l.class → get_or l.line k 0 < length l.self.list.items;
  right : targets (have_same_state (atoms_in l.fn.self)) (extend (atoms_in l.fn.self)) [] l.fn.self.count
      (words_in l.fn.self) (take l.class (extend (atoms_in l.fn.self) (get_or (words_in l.fn.self) l.row [])))
      (take l.class l.line)
      ≡ Ok (words_in l.self);
}
