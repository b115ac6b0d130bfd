-- What columns say of a tree, and what may follow a state.
use Rattle.std.specs.Prelude.{◌≡◌, ℕ, ◌<◌, List, Bool, true, false, ◌||◌, length, get_or, replicate}
use Rattle.patterns.specs.Tree.{Tree}
use Rattle.word_states.specs.Position.{count_of}
use Rattle.word_states.specs.PatternState as states
use Rattle.state_laws.specs.Flow.{flag_at, ends_here, reads_next}
use Rattle.state_laws.specs.FollowSets.{may_follow}
use Rattle.js_pattern_positions.specs.Marks.{Marks}
use Rattle.js_pattern_positions.specs.Both.{some_both}
use Rattle.js_nfa.specs.FollowSets.{set_at}
use Rattle.js_nfa.specs.declared.columns.Columns.{Columns}

-- for a word that isn't empty: which positions read each of the characters where all were read before, and whether a
-- match is done, whatever was read
pub record AreColumns (t : Tree) (r : Columns) : Type 0 where
  pub next : (i : ℕ) → i < length r.having.items → set_at r.having.items i
      ≡ reads_next t false (flag_at (replicate (count_of t) true)) (get_or r.characters.items i 0) 0 true
  pub done : (read : ℕ → Bool)
      → ends_here t false false read 0 true ≡ (r.done || some_both read (flag_at r.ends.flags) (count_of t))

-- the flags are those of what may follow the state, of a word that isn't empty
abbrev pub IsFollow : Tree → states.PatternState → Marks → Type 0
IsFollow t s follows =
    (flags : List Bool) × (s ≡ states.reading (states.numbers_from 0 flags))
    × (Marks.flags follows ≡ may_follow t false (flag_at flags) 0 true)
