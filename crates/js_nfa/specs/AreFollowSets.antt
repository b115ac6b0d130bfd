-- What follow sets say of a tree.
use Rattle.std.specs.Prelude.{◌≡◌, ℕ, ◌/◌, ◌<◌, Bool, true, false, ◌||◌, length}
use Rattle.patterns.specs.Tree.{Tree}
use Rattle.word_states.specs.Position.{count_of}
use Rattle.state_laws.specs.Flow.{flag_at, ends_here, reads_next}
use Rattle.state_laws.specs.FollowSets.{and_each}
use Rattle.js_pattern_positions.specs.Both.{some_both}
use Rattle.js_nfa.specs.FollowSets.{set_at, by_fours}
use Rattle.js_nfa.specs.declared.follow_sets.FollowSets.{FollowSets}

-- whatever was read, but for a word's first character, they say which positions read a character of ASCII, and whether
-- a match is done
pub record AreFollowSets (t : Tree) (r : FollowSets) : Type 0 where
  pub counted : count_of t ≡ length r.always.flags
  pub next : (c : ℕ) → c < 128 → (read : ℕ → Bool)
      → reads_next t false read c 0 true
      ≡ and_each (by_fours r.always.flags r.fours.items read (length r.fours.items / 16)) (set_at r.having.items c)
  pub done : (read : ℕ → Bool)
      → ends_here t false false read 0 true ≡ (r.done || some_both read (flag_at r.ends.flags) (length r.always.flags))
