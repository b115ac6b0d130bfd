-- The laws, as statements.
use Rattle.std.specs.Prelude.{◌≡◌, ℕ, ◌+◌, ◌<◌, ◌≤◌, Bool, true, false, ◌&&◌, ◌||◌, List}
use Rattle.patterns.specs.Tree.{Tree}
use Rattle.word_states.specs.Position.{count_of, sets_of}
use Rattle.word_states.specs.PatternState.{reading}
use Rattle.state_laws.specs.Flow.{ends_here, reads_next, flag_at, is_among, state_with, next_state, is_accepted}
use Rattle.state_laws.specs.FollowSets.{or_each, and_each, no_flags, sets_have, may_follow, follow_each, ends_each}

-- one function says what one of two says
abbrev pub IsEither : (both one other : ℕ → Bool) → Type 0
IsEither both one other = (p : ℕ) → both p ≡ (one p || other p)

-- a match can end with what either was read, and begin where either says, as it can with the one or the other
abbrev pub EndsJoin : Type 0
EndsJoin =
    (t : Tree) (first last : Bool) (read one other : ℕ → Bool) → IsEither read one other → (base : ℕ) (b d : Bool)
    → ends_here t first last read base (b || d)
    ≡ (ends_here t first last one base b || ends_here t first last other base d)

-- what may follow either set is what may follow the one or the other, position by position
abbrev pub FollowJoins : Type 0
FollowJoins =
    (t : Tree) (first : Bool) (read one other : ℕ → Bool) → IsEither read one other → (base : ℕ) (b d : Bool)
    → may_follow t first read base (b || d)
    ≡ or_each (may_follow t first one base b) (may_follow t first other base d)

-- what reads a character after either set is what reads it after the one or the other
abbrev pub NextJoins : Type 0
NextJoins =
    (t : Tree) (first : Bool) (read one other : ℕ → Bool) (c : ℕ) → IsEither read one other → (base : ℕ) (b d : Bool)
    → reads_next t first read c base (b || d)
    ≡ or_each (reads_next t first one c base b) (reads_next t first other c base d)

-- what reads a character is what may follow, where the set at the position has the character
abbrev pub NextAsksSets : Type 0
NextAsksSets =
    (t : Tree) (first : Bool) (read : ℕ → Bool) (c base : ℕ) (begins : Bool)
    → reads_next t first read c base begins
    ≡ and_each (may_follow t first read base begins) (sets_have (sets_of t) c)

-- no position of so many, from `base` on, was read
abbrev pub IsQuiet : (read : ℕ → Bool) (base count : ℕ) → Type 0
IsQuiet read base count = (p : ℕ) → base ≤ p → p < base + count → read p ≡ false

-- where none of the tree's positions was read, and no match can begin, none can end
abbrev pub NothingEnds : Type 0
NothingEnds =
    (t : Tree) (first last : Bool) (read : ℕ → Bool) (base : ℕ) → IsQuiet read base (count_of t)
    → ends_here t first last read base false ≡ false

-- nothing may follow where nothing was read and nothing begins
abbrev pub NothingFollows : Type 0
NothingFollows =
    (t : Tree) (first : Bool) (read : ℕ → Bool) (base : ℕ) → IsQuiet read base (count_of t)
    → may_follow t first read base false ≡ no_flags (count_of t)

-- nothing reads a character where nothing was read and nothing begins
abbrev pub NothingReads : Type 0
NothingReads =
    (t : Tree) (first : Bool) (read : ℕ → Bool) (c base : ℕ) → IsQuiet read base (count_of t)
    → reads_next t first read c base false ≡ no_flags (count_of t)

-- at each edge: a match can end where it can with one of the positions that were read, or with none
abbrev pub EndsOfEach : Type 0
EndsOfEach =
    (t : Tree) (first last : Bool) (read : ℕ → Bool) (begins : Bool)
    → ends_here t first last read 0 begins ≡ ends_each t first last read begins (count_of t)

-- what may follow is what may follow one of the positions that were read, or may begin
abbrev pub FollowsEach : Type 0
FollowsEach =
    (t : Tree) (first : Bool) (read : ℕ → Bool) (begins : Bool)
    → may_follow t first read 0 begins ≡ follow_each t first read begins (count_of t)

-- and of these, those whose set has the character read it
abbrev pub NextOfEach : Type 0
NextOfEach =
    (t : Tree) (first : Bool) (read : ℕ → Bool) (c : ℕ) (begins : Bool)
    → reads_next t first read c 0 begins
    ≡ and_each (follow_each t first read begins (count_of t)) (sets_have (sets_of t) c)

-- a flag of what two lists have together
abbrev pub FlagsJoin : Type 0
FlagsJoin =
    (xs ys : List Bool) (p : ℕ)
    → (flag_at (or_each xs ys) p ≡ (flag_at xs p || flag_at ys p))
    × (flag_at (and_each xs ys) p ≡ (flag_at xs p && flag_at ys p))

-- what a pattern does in a state is known of follow sets, one a position, and of the sets of characters
pub record StepsByFollowSets : Type 0 where
  -- the state after a character has the flags of the follow sets of the positions read, where the sets of characters
  -- have it
  pub steps : (t : Tree) (first : Bool) (c : ℕ) (ps : List ℕ)
      → next_state t first c (reading ps)
      ≡ state_with t (and_each (follow_each t first (is_among ps) true (count_of t)) (sets_have (sets_of t) c))
  -- a word is done where a match ends with one of its positions, or with none
  pub is_done : (t : Tree) (flags : List Bool)
      → ends_here t false false (flag_at flags) 0 true ≡ ends_each t false false (flag_at flags) true (count_of t)
  -- a word is accepted where a match ends at its end with one of its positions, or with none
  pub accepts : (t : Tree) (first : Bool) (ps : List ℕ)
      → is_accepted t first (reading ps) ≡ ends_each t first true (is_among ps) true (count_of t)
