-- The limits of the search, each with what it counts, and the most of it that passes no limit. A least common multiple
-- or a candidate is too large from 2^127 on (`number_groups`).
use Rattle.std.specs.Prelude.{ℕ}

pub data LimitKind : Type 0 where
  -- ends of the tree of a goal at a kind
  Branches : LimitKind
  -- positions, classes and states of the automaton of a branch
  Positions : LimitKind
  Classes : LimitKind
  States : LimitKind
  -- the least number of elements or members
  Counts : LimitKind
  -- the least common multiple of the multiples of a branch, and the next candidate among its numbers
  Multiples : LimitKind
  -- candidates among the numbers of a branch
  Candidates : LimitKind
  -- ends of the plans of a branch
  Plans : LimitKind
  -- signed positions of a goal that an alternative names
  Width : LimitKind
  -- places of the alternatives of one goal
  Places : LimitKind
  -- explored goals, and the places of them all
  Goals : LimitKind
  Total : LimitKind

-- Branches
abbrev pub most_ends : ℕ
most_ends = 16384

-- Positions, Classes and States
abbrev pub most_positions : ℕ
most_positions = 16384

abbrev pub most_classes : ℕ
most_classes = 1024

abbrev pub most_states : ℕ
most_states = 65536

-- Counts
abbrev pub most_counts : ℕ
most_counts = 65536

-- Candidates
abbrev pub most_candidates : ℕ
most_candidates = 65536

-- Plans
abbrev pub most_plans : ℕ
most_plans = 65536

-- Width
abbrev pub most_width : ℕ
most_width = 65536

-- Places
abbrev pub most_places : ℕ
most_places = 1048576

-- Goals and Total
abbrev pub most_goals : ℕ
most_goals = 65536

abbrev pub most_total : ℕ
most_total = 16777216

-- words of a cell are counted up to one more than the greatest lower count that passes no limit
abbrev pub most_words : ℕ
most_words = 65537
