-- What has been appended and named so far, and what a maker does to it.
use Rattle.std.specs.Prelude.{ℕ, ◌+◌, List, [], ◌++◌, length}
use Rattle.positions.specs.Position.{Position}
use Rattle.normal_forms.specs.Nodes.{Maker}
use Rattle.normal_forms.specs.NormalForm.{numbered}

-- nodes behind `first` entries with their ranks, the rank of the entry whose nodes are made, and the numbers that are
-- named
pub record State : Type 0 where
  pub first : ℕ
  pub rank : ℕ
  pub nodes : List Position
  pub ranks : List ℕ
  pub named : List ℕ

-- the number of the next node
abbrev pub next : State → ℕ
next s = s.first + length s.nodes

abbrev pub empty : ℕ → State
empty n = record { first = n; rank = 0; nodes = []; ranks = []; named = [] }

abbrev pub with_named : List ℕ → State → State
with_named qs s = record { first = s.first; rank = s.rank; nodes = s.nodes; ranks = s.ranks; named = qs }

-- nothing is named yet, and nodes get that entry's ranks
abbrev pub of_entry : ℕ → State → State
of_entry r s = record { first = s.first; rank = r; nodes = s.nodes; ranks = s.ranks; named = [] }

-- a maker's positions are appended, and its numbers are named
unfoldable pub run : Maker → State → State
run f s = record {
  first = s.first;
  rank = s.rank;
  nodes = s.nodes ++ (f (next s)).added;
  ranks = s.ranks ++ numbered s.rank (next s) (f (next s)).added;
  named = s.named ++ (f (next s)).named;
}
