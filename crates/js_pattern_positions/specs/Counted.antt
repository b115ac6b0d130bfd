-- Positions, counted up to one past the most that are allowed.
use Rattle.std.specs.Prelude.{ℕ, min}
use Rattle.patterns.specs.Tree.{Tree}
use Rattle.word_states.specs.Position.{count_of}

abbrev pub counted : Tree → ℕ
counted t = min (count_of t) 16385
