-- The lesser of a place and one that may be there.
use Rattle.std.specs.Prelude.{ℕ, min, Option, Some, None}

abbrev pub least_place : ℕ → Option ℕ → ℕ
least_place a None = a
least_place a (Some i) = min a i
