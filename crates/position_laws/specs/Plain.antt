-- Tables whose positions speak of every document.
use Rattle.std.specs.Prelude.{List, Bool, is_none}
use Rattle.documents.specs.Tests.{every}
use Rattle.positions.specs.Position.{Position, speaks_of}

-- a position that speaks of documents of every kind
abbrev pub is_untyped : Position → Bool
is_untyped P = is_none (speaks_of P)

-- no position is typed: all that such a table requires of a document is its kind
abbrev pub is_plain : List Position → Bool
is_plain T = every is_untyped T
