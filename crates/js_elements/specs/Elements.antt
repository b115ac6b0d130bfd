-- What one literal requires of an element by its index.
use Rattle.std.specs.Prelude.{ℕ, List}
use Rattle.positions.specs.Position.{Position}
use Rattle.goals.specs.Signed.{Signed}
use Rattle.frames.specs.Frame.{In}
use Rattle.frames.specs.ArrayFrame as A

-- what a literal requires of the element at an index
abbrev pub asked_at : List Position → ℕ → Signed → List Signed
asked_at T i x = A.each T i (In 0) x

-- what a literal requires of the element at an index that serves it
abbrev pub served_at : List Position → ℕ → Signed → List Signed
served_at T i x = A.serving T i (In 0) x
