-- What is required of the name of a member.
use Rattle.std.specs.Prelude.{ℕ, List, Bool}
use Rattle.documents.specs.Tests.{same_word}
use Rattle.documents.specs.Document.{string}
use Rattle.positions.specs.Position.{NameSet, Position}
use Rattle.positions.specs.Holds.{in_set, holds}

-- it is one name, it is in a set, or a position holds of it as a string
pub data NameFormula : Type 0 where
  Is : List ℕ → NameFormula
  In : NameSet → NameFormula
  Holds : ℕ → NameFormula

abbrev pub name_meets : List Position → NameFormula → List ℕ → Bool
name_meets T (Is n) w = same_word n w
name_meets T (In s) w = in_set s w
name_meets T (Holds p) w = holds T p (string w)
