-- The lines of a certificate, without their text.
use Rattle.std.specs.Prelude.{ℕ, List}
use Rattle.documents.specs.Kind.{Kind}
use Rattle.goals.specs.Signed.{Signed}

-- why a list of signed positions is out: it clashes, or its goal contains the listed goal of that number
pub data Ending : Type 0 where
  Clashes : Ending
  Cites : ℕ → Ending

-- of a filler: it is kept, or it is out
pub data ShortEntry : Type 0 where
  Kept : ShortEntry
  Ends : Ending → ShortEntry

pub data Line : Type 0 where
  -- the version of the format
  Version : Line
  -- so many goals follow
  Goals : ℕ → Line
  Goal : List Signed → Line
  -- the trees of the goal of that number follow
  Entry : ℕ → Line
  At : Kind → Line
  Rule : Signed → Line
  -- both signs of the position are in the set
  Clash : ℕ → Line
  -- the literal is wrong at the kind
  OfKind : Signed → Line
  -- of a set: its bounds are crossed; of a plan: it has too many
  Count : Line
  NoTruth : Line
  NoNumber : Line
  -- so many rows follow
  Strings : ℕ → Line
  -- the targets of a row
  Row : List ℕ → Line
  -- a lower bound of the length for each row
  Least : List ℕ → Line
  -- a plan follows
  Arrays : Line
  -- so many rows and so many bounds of cells follow, and then a plan
  Objects : ℕ → ℕ → Line
  -- a cell, and a bound for each row
  Cap : ℕ → List ℕ → Line
  Split : Line
  OfMember : ℕ → Ending → Line
  OfIndex : ℕ → Ending → Line
  OfTail : ℕ → Ending → Line
  -- an entry for each filler
  Short : List ShortEntry → Line
  End : Line
