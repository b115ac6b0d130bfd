-- Formed goals, and what a document meets where a list may form none.
use Rattle.std.specs.Prelude.{◌≡◌, List, Bool, true, false, Option, Some, None}
use Rattle.documents.specs.Document.{Document}
use Rattle.positions.specs.Position.{Position}
use Rattle.goals.specs.Signed.{Signed, has, is_rising, meets}
use Rattle.goals.specs.Goal.{is_always, is_never, reference, clashes}

-- no document meets a goal that isn't there: its list clashed
abbrev pub meets_goal : List Position → Option (List Signed) → Document → Bool
meets_goal T None J = false
meets_goal T (Some g) J = meets T g J

-- a goal that forming leaves as it is
pub record IsFormed (T : List Position) (g : List Signed) : Type 0 where
  -- sorted, each signed position once
  pub rising : is_rising g ≡ true
  -- none of its positions has both signs
  pub no_clash : clashes T g ≡ false
  -- none is met by every document, none by no document
  pub none_always : (x : Signed) → has x g ≡ true → is_always T x ≡ false
  pub none_never : (x : Signed) → has x g ≡ true → is_never T x ≡ false
  -- none stands for another signed position
  pub no_reference : (x : Signed) → has x g ≡ true → reference T x ≡ None
