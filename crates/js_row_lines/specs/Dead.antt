-- What the lines of a set show, by the rules of the checker.
use Rattle.std.specs.Prelude.{◌≡◌, ℕ, List, [], ◌∷◌, Bool, false, None, Ok}
use Rattle.documents.specs.Kind as K
use Rattle.positions.specs.Position.{Position}
use Rattle.goals.specs.Signed.{Signed}
use Rattle.frames.specs.Frame.{is_at_end}
use Rattle.finders.specs.Strings.{lower, below, strings_of}
use Rattle.certificate_lines.specs.Line.{Line}
use Rattle.verdicts.specs.Duties.{OfSet, run}

-- the bounds of the set don't cross, no limit is passed, and no word is found for it
pub record IsWordless (T : List Position) (S : List Signed) : Type 0 where
  pub bounds : is_at_end (lower T S) (below T S) ≡ false
  pub none : strings_of T S ≡ Ok None

-- the lines leave nothing to show of it: no string meets the set. They cite nothing, so any citations may be allowed
abbrev pub AreDead : List Position → List Signed → List Line → Type 0
AreDead T S ls = IsWordless T S → (cite : ℕ → List Signed → Bool) → run T cite (OfSet K.Text S ∷ []) ls ≡ Ok []
