-- What lines show by the rules of the checker, where goals without a document have numbers. A goal without a number
-- counts as met.
use Rattle.std.specs.Prelude.{◌≡◌, ℕ, List, [], ◌∷◌, map, Bool, true, false, is_none, Option, Some, None, Ok}
use Rattle.documents.specs.Kind.{Kind, all_kinds}
use Rattle.documents.specs.Tests.{some}
use Rattle.positions.specs.Position.{Position}
use Rattle.goals.specs.Signed.{Signed}
use Rattle.alternatives.specs.Alternative.{Alternative, is_met}
use Rattle.expansions.specs.Leaves.{leaf}
use Rattle.certificate_lines.specs.Line.{Line}
use Rattle.verdicts.specs.Leaves.{crossed}
use Rattle.verdicts.specs.Duties.{AtKind, OfSet, run}
use Rattle.refutations.specs.Expansions.{finders_of, expansion_of}

module _ (number : List Signed → Option ℕ) where
  -- one of the alternatives is met
  abbrev pub some_met : List Alternative → Bool
  some_met all = some (is_met (λ g. is_none (number g))) all

  -- a number may be cited for its goal, as that of a listed goal may
  abbrev pub MayCite : (ℕ → List Signed → Bool) → Type 0
  MayCite cite = (g : List Signed) (k : ℕ) → number g ≡ Some k → cite k g ≡ true

  module _ (T : List Position) where
    -- no limit left out an alternative of the goal, and none is met
    pub record IsUnmet (g : List Signed) : Type 0 where
      pub whole : (expansion_of T g).hole ≡ None
      pub unmet : some_met (expansion_of T g).alternatives ≡ false

    -- then the lines leave nothing to show of it: no document of any kind meets the goal
    abbrev pub AreDead : List Signed → List Line → Type 0
    AreDead g ls =
        IsUnmet g → (cite : ℕ → List Signed → Bool) → MayCite cite
        → run T cite (map (λ t. AtKind t g) all_kinds) ls ≡ Ok []

    -- the bounds of the set don't cross, its alternatives at the kind pass no limit, and none is met
    pub record IsUnmetAt (t : Kind) (S : List Signed) : Type 0 where
      pub bounds : crossed T S t ≡ Some false
      pub alternatives : List Alternative
      pub are : leaf (finders_of T) T t 0 S ≡ Ok alternatives
      pub unmet : some_met alternatives ≡ false

    -- then the lines leave nothing to show of it: no document of the kind meets the set
    abbrev pub AreDeadAt : Kind → List Signed → List Line → Type 0
    AreDeadAt t S ls =
        IsUnmetAt t S → (cite : ℕ → List Signed → Bool) → MayCite cite → run T cite (OfSet t S ∷ []) ls ≡ Ok []
