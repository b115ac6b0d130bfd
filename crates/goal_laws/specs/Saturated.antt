-- Sets of signed positions that have no further step at a kind.
use Rattle.std.specs.Prelude.{◌≡◌, List, true, false}
use Rattle.documents.specs.Kind.{Kind}
use Rattle.positions.specs.Position.{Position}
use Rattle.goals.specs.Signed.{Signed, opposite, has}
use Rattle.goals.specs.Choices.{choices, is_wrong}
use Rattle.goals.specs.Tree.{has_choice}

pub record IsSaturated (T : List Position) (t : Kind) (S : List Signed) : Type 0 where
  -- no position has both signs
  pub no_clash : (x : Signed) → has x S ≡ true → has (opposite x) S ≡ false
  -- no literal is wrong at the kind
  pub none_wrong : (x : Signed) → has x S ≡ true → is_wrong T t x ≡ false
  -- one choice of each signed position is in the set, unless it is a literal
  pub chosen : (x : Signed) → has x S ≡ true → has_choice S (choices T t x) ≡ true
