-- The six kinds of document, in the order in which they are always taken.
use Rattle.std.specs.Prelude.{Bool, true, false, List, [], ◌∷◌}

pub data Kind : Type 0 where
  Null : Kind
  Boolean : Kind
  Number : Kind
  Text : Kind
  Array : Kind
  Object : Kind

abbrev pub all_kinds : List Kind
all_kinds = Null ∷ Boolean ∷ Number ∷ Text ∷ Array ∷ Object ∷ []

abbrev pub same_kind : Kind → Kind → Bool
same_kind Null Null = true
same_kind Boolean Boolean = true
same_kind Number Number = true
same_kind Text Text = true
same_kind Array Array = true
same_kind Object Object = true
same_kind _ _ = false
