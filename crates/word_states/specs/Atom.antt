-- Atoms: conditions on a word. A word is a list of scalar values.
use Rattle.std.specs.Prelude.{ℕ, List, Bool, nat_eq, nat_le, length}
use Rattle.std.specs.List.{list_any}
use Rattle.std.specs.Cmp.Lexicographic.{pointwise}
use Rattle.patterns.specs.Tree.{Tree}
use Rattle.patterns.specs.Decision.{finds}

pub data Atom : Type 0 where
  -- the pattern matches somewhere in the word
  Match : Tree → Atom
  -- the word is one of these
  Words : List (List ℕ) → Atom
  -- the word has so many characters at least
  LengthMin : ℕ → Atom

abbrev pub same_word : List ℕ → List ℕ → Bool
same_word = pointwise nat_eq

-- the atom is true of the word
abbrev pub is_true : Atom → List ℕ → Bool
is_true (Match t) w = finds t w
is_true (Words ws) w = list_any (same_word w) ws
is_true (LengthMin n) w = nat_le n (length w)
