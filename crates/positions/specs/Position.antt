-- Positions of a core table, each a condition on a document that may name others by their numbers.
use Rattle.std.specs.Prelude.{ℕ, zero, suc, ◌^◌, ◌-◌, ℤ, pos, negsuc, int_le, List, [], ◌∷◌, length, Bool, true, ◌&&◌, nat_lt, nat_eq, get_or, Option, Some, None}
use Rattle.documents.specs.Tests.{every}
use Rattle.documents.specs.Kind.{Kind, Boolean, Number, Text, Array, Object}
use Rattle.patterns.specs.Tree.{Tree}

-- a pattern: its text, and the tree by which it matches
pub record Pattern : Type 0 where
  pub source : List ℕ
  pub tree : Tree

-- a set of names: one name, those that a pattern matches, or all that are none of some names and match none of some
-- patterns
pub data NameSet : Type 0 where
  Named : List ℕ → NameSet
  Matching : Pattern → NameSet
  Others : List (List ℕ) → List Pattern → NameSet

pub data Position : Type 0 where
  -- of documents of every kind
  True : Position
  False : Position
  Same : ℕ → Position
  Not : ℕ → Position
  All : List ℕ → Position
  Any : List ℕ → Position
  One : List ℕ → Position
  Depends : ℕ → ℕ → Position
  Types : List Kind → Position
  -- of truth values
  BoolIs : Bool → Position
  -- of numbers
  NumMin : ℤ → Position
  NumMax : ℤ → Position
  Multiple : ℕ → Position
  NumIn : List ℤ → Position
  -- of strings
  Words : List (List ℕ) → Position
  Match : Pattern → Position
  LengthMin : ℕ → Position
  LengthMax : ℕ → Position
  -- of arrays
  Items : List ℕ → ℕ → Position
  Contains : ℕ → Position
  CountMin : ℕ → Position
  CountMax : ℕ → Position
  -- of objects
  MembersOf : NameSet → ℕ → Position
  Has : List ℕ → Position
  PropsMin : ℕ → Position
  PropsMax : ℕ → Position
  NamesIn : ℕ → Position

-- the kind of a typed position: of documents of the other kinds it holds
abbrev pub speaks_of : Position → Option Kind
speaks_of (BoolIs b) = Some Boolean
speaks_of (NumMin n) = Some Number
speaks_of (NumMax n) = Some Number
speaks_of (Multiple m) = Some Number
speaks_of (NumIn ns) = Some Number
speaks_of (Words ws) = Some Text
speaks_of (Match r) = Some Text
speaks_of (LengthMin n) = Some Text
speaks_of (LengthMax n) = Some Text
speaks_of (Items ps r) = Some Array
speaks_of (Contains q) = Some Array
speaks_of (CountMin n) = Some Array
speaks_of (CountMax n) = Some Array
speaks_of (MembersOf s q) = Some Object
speaks_of (Has w) = Some Object
speaks_of (PropsMin n) = Some Object
speaks_of (PropsMax n) = Some Object
speaks_of (NamesIn q) = Some Object
speaks_of _ = None

-- the position at a place; a table names no place past its end
abbrev pub position_at : List Position → ℕ → Position
position_at [] k = False
position_at (x ∷ xs) zero = x
position_at (x ∷ xs) (suc k) = position_at xs k

-- the positions that speak of the same document
abbrev pub in_place : Position → List ℕ
in_place (Same q) = q ∷ []
in_place (Not q) = q ∷ []
in_place (All qs) = qs
in_place (Any qs) = qs
in_place (One qs) = qs
in_place (Depends h q) = h ∷ q ∷ []
in_place _ = []

-- the positions that speak of its elements, members or names
abbrev pub of_parts : Position → List ℕ
of_parts (Items ps r) = r ∷ ps
of_parts (Contains q) = q ∷ []
of_parts (MembersOf s q) = q ∷ []
of_parts (NamesIn q) = q ∷ []
of_parts _ = []

-- each position that is named is in a table of n positions
abbrev pub names_below : ℕ → Position → Bool
names_below n P = every (λ q. nat_lt q n) (in_place P) && every (λ q. nat_lt q n) (of_parts P)

-- bounds are those of integers of 64 bits, signed or unsigned, or one more or less, as exclusive ones are; and 0
-- divides nothing
abbrev pub in_range : Position → Bool
in_range (NumMin n) = int_le (negsuc (2 ^ 63 - 1)) n && int_le n (pos (2 ^ 64))
in_range (NumMax n) = int_le (negsuc (2 ^ 63)) n && int_le n (pos (2 ^ 64 - 1))
in_range (Multiple m) = nat_lt 0 m
in_range _ = true

-- from place p on, ranks fall from each position to those that it names in place
abbrev pub ranks_fall : List ℕ → ℕ → List Position → Bool
ranks_fall ranks p [] = true
ranks_fall ranks p (x ∷ xs) = every (λ q. nat_lt (get_or ranks q 0) (get_or ranks p 0)) (in_place x)
    && ranks_fall ranks (suc p) xs

-- a table: there are as many ranks as positions, each named position is in it, numbers have their ranges, and ranks
-- fall in place
abbrev pub is_table : List Position → List ℕ → Bool
is_table T ranks =
    nat_eq (length T) (length ranks)
    && every (names_below (length T)) T
    && every in_range T
    && ranks_fall ranks 0 T
