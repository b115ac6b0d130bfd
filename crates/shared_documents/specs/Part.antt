-- The parts of shared documents: a part is a document whose elements and members are numbers of other parts.
use Rattle.std.specs.Prelude.{◌≡◌, ℕ, suc, ℤ, List, [], ◌∷◌, map, get_or, Bool, true, ◌&&◌, Option, nat_lt, nat_le}
use Rattle.std.specs.List.{find}
use Rattle.documents.specs.Tests.{every, comes_before}

pub data Part : Type 0 where
  null : Part
  boolean : Bool → Part
  number : ℤ → Part
  string : List ℕ → Part
  array : List ℕ → Part
  object : List (List ℕ × ℕ) → Part

-- the numbers of the parts that it names, in order
abbrev pub named : Part → List ℕ
named null = []
named (boolean b) = []
named (number n) = []
named (string s) = []
named (array is) = is
named (object ms) = map (λ m. m.1) ms

-- it names only parts below n
abbrev pub names_below : ℕ → Part → Bool
names_below n p = every (λ i. nat_lt i n) (named p)

-- the first number that it names which isn't below n
abbrev pub first_forward : ℕ → Part → Option ℕ
first_forward n p = find (λ i. nat_le n i) (named p)

-- the name comes before the first name of the members
abbrev pub is_before : List ℕ → List (List ℕ × ℕ) → Bool
is_before k [] = true
is_before k (m ∷ ms) = comes_before k m.0

-- each name comes before the next one
abbrev pub members_rise : List (List ℕ × ℕ) → Bool
members_rise [] = true
members_rise (m ∷ ms) = is_before m.0 ms && members_rise ms

abbrev pub names_rise : Part → Bool
names_rise null = true
names_rise (boolean b) = true
names_rise (number n) = true
names_rise (string s) = true
names_rise (array is) = true
names_rise (object ms) = members_rise ms

-- what holds of the part at place n of a table
pub record IsPart (n : ℕ) (p : Part) : Type 0 where
  pub below : names_below n p ≡ true
  pub rises : names_rise p ≡ true

-- parts numbered from n, each of which names only parts below its own, and members with rising names
abbrev pub is_table_from : ℕ → List Part → Bool
is_table_from n [] = true
is_table_from n (p ∷ ps) = names_below n p && names_rise p && is_table_from (suc n) ps

abbrev pub is_table : List Part → Bool
is_table ps = is_table_from 0 ps

abbrev pub part_at : List Part → ℕ → Part
part_at ps i = get_or ps i null
