-- The number group of a set of signed positions.
use Rattle.std.specs.Prelude.{ℕ, ℤ, pos, ◌+ℤ◌, ◌-ℤ◌, int_le, List, [], ◌∷◌, ◌++◌, cond, Option, Some, None}
use Rattle.positions.specs.Position.{Position, NumMin, NumMax, Multiple, NumIn, position_at}
use Rattle.goals.specs.Signed.{Signed, Plus, Minus}
use Rattle.number_groups.specs.Group.{Group}

-- a requirement on a whole number
pub data Ask : Type 0 where
  AtLeast : ℤ → Ask
  AtMost : ℤ → Ask
  MultipleOf : ℕ → Ask
  NotMultipleOf : ℕ → Ask
  OneOf : List ℤ → Ask
  NoneOf : List ℤ → Ask
  Nothing : Ask

abbrev pub plus_ask : Position → Ask
plus_ask (NumMin n) = AtLeast n
plus_ask (NumMax n) = AtMost n
plus_ask (Multiple m) = MultipleOf m
plus_ask (NumIn ns) = OneOf ns
plus_ask _ = Nothing

abbrev pub minus_ask : Position → Ask
minus_ask (NumMin n) = AtMost (n -ℤ pos 1)
minus_ask (NumMax n) = AtLeast (n +ℤ pos 1)
minus_ask (Multiple m) = NotMultipleOf m
minus_ask (NumIn ns) = NoneOf ns
minus_ask _ = Nothing

abbrev pub ask_at : List Position → Signed → Ask
ask_at T (Plus p) = plus_ask (position_at T p)
ask_at T (Minus p) = minus_ask (position_at T p)

-- a group of two bounds, and one of divisors and sets
abbrev bounded : Option ℤ → Option ℤ → Group
bounded low high =
    record { low = low; high = high; multiples = []; not_multiples = []; sets = []; not_sets = [] }

abbrev divided : List ℕ → List ℕ → Group
divided ms bs =
    record { low = None; high = None; multiples = ms; not_multiples = bs; sets = []; not_sets = [] }

abbrev listed : List (List ℤ) → List (List ℤ) → Group
listed ss ts =
    record { low = None; high = None; multiples = []; not_multiples = []; sets = ss; not_sets = ts }

-- the group that requires nothing
abbrev pub any_number : Group
any_number = bounded None None

-- the group that requires that alone
abbrev pub group_of : Ask → Group
group_of (AtLeast n) = bounded (Some n) None
group_of (AtMost n) = bounded None (Some n)
group_of (MultipleOf m) = divided (m ∷ []) []
group_of (NotMultipleOf m) = divided [] (m ∷ [])
group_of (OneOf ns) = listed (ns ∷ []) []
group_of (NoneOf ns) = listed [] (ns ∷ [])
group_of Nothing = any_number

-- the greater lower bound, where there is one
abbrev pub greater : Option ℤ → Option ℤ → Option ℤ
greater None b = b
greater (Some m) None = Some m
greater (Some m) (Some n) = Some (cond (int_le m n) n m)

-- the lesser upper bound, where there is one
abbrev pub lesser : Option ℤ → Option ℤ → Option ℤ
lesser None b = b
lesser (Some m) None = Some m
lesser (Some m) (Some n) = Some (cond (int_le m n) m n)

-- the group that requires what both require
abbrev pub both : Group → Group → Group
both g h = record {
  low = greater g.low h.low;
  high = lesser g.high h.high;
  multiples = g.multiples ++ h.multiples;
  not_multiples = g.not_multiples ++ h.not_multiples;
  sets = g.sets ++ h.sets;
  not_sets = g.not_sets ++ h.not_sets;
}

-- all that a set requires, in its order
abbrev pub number_group : List Position → List Signed → Group
number_group T [] = any_number
number_group T (x ∷ S) = both (group_of (ask_at T x)) (number_group T S)
