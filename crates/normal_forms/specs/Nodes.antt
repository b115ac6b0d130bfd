-- Positions that are appended to a table. What is appended depends on the number of the first one.
use Rattle.std.specs.Prelude.{ℕ, ◌+◌, List, [], ◌∷◌, ◌++◌, length, Option, Some, None}
use Rattle.positions.specs.Position.{Position}

-- positions that are appended, and the numbers of those that are named by what needs them
pub record Nodes : Type 0 where
  pub added : List Position
  pub named : List ℕ

abbrev pub Maker : Type 0
Maker = ℕ → Nodes

abbrev pub nothing : Maker
nothing n = record { added = []; named = [] }

-- one position, which is named
abbrev pub node : Position → Maker
node P n = record { added = P ∷ []; named = n ∷ [] }

-- an entry is in the table already: it is named, and nothing is appended
abbrev pub entry : ℕ → Maker
entry e n = record { added = []; named = e ∷ [] }

-- the number after what was appended from n on
abbrev pub after : ℕ → Nodes → ℕ
after n a = n + length a.added

abbrev pub joined : Nodes → Nodes → Nodes
joined a b = record { added = a.added ++ b.added; named = a.named ++ b.named }

abbrev pub and_then : ℕ → Nodes → Maker → Nodes
and_then n a g = joined a (g (after n a))

-- one after the other
abbrev pub both : Maker → Maker → Maker
both f g n = and_then n (f n) g

-- a position that names those that it needs, after them; it alone is named further on
abbrev pub needing : (List ℕ → Position) → ℕ → Nodes → Nodes
needing P n a = record { added = a.added ++ P a.named ∷ []; named = after n a ∷ [] }

abbrev pub above : (List ℕ → Position) → Maker → Maker
above P f n = needing P n (f n)

-- for each of a list, in order
abbrev pub each : {A : Type 0} → (A → Maker) → List A → Maker
each f [] = nothing
each f (x ∷ xs) = both (f x) (each f xs)

-- the maker of an option, nothing where there is none
abbrev pub if_some : {A : Type 0} → (A → Maker) → Option A → Maker
if_some f None = nothing
if_some f (Some x) = f x

-- the one number that is named
abbrev pub the_one : List ℕ → ℕ
the_one [] = 0
the_one (q ∷ qs) = q
