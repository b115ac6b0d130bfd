-- What finds numbers, words and names for the branches of a table, and the expansions of its goals.
use Rattle.std.specs.Prelude.{ℕ, List, Result}
use Rattle.documents.specs.Kind.{Kind}
use Rattle.positions.specs.Position.{Position}
use Rattle.goals.specs.Signed.{Signed}
use Rattle.alternatives.specs.Limit.{LimitKind}
use Rattle.alternatives.specs.Alternative.{Alternative}
use Rattle.alternatives.specs.Expansion.{Expansion}
use Rattle.expansions.specs.Leaves.{Finders, leaf}
use Rattle.expansions.specs.Expansion.{from_branch, expansion}
use Rattle.number_finder.specs.NumbersOf.{numbers_of}
use Rattle.finders.specs.Strings.{strings_of}
use Rattle.finders.specs.Names.{cells_of}
use Rattle.expander_laws.specs.Expander.{branch_cells}

abbrev pub finders : List Position → Finders
finders T = record { numbers = numbers_of T; strings = strings_of T; cells = cells_of T }

-- of a branch by its kind, its number and its set
abbrev pub leaf_of : List Position → Kind → ℕ → List Signed → Result (List Alternative) LimitKind
leaf_of T = leaf (finders T) T

-- the answers of branches, the first of which has that number
abbrev pub from_branches : List Position → Kind → ℕ → List (List Signed) → List (Result (List Alternative) LimitKind)
from_branches T t k Ss = from_branch T (leaf_of T) t k Ss

abbrev pub goal_expansion : List Position → List Signed → Expansion
goal_expansion T g = expansion T (leaf_of T) g

-- the cells of a branch of a goal
abbrev pub cells_at : List Position → List Signed → Kind → ℕ → List (List (List ℕ))
cells_at T g t k = branch_cells (finders T) T g t k
