-- The goals that an expander takes, how many branches a goal has at a kind, and the cells and words of a branch.
use Rattle.std.specs.Prelude.{ℕ, List, [], ◌∷◌, map, length, Bool, not, ◌&&◌, nat_lt, Option, Some, Result, Ok, Err, get_or}
use Rattle.std.specs.Option.{is_none}
use Rattle.std.specs.List.{range_with_len}
use Rattle.documents.specs.Tests.{every}
use Rattle.documents.specs.Kind as K
use Rattle.documents.specs.Kind.{Kind}
use Rattle.positions.specs.Position.{Position, is_table}
use Rattle.goals.specs.Signed.{Signed, position_of, is_rising}
use Rattle.goals.specs.Goal.{reference, is_always, clashes}
use Rattle.goals.specs.Tree as G
use Rattle.cells.specs.Cells.{Cells}
use Rattle.alternatives.specs.Limit.{LimitKind}
use Rattle.alternatives.specs.Slots.{word_at}
use Rattle.expansions.specs.Leaves.{Finders}

-- forming a list leaves such a goal as it is: it rises, it has no clash, and none of it is met by every document or
-- stands for another signed position
abbrev pub is_formed : List Position → List Signed → Bool
is_formed T g = is_rising g && not (clashes T g) && every (λ x. not (is_always T x) && is_none (reference T x)) g

-- the goal is formed, and each of its positions is in the table
abbrev pub is_goal : List Position → List Signed → Bool
is_goal T g = is_formed T g && every (λ x. nat_lt (position_of x) (length T)) g

-- the goals of a table that has positions
abbrev pub takes : List Position → List ℕ → List Signed → Bool
takes T ranks g = is_table T ranks && nat_lt 0 (length T) && is_goal T g

-- how many branches a goal has at a kind
abbrev pub branch_count : List Position → List Signed → Kind → ℕ
branch_count T g t = length (G.branches (G.steps T t g))

-- the word that is found is alone in cell 0
abbrev pub text_cells : Result (Option (List ℕ)) LimitKind → List (List (List ℕ))
text_cells (Ok (Some w)) = (w ∷ []) ∷ []
text_cells _ = []

-- the names of each cell in order
abbrev pub name_cells : Result Cells LimitKind → List (List (List ℕ))
name_cells (Ok C) = map C.words (range_with_len 0 (length C.vectors))
name_cells (Err k) = []

-- the cells of a set: of names at objects, of the word that is found at strings
abbrev pub set_cells : Finders → Kind → List Signed → List (List (List ℕ))
set_cells F K.Text S = text_cells (F.strings S)
set_cells F K.Object S = name_cells (F.cells S)
set_cells F _ S = []

-- the cells of a branch of a goal by its number, each by its words in order
abbrev pub branch_cells : Finders → List Position → List Signed → Kind → ℕ → List (List (List ℕ))
branch_cells F T g t k = set_cells F t (get_or (G.branches (G.steps T t g)) k [])

-- word k of cell c of a branch of a goal, by the cells of branches
abbrev pub words_by : (List Signed → Kind → ℕ → List (List (List ℕ))) → List Signed → Kind → ℕ → ℕ → ℕ → List ℕ
words_by cells g t b c k = word_at (cells g t b) c k
