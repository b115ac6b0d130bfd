-- Expansions: alternatives in order with the first limit that was passed, and how answers branch by branch are kept.
use Rattle.std.specs.Prelude.{ℕ, ◌+◌, List, [], ◌∷◌, ◌++◌, length, Bool, ◌&&◌, cond, nat_eq, nat_lt, Option, Some, None, Result, Ok, Err}
use Rattle.documents.specs.Tests.{some}
use Rattle.documents.specs.Kind.{Kind, same_kind}
use Rattle.goals.specs.Signed.{Signed}
use Rattle.alternatives.specs.Limit.{LimitKind, Width, Places, most_width, most_places}
use Rattle.alternatives.specs.Alternative.{Alternative, named, places}

pub record Expansion : Type 0 where
  pub alternatives : List Alternative
  -- the first limit that left alternatives out
  pub hole : Option LimitKind

abbrev pub expansion_of : List Alternative → Option LimitKind → Expansion
expansion_of alternatives hole = record { alternatives = alternatives; hole = hole }

-- without alternatives, and without a hole
abbrev pub nothing : Expansion
nothing = expansion_of [] None

-- one of the alternatives is of that branch
abbrev pub names_branch : Expansion → Kind → ℕ → Bool
names_branch e t k = some (λ a. same_kind t a.kind && nat_eq k a.branch) e.alternatives

-- the limit that was passed first
abbrev pub first_limit : Option LimitKind → LimitKind → Option LimitKind
first_limit None k = Some k
first_limit (Some j) k = Some j

-- nothing is kept of a branch that passes a limit
abbrev pub with_limit : Expansion → LimitKind → Expansion
with_limit e k = expansion_of e.alternatives (first_limit e.hole k)

abbrev pub is_wide : List Signed → Bool
is_wide g = nat_lt most_width (length g)

-- with the answer of one more branch: the limit that it passes, or its alternatives. These are kept all or none: none
-- where one of them names a goal that is too wide, and else none where there would be too many places
abbrev pub keep : Expansion → Result (List Alternative) LimitKind → Expansion
keep e (Err k) = with_limit e k
keep e (Ok more) =
    cond (some is_wide (named more)) (with_limit e Width)
    (cond (nat_lt most_places (places e.alternatives + places more)) (with_limit e Places)
    (expansion_of (e.alternatives ++ more) e.hole))

-- the answers of all branches in order
abbrev pub keep_all : Expansion → List (Result (List Alternative) LimitKind) → Expansion
keep_all e [] = e
keep_all e (r ∷ rs) = keep_all (keep e r) rs
