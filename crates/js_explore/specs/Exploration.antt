-- What was found, with what was answered for each goal that was taken.
use Rattle.std.specs.Prelude.{◌≡◌, ℕ, ◌+◌, ◌<◌, ◌≤◌, List, [], ◌∷◌, ◌++◌, length, Bool, true, ◌||◌, cond, nat_le, nat_lt, Option, Some, None, slice_get}
use Rattle.documents.specs.Tests.{every}
use Rattle.goals.specs.Signed.{Signed}
use Rattle.alternatives.specs.Alternative.{named, places}
use Rattle.alternatives.specs.Limit.{LimitKind}
use Rattle.alternatives.specs.Expansion.{Expansion}
use Rattle.search.specs.Explored.{Found, is_listed, take_answer}
use Rattle.search.specs.Rounds.{Numbered, numbered, alternatives_of, hole_of}

pub record Answer : Type 0 where
  pub alternatives : List Numbered
  pub hole : Option LimitKind

pub record Exploration : Type 0 where
  pub found : Found
  pub answers : List Answer

abbrev pub alternatives_in : Option Answer → List Numbered
alternatives_in None = []
alternatives_in (Some a) = a.alternatives

abbrev pub hole_in : Option Answer → Option LimitKind
hole_in None = None
hole_in (Some a) = a.hole

-- a goal without an answer has no alternatives and no hole
abbrev pub alternatives_at : Exploration → ℕ → List Numbered
alternatives_at e n = alternatives_in (slice_get e.answers n)

abbrev pub hole_at : Exploration → ℕ → Option LimitKind
hole_at e n = hole_in (slice_get e.answers n)

-- the answers are those of an expansion of each goal, with the numbers of the goals that were found
pub record Explores (expansion : List Signed → Expansion) (e : Exploration) : Type 0 where
  pub alternatives : (n : ℕ) → alternatives_at e n ≡ alternatives_of expansion e.found n
  pub hole : (n : ℕ) → hole_at e n ≡ hole_of expansion e.found n

-- what is kept of an expansion
abbrev pub answer_to : List (List Signed) → Expansion → Answer
answer_to gs x = record { alternatives = numbered gs x.alternatives; hole = x.hole }

abbrev pub exploration : Found → List Answer → Exploration
exploration f answers = record { found = f; answers = answers }

-- a goal that was mentioned: it has a number, or none is left
abbrev pub is_settled : ℕ → List (List Signed) → List Signed → Bool
is_settled most gs g = is_listed gs g || nat_le most (length gs)

module _ (most_goals most_total : ℕ) where
  -- with the expansion of the goal that is taken next
  abbrev pub with_answer : Exploration → Expansion → Exploration
  with_answer e x =
      let f = take_answer most_goals most_total e.found x in
      exploration f (cond (nat_lt most_total (e.found.places + places x.alternatives)) e.answers
      (e.answers ++ answer_to f.goals x ∷ []))

  -- what holds after each answer
  pub record GoesOn (takes : List Signed → Bool) (expansion : List Signed → Expansion) (e : Exploration) : Type 0 where
    pub takes_all : every takes e.found.goals ≡ true
    pub within : e.found.places ≤ most_total
    pub count : length e.answers ≡ e.found.taken
    pub taken : e.found.taken ≤ length e.found.goals
    pub settled : (n : ℕ) (g : List Signed) → n < e.found.taken → slice_get e.found.goals n ≡ Some g
        → every (is_settled most_goals e.found.goals) (named (expansion g).alternatives) ≡ true
    pub answered : (n : ℕ) (g : List Signed) → n < e.found.taken → slice_get e.found.goals n ≡ Some g
        → slice_get e.answers n ≡ Some (answer_to e.found.goals (expansion g))
