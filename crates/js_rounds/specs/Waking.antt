-- A round on the way: what is ready so far, and what was noted of it.
use Rattle.std.specs.Prelude.{◌≡◌, ℕ, suc, ◌+◌, ◌≤◌, ◌<◌, List, [], ◌∷◌, ◌++◌, length, Bool, ◌&&◌, cond, nat_eq, nat_lt, Option, Some, None, get_or, take, drop}
use Rattle.documents.specs.Tests.{some}
use Rattle.goals.specs.Signed.{Signed}
use Rattle.alternatives.specs.Expansion.{Expansion}
use Rattle.search.specs.Explored.{Found}
use Rattle.search.specs.Rounds.{first_place, told, answer}
use Rattle.search.specs.Uses.{in_order, last_within}
use Rattle.js_explore.specs.Exploration.{Exploration}
use Rattle.js_waiting.specs.Counts.{Counts, is_ready, uncounted}
use Rattle.js_waiting.specs.Mentioned.{mentions_of}
use Rattle.js_waiting.specs.Marked.{marked, by_goal}
use Rattle.js_rounds.specs.declared.rounds.Rounds.{Rounds}

-- the first alternative of a goal that is ready
abbrev pub firsts : List (List Counts) → ℕ → Option ℕ
firsts w g = first_place is_ready (get_or w g [])

-- the answer of a goal of which an alternative is met by round r
abbrev pub told_at : ℕ → ℕ → Option (ℕ × ℕ) → Option (ℕ × ℕ)
told_at r a None = Some (r + 1, a)
told_at r a (Some o) = cond (nat_lt r o.0 && nat_lt a o.1) (Some (o.0, a)) (Some o)

-- the goal, where it had no answer
abbrev pub new_goal : ℕ → Option (ℕ × ℕ) → List ℕ
new_goal g None = g ∷ []
new_goal g (Some o) = []

-- what was noted stays
pub record Keeps (r s : Rounds) : Type 0 where
  pub known : length s.known.items ≡ length r.known.items
  pub count : r.count ≤ s.count
  pub order : (k : ℕ) → k ≤ r.count → take k s.order.items ≡ take k r.order.items
  pub has_run : s.has_run ≡ r.has_run
  pub mentions : s.mentions ≡ r.mentions

-- all is the same but the order of what was noted
pub record AreSame (r s : Rounds) : Type 0 where
  pub known : s.known ≡ r.known
  pub count : s.count ≡ r.count
  pub last : s.last ≡ r.last
  pub has_run : s.has_run ≡ r.has_run
  pub waiting : s.waiting ≡ r.waiting
  pub mentions : s.mentions ≡ r.mentions

abbrev pub among : List ℕ → ℕ → Bool
among xs g = some (λ x. nat_eq x g) xs

-- the places that name the goals noted below a place are counted, and no others
pub record IsTaken (e : Exploration) (place : ℕ) (r : Rounds) : Type 0 where
  pub waiting : r.waiting ≡ marked (by_goal (among (take place r.order.items)) e) (uncounted e)
  pub mentions : (m : ℕ) → m < length e.found.goals → get_or r.mentions m [] ≡ mentions_of e m

module _ (expansion : List Signed → Expansion) (f : Found) where
  -- all rounds up to r were run, and of the next one what first alternatives say
  pub record Waking (r : ℕ) (first : ℕ → Option ℕ) (s : Rounds) : Type 0 where
    pub known : (g : ℕ) → get_or s.known.items g None ≡ told r (answer expansion f r g) (first g)
    pub woken : List ℕ
    pub order : take s.count s.order.items ≡ in_order expansion f r ++ woken
    pub last : s.last ≡ cond (nat_lt 0 (length woken)) (suc r) (last_within expansion f r)
