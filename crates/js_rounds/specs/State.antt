-- What rounds hold: before they were run, while they are, and after.
use Rattle.std.specs.Prelude.{◌≡◌, ℕ, suc, ◌+◌, ◌<◌, List, [], ◌∷◌, length, Bool, true, false, cond, nat_eq, Option, Some, None, is_some, get_or, take}
use Rattle.goals.specs.Signed.{Signed}
use Rattle.alternatives.specs.Expansion.{Expansion}
use Rattle.search.specs.Explored.{Found}
use Rattle.search.specs.Rounds.{NumberedPlaced, Numbered, is_met, first_place, alternatives_of, round, answer}
use Rattle.search.specs.Uses.{contents_of, round_before, chosen_in, satisfied, last_round, in_order}
use Rattle.js_explore.specs.Exploration.{Exploration, alternatives_at}
use Rattle.js_waiting.specs.Counts.{uncounted}
use Rattle.js_waiting.specs.Mentioned.{mentions_of}
use Rattle.js_rounds.specs.Seen.{seen}
use Rattle.js_rounds.specs.declared.rounds.Rounds.{Rounds}

-- how many goals have an answer
abbrev pub answered : List (Option (ℕ × ℕ)) → ℕ
answered [] = 0
answered (o ∷ os) = cond (is_some o) 1 0 + answered os

-- how often a number is in a list
abbrev pub times : ℕ → List ℕ → ℕ
times g [] = 0
times g (x ∷ xs) = cond (nat_eq x g) 1 0 + times g xs

-- there is room for n goals; those that have an answer are noted once, and no others
pub record IsRoomy (n : ℕ) (r : Rounds) : Type 0 where
  pub known : length r.known.items ≡ n
  pub order : length r.order.items ≡ n
  pub count : r.count ≡ answered r.known.items
  pub noted : (g : ℕ) → times g (take r.count r.order.items) ≡ cond (is_some (get_or r.known.items g None)) 1 0

-- no round was run
pub record IsNew (n : ℕ) (r : Rounds) : Type 0 where
  pub roomy : IsRoomy n r
  pub none : (g : ℕ) → get_or r.known.items g None ≡ None
  pub count : r.count ≡ 0
  pub last : r.last ≡ 0
  pub has_run : r.has_run ≡ false

-- rounds that were made for n goals; until they are run, nothing is known
pub record IsFor (n : ℕ) (r : Rounds) : Type 0 where
  pub roomy : IsRoomy n r
  pub new : r.has_run ≡ false → IsNew n r

abbrev pub answer_to : Rounds → ℕ → Option (ℕ × ℕ)
answer_to r g = get_or r.known.items g None

-- what the answer's alternative is made of
abbrev pub contents_seen : (ℕ → Bool) → Option Numbered → List NumberedPlaced
contents_seen has None = []
contents_seen has (Some a) = contents_of has a

abbrev pub contents_at : Exploration → Rounds → ℕ → List NumberedPlaced
contents_at e r g =
    contents_seen (seen r.known.items (round_before (answer_to r g))) (chosen_in (alternatives_at e g) (answer_to r g))

-- nothing was counted, and the places that name goals are those of an exploration
pub record IsUncounted (e : Exploration) (r : Rounds) : Type 0 where
  pub waiting : r.waiting ≡ uncounted e
  pub mentions : (m : ℕ) → m < length e.found.goals → get_or r.mentions m [] ≡ mentions_of e m

-- rounds that were made for an exploration
abbrev pub IsMade : Exploration → Rounds → Type 0
IsMade e r = r.has_run ≡ false → IsUncounted e r

module _ (expansion : List Signed → Expansion) (f : Found) where
  -- all rounds up to k were run
  pub record IsAt (k : ℕ) (r : Rounds) : Type 0 where
    pub known : (g : ℕ) → get_or r.known.items g None ≡ answer expansion f k g
    pub order : take r.count r.order.items ≡ in_order expansion f k

  -- all rounds were run
  pub record AreRounds (r : Rounds) : Type 0 where
    pub answers : (g : ℕ) → get_or r.known.items g None ≡ satisfied expansion f g
    pub order : take r.count r.order.items ≡ in_order expansion f (length f.goals)
    pub last : r.last ≡ last_round expansion f

  -- what an answer says: without one no round has the goal; with one, its round has the goal, the round before lacks it
  -- and meets that alternative first
  abbrev pub IsLeast : ℕ → Option (ℕ × ℕ) → Type 0
  IsLeast g None = (k : ℕ) → round expansion f k g ≡ false
  IsLeast g (Some a) = (q : ℕ) × (a.0 ≡ suc q) × (round expansion f (suc q) g ≡ true)
      × (round expansion f q g ≡ false)
      × (first_place (is_met (round expansion f q)) (alternatives_of expansion f g) ≡ Some a.1)
