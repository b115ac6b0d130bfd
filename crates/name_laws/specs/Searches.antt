-- How the positions that a position depends on are found, those that are waiting being a stack.
use Rattle.std.specs.Prelude.{◌≡◌, ℕ, suc, ◌+◌, List, [], ◌∷◌, ◌++◌, flat_map, length, Bool, true, cond, nat_lt, get_or}
use Rattle.std.specs.List.{AllByRecursion}
use Rattle.documents.specs.Tests.{every}
use Rattle.word_states.specs.Atom.{Atom}
use Rattle.positions.specs.Position.{Position, position_at}
use Rattle.name_truths.specs.NameTruth.{asked_of_string, atoms}
use Rattle.name_laws.specs.Plans.{has_place, atoms_of, SameMentions}

-- the positions to which steps lead from p, in the order in which they are first come to
pub record AreReached (T : List Position) (p : ℕ) (found : List ℕ) : Type 0 where
  pub within : every (λ q. nat_lt q (length T)) found ≡ true
  pub has_root : has_place found p ≡ true
  pub closed : every (λ q. every (has_place found) (asked_of_string (position_at T q))) found ≡ true
  pub atoms : SameMentions (atoms_of T found) (atoms T p)

-- the first of those that are waiting, as far as they are of lesser rank
abbrev pub lower : List ℕ → ℕ → List ℕ → List ℕ
lower ranks v [] = []
lower ranks v (s ∷ waiting) =
    cond (nat_lt (get_or ranks s 0) (get_or ranks v 0)) (s ∷ lower ranks v waiting) []

-- what holds of the atoms that were found and of those of the first that are waiting, holds of all atoms of v
abbrev pub Covers : List Position → List ℕ → List ℕ → List ℕ → ℕ → Type 0
Covers T ranks found waiting v =
    (f : Atom → Bool) → every f (atoms_of T found) ≡ true
    → every f (flat_map (λ q. atoms T q) (lower ranks v waiting)) ≡ true → every f (atoms T v) ≡ true

-- the positions that were found so far, and those that are waiting
pub record IsSearch (T : List Position) (ranks : List ℕ) (p : ℕ) (found waiting : List ℕ) : Type 0 where
  pub within : every (λ q. nat_lt q (length T)) found ≡ true
  pub waiting_within : every (λ q. nat_lt q (length T)) waiting ≡ true
  pub has_root : (f : ℕ → Bool) → every f found ≡ true → every f waiting ≡ true → f p ≡ true
  pub closed : (f : ℕ → Bool) → every f found ≡ true → every f waiting ≡ true
      → every (λ q. every f (asked_of_string (position_at T q))) found ≡ true
  pub atoms : SameMentions (atoms_of T found ++ flat_map (λ q. atoms T q) waiting) (atoms T p)
  pub covered : AllByRecursion (Covers T ranks found waiting) found

-- how many positions those from place k on depend on that weren't found
abbrev pub unseen : List ℕ → ℕ → List Position → ℕ
unseen found k [] = 0
unseen found k (P ∷ Ps) =
    cond (has_place found k) 0 (length (asked_of_string P)) + unseen found (suc k) Ps
