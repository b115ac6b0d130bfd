-- Plans by which the truths of positions at a name are found one after another.
use Rattle.std.specs.Prelude.{◌≡◌, ℕ, List, [], ◌∷◌, ◌++◌, flat_map, length, Bool, true, false, not, ◌&&◌, nat_eq, nat_lt, nat_le, get_or}
use Rattle.documents.specs.Tests.{every, some}
use Rattle.word_states.specs.Atom.{Atom}
use Rattle.word_states.specs.Mention.{mention_all}
use Rattle.positions.specs.Position.{Position, Words, Match, LengthMin, LengthMax, position_at}
use Rattle.name_truths.specs.NameTruth.{asked_of_string, own_atoms}

pub record Plan : Type 0 where
  -- the position whose truth the plan finds
  pub root : ℕ
  -- the positions that are an atom, or say that a word hasn't one
  pub leaves : List ℕ
  -- the other positions
  pub inner : List ℕ

abbrev pub is_leaf : Position → Bool
is_leaf (Words ws) = true
is_leaf (Match r) = true
is_leaf (LengthMin n) = not (nat_eq n 0)
is_leaf (LengthMax n) = true
is_leaf _ = false

abbrev pub has_place : List ℕ → ℕ → Bool
has_place qs q = some (nat_eq q) qs

-- each position depends only on such as are seen before it
abbrev pub asks_earlier : List Position → List ℕ → List ℕ → Bool
asks_earlier T seen [] = true
asks_earlier T seen (p ∷ ps) =
    every (has_place seen) (asked_of_string (position_at T p)) && asks_earlier T (seen ++ p ∷ []) ps

pub record IsPlan (T : List Position) (plan : Plan) : Type 0 where
  -- its positions are in the table, and the root is among them
  pub leaves_within : every (λ q. nat_lt q (length T)) plan.leaves ≡ true
  pub inner_within : every (λ q. nat_lt q (length T)) plan.inner ≡ true
  pub has_root : has_place (plan.leaves ++ plan.inner) plan.root ≡ true
  -- leaves are those that are an atom
  pub leaves_only : every (λ q. is_leaf (position_at T q)) plan.leaves ≡ true
  pub inner_only : every (λ q. not (is_leaf (position_at T q))) plan.inner ≡ true
  -- the others depend on leaves and those before them
  pub ordered : asks_earlier T plan.leaves plan.inner ≡ true

-- the atoms of positions, one after another
abbrev pub atoms_of : List Position → List ℕ → List Atom
atoms_of T qs = flat_map (λ q. own_atoms (position_at T q)) qs

-- whichever atoms count as the same, both lists mention the same ones in the same order
abbrev pub SameMentions : List Atom → List Atom → Type 0
SameMentions xs ys =
    (same : Atom → Atom → Bool) → ((a : Atom) → same a a ≡ true) → (L : List Atom)
    → mention_all same L xs ≡ mention_all same L ys

-- the ranks of positions never fall
abbrev pub rises : List ℕ → List ℕ → Bool
rises ranks [] = true
rises ranks (p ∷ ps) = every (λ q. nat_le (get_or ranks p 0) (get_or ranks q 0)) ps && rises ranks ps
