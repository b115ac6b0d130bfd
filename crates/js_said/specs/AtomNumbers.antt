-- Atoms, each once, and their numbers.
use Rattle.std.specs.Prelude.{◌≡◌, ℕ, List, ◌++◌, map, length, get_or, Bool, nat_lt, true}
use Rattle.documents.specs.Tests.{every}
use Rattle.word_states.specs.Atom as W
use Rattle.word_states.specs.Atom.{Atom, is_true}
use Rattle.word_states.specs.Mention.{mention_all}
use Rattle.word_states.specs.SameAtom.{same_atom}

abbrev pub atom_at : List Atom → ℕ → Atom
atom_at A k = get_or A k (W.LengthMin 0)

-- whether the atom of that number is true of a word
abbrev pub is_true_at : List Atom → List ℕ → ℕ → Bool
is_true_at A w k = is_true (atom_at A k) w

abbrev pub are_below : List Atom → List ℕ → Bool
are_below A ks = every (λ k. nat_lt k (length A)) ks

-- these are the numbers of some atoms among all
pub record AreNumbers (A : List Atom) (ks : List ℕ) (xs : List Atom) : Type 0 where
  pub below : are_below A ks ≡ true
  pub atoms : map (atom_at A) ks ≡ xs

-- atoms were taken: with them A became B, and the numbers ks became ls
pub record Takes (A B : List Atom) (ks ls : List ℕ) (xs : List Atom) : Type 0 where
  pub atoms : B ≡ mention_all same_atom A xs
  pub numbers : (ys : List Atom) → AreNumbers A ks ys → AreNumbers B ls (ys ++ xs)
