-- For each atom the rows of whose words it is true.
use Rattle.std.specs.Prelude.{◌≡◌, ℕ, ◌<◌, List, [], length, get_or, nat_eq}
use Rattle.std.specs.List.{list_any}
use Rattle.word_states.specs.Atom.{Atom}
use Rattle.word_states.specs.Classes.{class_of}
use Rattle.js_said.specs.AtomNumbers.{is_true_at}

-- the atom of that number is true of the words of these rows, and of no others
pub record IsTruth (A : List Atom) (L : List (List ℕ)) (k : ℕ) (rs : List ℕ) : Type 0 where
  pub within : (i : ℕ) → i < length rs → get_or rs i 0 < length L
  pub told : (r : ℕ) → r < length L → list_any (nat_eq r) rs ≡ is_true_at A (get_or L r []) k

pub record AreTruths (A : List Atom) (L lists : List (List ℕ)) : Type 0 where
  pub count : length lists ≡ length A
  pub each : (k : ℕ) → k < length A → IsTruth A L k (get_or lists k [])

-- all are numbers below n
abbrev pub AreWithin : ℕ → List (List ℕ) → Type 0
AreWithin n lists =
    (k i : ℕ) → k < length lists → i < length (get_or lists k []) → get_or (get_or lists k []) i 0 < n

-- the classes of the first characters
abbrev pub AreFirst : List Atom → List ℕ → Type 0
AreFirst A classes = (c : ℕ) → c < length classes → get_or classes c 0 ≡ class_of A c
