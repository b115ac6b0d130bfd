-- The sets in which the program finds words and numbers.
use Rattle.std.specs.Prelude.{◌≡◌, ℕ, ℤ, List, String, chars, IsUtf8}
use Rattle.std.specs.Ordering.{int_cmp, int_eq}
use Rattle.std.specs.BTreeSet.{BTreeSet, contains, contains_text}
use Rattle.documents.specs.Tests.{some, same_word}

-- the set has these words, and nothing else
abbrev pub AreWords : {Y : Type 0} → List (List ℕ) → BTreeSet (String Y) → Type 0
AreWords words set =
    (bytes : List ℕ) → IsUtf8 bytes → contains_text set bytes ≡ some (same_word (chars bytes)) words

-- the set has these numbers, and nothing else
abbrev pub AreNumbers : List ℤ → BTreeSet ℤ → Type 0
AreNumbers numbers set = (n : ℤ) → contains int_cmp set n ≡ some (int_eq n) numbers
