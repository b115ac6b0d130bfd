-- Plain words, which are always taken, and the command that each of them gives.
use Rattle.std.specs.Prelude.{◌==◌, ◌&&◌, ℕ, Bool, false, not, List, [], ◌∷◌, ◌++◌, Option, Some, codes, is_some, unwrap_or}
use Rattle.families.specs.Families.{Family, family_word, greatest}
use Rattle.js_words.specs.Commands.{Command, Sat, Include, Valid, Check, Norm, Gen}
use Rattle.js_words.specs.Numbers.{number_in}

-- how the number of workers is given: not at all, as two words, or joined by `=`
pub data Given : Type 0 where
  absent : Given
  apart : List ℕ → Given
  joined : List ℕ → Given

-- the word of a command with its names, or with a family and a number, and how the number of workers is given
pub data Plain : Type 0 where
  plain_sat : List ℕ → Given → Plain
  plain_include : List ℕ → List ℕ → Given → Plain
  plain_valid : List ℕ → List ℕ → Plain
  plain_check : List ℕ → List ℕ → List ℕ → Given → Plain
  plain_norm : List ℕ → Plain
  plain_gen : Family → List ℕ → Given → Plain

abbrev pub workers_words : Given → List (List ℕ)
workers_words absent = []
workers_words (apart n) = codes "--workers" ∷ n ∷ []
workers_words (joined n) = (codes "--workers=" ++ n) ∷ []

abbrev pub words_of : Plain → List (List ℕ)
words_of (plain_sat a w) = codes "sat" ∷ a ∷ workers_words w
words_of (plain_include a b w) = codes "include" ∷ a ∷ b ∷ workers_words w
words_of (plain_valid a d) = codes "valid" ∷ a ∷ d ∷ []
words_of (plain_check a b c w) = codes "check" ∷ a ∷ b ∷ c ∷ workers_words w
words_of (plain_norm a) = codes "norm" ∷ a ∷ []
words_of (plain_gen f n w) = codes "gen" ∷ family_word f ∷ n ∷ workers_words w

-- not empty, and not beginning with `-` (45)
abbrev pub is_plain_name : List ℕ → Bool
is_plain_name [] = false
is_plain_name (x ∷ xs) = not (x == 45)

abbrev pub workers_of : Given → Option ℕ
workers_of absent = Some 1
workers_of (apart n) = number_in 1 64 n
workers_of (joined n) = number_in 1 64 n

-- the names are plain, and each number is a plain decimal and in its range
abbrev pub is_plain : Plain → Bool
is_plain (plain_sat a w) = is_plain_name a && is_some (workers_of w)
is_plain (plain_include a b w) = is_plain_name a && (is_plain_name b && is_some (workers_of w))
is_plain (plain_valid a d) = is_plain_name a && is_plain_name d
is_plain (plain_check a b c w) = is_plain_name a && (is_plain_name b && (is_plain_name c && is_some (workers_of w)))
is_plain (plain_norm a) = is_plain_name a
is_plain (plain_gen f n w) = is_some (number_in 1 (greatest f) n) && is_some (workers_of w)

abbrev pub meant : Plain → Command
meant (plain_sat a w) = Sat a (unwrap_or (workers_of w) 1)
meant (plain_include a b w) = Include a b (unwrap_or (workers_of w) 1)
meant (plain_valid a d) = Valid a d
meant (plain_check a b c w) = Check a b c (unwrap_or (workers_of w) 1)
meant (plain_norm a) = Norm a
meant (plain_gen f n w) = Gen f (unwrap_or (number_in 1 (greatest f) n) 1) (unwrap_or (workers_of w) 1)
