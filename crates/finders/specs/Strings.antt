-- The word that is found for a set at strings.
use Rattle.std.specs.Prelude.{ℕ, suc, max, List, [], ◌∷◌, ◌++◌, flat_map, length, Bool, not, ◌&&◌, cond, nat_eq, nat_le, Option, Some, None, Result, Ok}
use Rattle.documents.specs.Tests.{every}
use Rattle.word_states.specs.Atom as W
use Rattle.word_states.specs.Atom.{Atom, is_true}
use Rattle.word_states.specs.Classes.{characters}
use Rattle.positions.specs.Position.{Position, Words, Match, LengthMin, LengthMax, position_at}
use Rattle.goals.specs.Signed.{Signed, Plus, Minus, position_of}
use Rattle.frames.specs.Frame.{is_at_end}
use Rattle.frames.specs.ArrayFrame.{lesser}
use Rattle.alternatives.specs.Limit.{LimitKind, most_states}
use Rattle.finders.specs.Once.{once}
use Rattle.finders.specs.Limits.{limit_passed, unless_passed}
use Rattle.finders.specs.WordsFound.{far, words_found, first_of}

-- at least so many characters, and fewer than that many

abbrev pub plus_lower : Position → ℕ
plus_lower (LengthMin n) = n
plus_lower _ = 0

abbrev pub minus_lower : Position → ℕ
minus_lower (LengthMax n) = suc n
minus_lower _ = 0

abbrev pub lower_at : List Position → Signed → ℕ
lower_at T (Plus p) = plus_lower (position_at T p)
lower_at T (Minus p) = minus_lower (position_at T p)

abbrev pub lower : List Position → List Signed → ℕ
lower T [] = 0
lower T (x ∷ S) = max (lower_at T x) (lower T S)

abbrev pub plus_below : Position → Option ℕ
plus_below (LengthMax n) = Some (suc n)
plus_below _ = None

abbrev pub minus_below : Position → Option ℕ
minus_below (LengthMin n) = Some n
minus_below _ = None

abbrev pub below_at : List Position → Signed → Option ℕ
below_at T (Plus p) = plus_below (position_at T p)
below_at T (Minus p) = minus_below (position_at T p)

abbrev pub below : List Position → List Signed → Option ℕ
below T [] = None
below T (x ∷ S) = lesser (below_at T x) (below T S)

-- the atom of a position that lists words or has a pattern
abbrev pub word_atoms : Position → List Atom
word_atoms (Words ws) = W.Words ws ∷ []
word_atoms (Match r) = W.Match r.tree ∷ []
word_atoms _ = []

abbrev pub length_atoms : ℕ → List Atom
length_atoms n = cond (nat_eq n 0) [] (W.LengthMin n ∷ [])

-- the atoms of the literals in order, and then the lower bound, each once
abbrev pub string_atoms : List Position → List Signed → List Atom
string_atoms T S =
    once (flat_map (λ x. word_atoms (position_at T (position_of x))) S ++ length_atoms (lower T S))

-- what a literal that lists words or has a pattern requires of a word
abbrev pub wants : List Position → List ℕ → Signed → Bool
wants T w (Plus p) = every (λ a. is_true a w) (word_atoms (position_at T p))
wants T w (Minus p) = every (λ a. not (is_true a w)) (word_atoms (position_at T p))

-- all these literals want the word, and it has enough characters
abbrev pub is_wanted : List Position → List Signed → List ℕ → Bool
is_wanted T S w = every (wants T w) S && nat_le (lower T S) (length w)

-- the word, where it has fewer characters than the bound
abbrev pub if_below : Option ℕ → Option (List ℕ) → Option (List ℕ)
if_below b None = None
if_below b (Some w) = cond (is_at_end (length w) b) None (Some w)

-- crossed bounds, then the limits of the automaton, then the first word that is wanted, where it isn't too long
module _ (characters : List ℕ) (most far : ℕ) where
  abbrev pub string_found : List Position → List Signed → Result (Option (List ℕ)) LimitKind
  string_found T S =
      cond (is_at_end (lower T S) (below T S)) (Ok None)
      (unless_passed (limit_passed characters most (string_atoms T S))
      (if_below (below T S) (first_of (words_found characters far (is_wanted T S)))))

abbrev pub strings_of : List Position → List Signed → Result (Option (List ℕ)) LimitKind
strings_of = string_found characters most_states far
