-- Whether a position holds of a name, from the truths of the atoms of which it is made there.
use Rattle.std.specs.Prelude.{◌≡◌, ℕ, zero, suc, List, [], ◌∷◌, ◌++◌, flat_map, length, Bool, true, false, not, ◌||◌, nat_eq, if◌then◌else◌}
use Rattle.documents.specs.Tests.{every, some}
use Rattle.documents.specs.Measures.{exactly_one}
use Rattle.documents.specs.Kind.{Text, same_kind}
use Rattle.word_states.specs.Atom as W
use Rattle.word_states.specs.Atom.{Atom, is_true}
use Rattle.positions.specs.Position.{Position, True, False, Same, Not, All, Any, One, Types, Words, Match, LengthMin, LengthMax, position_at}

-- the positions that a position depends on at the same string: a dependency has none, since a string is no object
abbrev pub asked_of_string : Position → List ℕ
asked_of_string (Same q) = q ∷ []
asked_of_string (Not q) = q ∷ []
asked_of_string (All qs) = qs
asked_of_string (Any qs) = qs
asked_of_string (One qs) = qs
asked_of_string _ = []

-- the atom that a position itself is: every word has no characters at least, so that needs none; that a word is no
-- longer than n is that it hasn't n and one more
abbrev pub own_atoms : Position → List Atom
own_atoms (Words ws) = W.Words ws ∷ []
own_atoms (Match r) = W.Match r.tree ∷ []
own_atoms (LengthMin n) = if nat_eq n 0 then [] else W.LengthMin n ∷ []
own_atoms (LengthMax n) = W.LengthMin (suc n) ∷ []
own_atoms _ = []

-- the atoms of the positions to which fewer than n steps lead
abbrev pub atoms_within : List Position → ℕ → ℕ → List Atom
atoms_within T zero p = []
atoms_within T (suc n) p =
    own_atoms (position_at T p) ++ flat_map (atoms_within T n) (asked_of_string (position_at T p))

-- all atoms of a position
abbrev pub atoms : List Position → ℕ → List Atom
atoms T p = atoms_within T (length T) p

-- each of the atoms is known
abbrev pub are_all_known : (Atom → Bool) → List Atom → Bool
are_all_known knows xs = every knows xs

-- the atoms of some positions are known, with so many steps
abbrev pub are_known : (Atom → Bool) → List Position → ℕ → List ℕ → Bool
are_known knows T n qs = every (λ q. are_all_known knows (atoms_within T n q)) qs

-- the truths of the atoms are those of the word
abbrev pub AreTrue : (Atom → Bool) → List ℕ → List Atom → Type 0
AreTrue truth w [] = Unit {0}
AreTrue truth w (a ∷ xs) = (truth a ≡ is_true a w) × AreTrue truth w xs

-- what a position requires of a string whose atoms have these truths; `here` says which positions hold of it
module _ (truth : Atom → Bool) (here : ℕ → Bool) where
  abbrev pub asks_name : Position → Bool
  asks_name True = true
  asks_name False = false
  asks_name (Same q) = here q
  asks_name (Not q) = not (here q)
  asks_name (All qs) = every here qs
  asks_name (Any qs) = some here qs
  asks_name (One qs) = exactly_one here qs
  asks_name (Types ts) = some (same_kind Text) ts
  asks_name (Words ws) = truth (W.Words ws)
  asks_name (Match r) = truth (W.Match r.tree)
  asks_name (LengthMin n) = nat_eq n 0 || truth (W.LengthMin n)
  asks_name (LengthMax n) = not (truth (W.LengthMin (suc n)))
  asks_name _ = true

-- with n steps from position to position; with none left nothing holds
abbrev pub name_within : List Position → (Atom → Bool) → ℕ → ℕ → Bool
name_within T truth zero p = false
name_within T truth (suc n) p = asks_name truth (λ q. name_within T truth n q) (position_at T p)

-- the position holds of a name with these truths
abbrev pub name_holds : List Position → (Atom → Bool) → ℕ → Bool
name_holds T truth p = name_within T truth (length T) p
