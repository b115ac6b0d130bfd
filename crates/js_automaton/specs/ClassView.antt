-- What a contract sees of a class.
use Rattle.std.specs.Prelude.{◌≡◌, ◌<◌, ℕ, List, Bool, length, get_or}
use Rattle.std.specs.List.{list_any}
use Rattle.js_nfa.specs.declared.atom.Atom.{Atom}
use Rattle.js_nfa.specs.AtomView.{atom_view}
use Rattle.js_automaton.specs.Letters.{is_letter, letters_of}
use Rattle.js_automaton.specs.declared.classes.Class.{Class}
use Rattle.js_automaton.specs.Dividing.{IsClass}

abbrev pub first_of : Class → ℕ
first_of c = c.first

-- each has the characters that no divider distinguishes from its first one
abbrev pub AreClasses : List (List (ℕ × ℕ)) → List Class → Type 0
AreClasses sets cs = (k : ℕ) (c : Class) → k < length cs → c ≡ get_or cs k c → IsClass sets c.set c.first

-- the character is in a word of one of the atoms
abbrev pub are_letters : List Atom → ℕ → Bool
are_letters atoms c = list_any (λ a. is_letter (letters_of (atom_view a)) c) atoms
