-- Atoms as they are kept: their patterns apart, and a part for each atom.
use Rattle.std.specs.Prelude.{ℕ, suc, Bool, ◌&&◌, nat_eq, List, [], ◌∷◌, map, get_or}
use Rattle.patterns.specs.Tree.{Tree, empty}
use Rattle.word_states.specs.Atom.{Atom, Match, Words, LengthMin}
use Rattle.js_nfa.specs.declared.nfa.Nfa.{Nfa}
use Rattle.js_nfa.specs.View.{tree_of}
use Rattle.js_automaton.specs.declared.part.Part.{Part}
use Rattle.js_automaton.specs.declared.part.Part.TheVariants as P

-- the atom of a part, over the patterns
abbrev pub part_view : List Tree → Part → Atom
part_view ts (P.Match i) = Match (get_or ts i empty)
part_view ts (P.Words l) = Words l
part_view ts (P.Length n) = LengthMin n

abbrev pub atoms_made : List Nfa → List Part → List Atom
atoms_made ns ps = map (part_view (map tree_of ns)) ps

-- the parts of patterns have the places from k up to n, in order
abbrev pub are_placed : ℕ → List Part → ℕ → Bool
are_placed k [] n = nat_eq k n
are_placed k (P.Match i ∷ ps) n = nat_eq i k && are_placed (suc k) ps n
are_placed k (P.Words l ∷ ps) n = are_placed k ps n
are_placed k (P.Length m ∷ ps) n = are_placed k ps n

-- the words of a part
abbrev pub part_words : Part → List (List ℕ)
part_words (P.Match i) = []
part_words (P.Words l) = l
part_words (P.Length n) = []
