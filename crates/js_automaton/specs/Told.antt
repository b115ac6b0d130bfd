-- Which patterns match in the words of each row, as flags.
use Rattle.std.specs.Prelude.{◌≡◌, ℕ, Bool, List, map, flat_map}
use Rattle.std.specs.Coded.{Coded-set, coded_list, coded_bool}
use Rattle.patterns.specs.Tree.{Tree}
use Rattle.patterns.specs.Decision.{finds}
use Rattle.word_states.specs.Atom.{Atom}
use Rattle.js_automaton.specs.declared.state.TupleState.{TupleState}
use Rattle.js_automaton.specs.Building.{AreStates}

-- whether each pattern matches in the word
abbrev pub matches_in : List Tree → List ℕ → List Bool
matches_in ts w = map (λ t. finds t w) ts

-- the flags of one row after another, whatever the words of the states are
abbrev pub AreTold : List Atom → List Tree → List TupleState → List Bool → Type 0
AreTold atoms ts keys flags =
    (rows : List (List ℕ)) → AreStates atoms keys rows → flags ≡ flat_map (matches_in ts) rows

pub AreTold-prop : (atoms : List Atom) (ts : List Tree) (keys : List TupleState) (flags : List Bool)
    → IsProp (AreTold atoms ts keys flags)
AreTold-prop atoms ts keys flags x y = λ i rows h. Coded-set (coded_list coded_bool) _ _ (x rows h) (y rows h) i
