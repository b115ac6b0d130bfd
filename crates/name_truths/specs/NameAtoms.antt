-- The atoms of what the literals of a set say of names.
use Rattle.std.specs.Prelude.{List, [], ◌∷◌, ◌++◌, map, flat_map, Option, Some, None}
use Rattle.word_states.specs.Atom as W
use Rattle.word_states.specs.Atom.{Atom}
use Rattle.positions.specs.Position.{Position, NameSet, Named, Matching, Others, MembersOf, Has, NamesIn, position_at}
use Rattle.positions.specs.NameFormula as F
use Rattle.positions.specs.NameFormula.{NameFormula}
use Rattle.goals.specs.Signed.{Signed, position_of}
use Rattle.name_truths.specs.NameTruth.{atoms}

-- what a position says of the name of a member: that it is one name, that it is in a set, or that a position holds of
-- it
abbrev pub formula_of : Position → Option NameFormula
formula_of (Has n) = Some (F.Is n)
formula_of (MembersOf s q) = Some (F.In s)
formula_of (NamesIn q) = Some (F.Holds q)
formula_of _ = None

-- each name by itself, then the patterns
abbrev pub set_atoms : NameSet → List Atom
set_atoms (Named n) = W.Words (n ∷ []) ∷ []
set_atoms (Matching r) = W.Match r.tree ∷ []
set_atoms (Others ns rs) = map (λ n. W.Words (n ∷ [])) ns ++ map (λ r. W.Match r.tree) rs

abbrev pub formula_atoms : List Position → NameFormula → List Atom
formula_atoms T (F.Is n) = W.Words (n ∷ []) ∷ []
formula_atoms T (F.In s) = set_atoms s
formula_atoms T (F.Holds p) = atoms T p

-- the atoms of what a position says of names, none where it says nothing
abbrev pub position_atoms : List Position → Option NameFormula → List Atom
position_atoms T None = []
position_atoms T (Some f) = formula_atoms T f

-- literal by literal, with repeats: an automaton takes each once, in order of first mention
abbrev pub name_atoms : List Position → List Signed → List Atom
name_atoms T S = flat_map (λ x. position_atoms T (formula_of (position_at T (position_of x)))) S
