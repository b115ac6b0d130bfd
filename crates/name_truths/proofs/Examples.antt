-- Worked examples, each computed from the definitions.
use Rattle.std.specs.Prelude.{◌≡◌, List, [], ◌∷◌, true, false, refl}
use Rattle.word_states.specs.Atom as W
use Rattle.word_states.specs.Atom.{Atom}
use Rattle.positions.specs.Position.{Position, True, Not, All, Depends, LengthMin, LengthMax, MembersOf, Has, NamesIn, Others}
use Rattle.goals.specs.Signed.{Plus, Minus}
use Rattle.name_truths.specs.NameTruth.{atoms, name_holds}
use Rattle.name_truths.specs.NameAtoms.{name_atoms}

-- a member `a`; members of other names than `b`; and names of which position 4 holds
abbrev table : List Position
table =
    Has (97 ∷ [])  -- 0
    ∷ MembersOf (Others ((98 ∷ []) ∷ []) []) 2  -- 1
    ∷ True  -- 2
    ∷ NamesIn 4  -- 3
    ∷ All (5 ∷ 6 ∷ 7 ∷ 5 ∷ [])  -- 4
    ∷ LengthMax 3  -- 5
    ∷ LengthMin 0  -- 6
    ∷ Depends 8 8  -- 7
    ∷ LengthMin 9  -- 8
    ∷ Not 3  -- 9
    ∷ []

-- depth first and with repeats; no characters at least are no atom, and a dependency isn't entered
of_a_position : atoms table 4 ≡ W.LengthMin 4 ∷ W.LengthMin 4 ∷ []
of_a_position = refl

-- by literal, whatever its sign; a position that says nothing of names has none
of_a_set : name_atoms table (Plus 0 ∷ Minus 1 ∷ Plus 2 ∷ Minus 3 ∷ Plus 9 ∷ [])
    ≡ W.Words ((97 ∷ []) ∷ []) ∷ W.Words ((98 ∷ []) ∷ []) ∷ W.LengthMin 4 ∷ W.LengthMin 4 ∷ []
of_a_set = refl

-- a name that hasn't four characters has three at most
short : name_holds table (λ a. false) 4 ≡ true
short = refl

long : name_holds table (λ a. true) 4 ≡ false
long = refl
