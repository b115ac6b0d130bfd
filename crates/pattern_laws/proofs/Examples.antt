-- The match relation's test, and sets, on worked examples.
use Rattle.std.proofs.Common.{◌≡◌, true, false, [], ◌∷◌, refl, codes, Some, None}
use Rattle.patterns.specs.CharSet.{set_of, complement_of, comes_no_later}
use Rattle.patterns.specs.Tree.{Tree, empty, one_of, at_start, at_end, in_turn, either, repeated, trees_of}
use Rattle.patterns.specs.Decision.{finds}

abbrev letter_a : Tree
letter_a = one_of ((97, 97) ∷ [])

-- `^a+$`
abbrev only_a : Tree
only_a = in_turn (trees_of (at_start ∷ repeated letter_a 1 None ∷ at_end ∷ []))

all_a : finds only_a (codes "aaa") ≡ true
all_a = refl

not_all_a : finds only_a (codes "aba") ≡ false
not_all_a = refl

no_letter : finds only_a [] ≡ false
no_letter = refl

-- `(a|){2,3}$`, which matches nothing at the end
tail : finds (in_turn (trees_of (repeated (either (trees_of (letter_a ∷ empty ∷ []))) 2 (Some 3) ∷ at_end ∷ [])))
    (codes "ab") ≡ true
tail = refl

-- no number of pieces is from 3 to 2
none : finds (repeated letter_a 3 (Some 2)) (codes "aaaa") ≡ false
none = refl

-- ranges that meet are one, in any order
joined : set_of ((100, 102) ∷ (97, 99) ∷ (120, 120) ∷ []) ≡ (97, 102) ∷ (120, 120) ∷ []
joined = refl

-- without the surrogates
others : complement_of ((0, 96) ∷ (98, 0xd7ff) ∷ []) ≡ (97, 97) ∷ (0xe000, 0x10ffff) ∷ []
others = refl

-- `z` comes before `A`, and `~` before the tab
order : comes_no_later 122 65 ≡ true
order = refl
