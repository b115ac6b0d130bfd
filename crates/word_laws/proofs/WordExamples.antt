-- Classes, states and rows on worked examples. The characters are those of ASCII, since the full list is long.
use Rattle.std.proofs.Common.{◌≡◌, ℕ, true, false, [], ◌∷◌, List, Some, None, refl, codes}
use Rattle.patterns.specs.Tree.{one_of, at_start, at_end, in_turn, repeated, trees_of}
use Rattle.word_states.specs.Atom.{Atom, Match, Words, LengthMin, is_true}
use Rattle.word_states.specs.Classes.{dividers, ordered_below, firsts_among}
use Rattle.word_states.specs.PatternState.{pattern_state}
use Rattle.word_states.specs.WordState.{atom_state, beginning, have_same_state}
use Rattle.word_states.specs.Rows.{AreRowsOver, row_of, signature_of}

abbrev ascii : List Atom → List ℕ
ascii atoms = firsts_among (ordered_below 128) (dividers atoms)

-- `^a+$`
abbrev only_a : List Atom
only_a = Match (in_turn (trees_of (at_start ∷ repeated (one_of ((97, 97) ∷ [])) 1 None ∷ at_end ∷ []))) ∷ []

only_a_classes : ascii only_a ≡ codes "ab"
unfolding ordered_below
only_a_classes = refl

only_a_rows : AreRowsOver (codes "ab") only_a ([] ∷ codes "a" ∷ codes "b" ∷ [])
unfolding pattern_state
only_a_rows = refl

only_a_target : row_of only_a ([] ∷ codes "a" ∷ codes "b" ∷ []) (codes "aaaa") ≡ 1
unfolding pattern_state
only_a_target = refl

only_a_truth : signature_of only_a (codes "a") ≡ true ∷ []
only_a_truth = refl

-- without anchors: the state is `done` from the first `a` on
abbrev some_a : List Atom
some_a = Match (one_of ((97, 97) ∷ [])) ∷ []

some_a_rows : AreRowsOver (codes "ab") some_a ([] ∷ codes "a" ∷ codes "b" ∷ [])
unfolding pattern_state
some_a_rows = refl

-- a tree that is repeated no times divides nothing, and neither does an empty set
undivided : ascii (Match (in_turn (trees_of (repeated (one_of ((97, 97) ∷ [])) 0 (Some 0) ∷ one_of [] ∷ []))) ∷ [])
    ≡ codes "a"
unfolding ordered_below
undivided = refl

-- the digits are one class, which comes after the letters but before the rest
digits : ascii (Match (one_of ((48, 57) ∷ [])) ∷ Words (codes "Z" ∷ []) ∷ []) ≡ codes "aZ0"
unfolding ordered_below
digits = refl

-- listed words: each of their beginnings is a row, and each other word leads to one more
abbrev ab_or_ac : List Atom
ab_or_ac = Words (codes "ab" ∷ codes "ac" ∷ []) ∷ []

ab_or_ac_classes : ascii ab_or_ac ≡ codes "abcd"
unfolding ordered_below
ab_or_ac_classes = refl

ab_or_ac_rows : AreRowsOver (codes "abcd") ab_or_ac ([] ∷ codes "a" ∷ codes "b" ∷ codes "ab" ∷ codes "ac" ∷ [])
ab_or_ac_rows = refl

listed : signature_of ab_or_ac (codes "ac") ≡ true ∷ []
listed = refl

not_listed : signature_of ab_or_ac (codes "a") ≡ false ∷ []
not_listed = refl

-- of a word that begins none of them nothing is kept, not even its length
nothing_kept : have_same_state ab_or_ac (codes "b") (codes "abba") ≡ true
nothing_kept = refl

-- the length of a beginning is kept with the words that it begins: here it distinguishes two beginnings of one word
length_kept : atom_state (codes "a") (Words (codes "aaa" ∷ [])) ≡ beginning (codes "aaa" ∷ []) (Some 1)
length_kept = refl

-- the empty word has a row of its own where nothing else distinguishes it, and a least length of 0 requires nothing
abbrev no_length : List Atom
no_length = LengthMin 0 ∷ []

no_length_rows : AreRowsOver (codes "a") no_length ([] ∷ codes "a" ∷ [])
no_length_rows = refl

-- lengths are distinguished up to the greatest that is required
lengths : AreRowsOver (codes "a") (LengthMin 1 ∷ LengthMin 3 ∷ []) ([] ∷ codes "a" ∷ codes "aa" ∷ codes "aaa" ∷ [])
lengths = refl

-- and count characters, whatever their bytes
one_character : is_true (LengthMin 2) (0x1f600 ∷ []) ≡ false
one_character = refl

two_characters : is_true (LengthMin 2) (0x1f600 ∷ 233 ∷ []) ≡ true
two_characters = refl
