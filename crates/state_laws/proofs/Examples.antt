-- What is kept of a word, on worked examples.
use Rattle.std.proofs.Common.{◌≡◌, true, false, [], ◌∷◌, refl, codes, Some, None}
use Rattle.patterns.specs.Tree.{Tree, one_of, at_start, at_end, in_turn, either, repeated, trees_of}
use Rattle.word_states.specs.Position.{count_of, sets_of}
use Rattle.word_states.specs.PatternState.{done, reading, pattern_state, read_flags, accepts}

abbrev letter_a : Tree
letter_a = one_of ((97, 97) ∷ [])

abbrev letter_b : Tree
letter_b = one_of ((98, 98) ∷ [])

abbrev letter_c : Tree
letter_c = one_of ((99, 99) ∷ [])

-- `^a+$`: 3 rows
abbrev only_a : Tree
only_a = in_turn (trees_of (at_start ∷ repeated letter_a 1 None ∷ at_end ∷ []))

only_a_empty : pattern_state only_a [] ≡ reading []
unfolding pattern_state
only_a_empty = refl

only_a_read : pattern_state only_a (codes "aa") ≡ reading (0 ∷ [])
unfolding pattern_state
only_a_read = refl

only_a_lost : pattern_state only_a (codes "ba") ≡ reading []
unfolding pattern_state
only_a_lost = refl

only_a_accepts : accepts only_a (codes "aa") ≡ true
only_a_accepts = refl

-- `a{0,2}b`, which has 5 rows: the second copy is read only after the first
abbrev up_to_two : Tree
up_to_two = in_turn (trees_of (repeated letter_a 0 (Some 2) ∷ letter_b ∷ []))

up_to_two_positions : count_of up_to_two ≡ 3
up_to_two_positions = refl

up_to_two_one : pattern_state up_to_two (codes "ca") ≡ reading (0 ∷ [])
unfolding pattern_state
up_to_two_one = refl

up_to_two_more : pattern_state up_to_two (codes "aaa") ≡ reading (0 ∷ 1 ∷ [])
unfolding pattern_state
up_to_two_more = refl

up_to_two_done : pattern_state up_to_two (codes "ab") ≡ done
unfolding pattern_state
up_to_two_done = refl

-- `a$b`: a position stays though the match can't be completed
past_the_end : pattern_state (in_turn (trees_of (letter_a ∷ at_end ∷ letter_b ∷ []))) (codes "ba") ≡ reading (0 ∷ [])
unfolding pattern_state
past_the_end = refl

-- `a[]`: a position stays though no character can follow
no_such_letter : pattern_state (in_turn (trees_of (letter_a ∷ one_of [] ∷ []))) (codes "aa") ≡ reading (0 ∷ [])
unfolding pattern_state
no_such_letter = refl

-- `(a|b)*c`
abbrev some_then_c : Tree
some_then_c = in_turn (trees_of (repeated (either (trees_of (letter_a ∷ letter_b ∷ []))) 0 None ∷ letter_c ∷ []))

some_then_c_read : pattern_state some_then_c (codes "aab") ≡ reading (1 ∷ [])
unfolding pattern_state
some_then_c_read = refl

some_then_c_done : pattern_state some_then_c (codes "abc") ≡ done
unfolding pattern_state
some_then_c_done = refl

-- `(^a|b)*c`: the letter a is read at the start alone
abbrev first_a : Tree
first_a =
    in_turn
    (trees_of
    (repeated (either (trees_of
    (in_turn (trees_of (at_start ∷ letter_a ∷ [])) ∷ letter_b ∷ []))) 0 None ∷ letter_c ∷ []))

first_a_first : pattern_state first_a (codes "a") ≡ reading (0 ∷ [])
unfolding pattern_state
first_a_first = refl

first_a_later : pattern_state first_a (codes "ba") ≡ reading []
unfolding pattern_state
first_a_later = refl

-- `(^a|b)*` matches nothing at all, so it is found in every word
always : pattern_state (repeated (either (trees_of (in_turn (trees_of (at_start ∷ letter_a ∷ [])) ∷ letter_b ∷ []))) 0 None) (codes "c")
    ≡ done
unfolding pattern_state
always = refl

-- `(a?){2}b`: a copy is passed over where what is repeated can be empty
abbrev two_maybe : Tree
two_maybe = in_turn (trees_of (repeated (repeated letter_a 0 (Some 1)) 2 (Some 2) ∷ letter_b ∷ []))

two_maybe_read : pattern_state two_maybe (codes "a") ≡ reading (0 ∷ 1 ∷ [])
unfolding pattern_state
two_maybe_read = refl

-- `(?:a{0,2}){3}b`: within each copy the second letter is read after the first alone
abbrev three_pairs : Tree
three_pairs = in_turn (trees_of (repeated (repeated letter_a 0 (Some 2)) 3 (Some 3) ∷ letter_b ∷ []))

three_pairs_one : pattern_state three_pairs (codes "ba") ≡ done
unfolding pattern_state
three_pairs_one = refl

three_pairs_read : read_flags three_pairs (codes "a") ≡ true ∷ false ∷ true ∷ false ∷ true ∷ false ∷ false ∷ []
three_pairs_read = refl

-- `$^` matches the empty word, by its end
never_open : pattern_state (in_turn (trees_of (at_end ∷ at_start ∷ []))) [] ≡ reading []
unfolding pattern_state
never_open = refl

never_open_accepts : accepts (in_turn (trees_of (at_end ∷ at_start ∷ []))) [] ≡ true
never_open_accepts = refl

never_open_later : accepts (in_turn (trees_of (at_end ∷ at_start ∷ []))) (codes "a") ≡ false
never_open_later = refl

-- `(?:a?b){2,}c`: the third piece is read in the second copy
abbrev two_or_more : Tree
two_or_more =
    in_turn
    (trees_of
    (repeated (in_turn (trees_of (repeated letter_a 0 (Some 1) ∷ letter_b ∷ []))) 2 None ∷ letter_c ∷ []))

two_or_more_read : pattern_state two_or_more (codes "bb") ≡ reading (1 ∷ 3 ∷ [])
unfolding pattern_state
two_or_more_read = refl

two_or_more_on : pattern_state two_or_more (codes "abba") ≡ reading (0 ∷ 2 ∷ [])
unfolding pattern_state
two_or_more_on = refl

-- `a{3,2}` matches nothing, and its two copies are read
out_of_order : pattern_state (repeated letter_a 3 (Some 2)) (codes "aaa") ≡ reading (0 ∷ 1 ∷ [])
unfolding pattern_state
out_of_order = refl

-- `a{0}` has no position, and `a{0,}` has one
no_copy : count_of (repeated letter_a 0 (Some 0)) ≡ 0
no_copy = refl

one_copy : count_of (repeated letter_a 0 None) ≡ 1
one_copy = refl

most : count_of (repeated (repeated letter_a 16384 (Some 16384)) 2 (Some 2)) ≡ 32768
most = refl

sets : sets_of two_maybe ≡ ((97, 97) ∷ []) ∷ ((97, 97) ∷ []) ∷ ((98, 98) ∷ []) ∷ []
sets = refl
