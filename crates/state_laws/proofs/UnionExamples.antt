-- What may follow and where a match can end, on worked examples.
use Rattle.std.proofs.Common.{◌≡◌, true, false, [], ◌∷◌, refl, Some, None}
use Rattle.patterns.specs.Tree.{Tree, one_of, at_start, at_end, in_turn, either, repeated, trees_of}
use Rattle.word_states.specs.Position.{sets_of}
use Rattle.state_laws.specs.Flow.{ends_here}
use Rattle.state_laws.specs.FollowSets.{sets_have, none_read, only, may_follow}

abbrev letter_a : Tree
letter_a = one_of ((97, 97) ∷ [])

abbrev letter_b : Tree
letter_b = one_of ((98, 98) ∷ [])

-- `a{0,2}b`: the second copy follows the first alone
abbrev up_to_two : Tree
up_to_two = in_turn (trees_of (repeated letter_a 0 (Some 2) ∷ letter_b ∷ []))

up_to_two_begins : may_follow up_to_two false none_read 0 true ≡ true ∷ false ∷ true ∷ []
up_to_two_begins = refl

up_to_two_first : may_follow up_to_two false (only 0) 0 false ≡ false ∷ true ∷ true ∷ []
up_to_two_first = refl

up_to_two_second : may_follow up_to_two false (only 1) 0 false ≡ false ∷ false ∷ true ∷ []
up_to_two_second = refl

up_to_two_last : may_follow up_to_two false (only 2) 0 false ≡ false ∷ false ∷ false ∷ []
up_to_two_last = refl

up_to_two_sets : sets_have (sets_of up_to_two) 98 ≡ false ∷ false ∷ true ∷ []
up_to_two_sets = refl

up_to_two_open : ends_here up_to_two false false (only 1) 0 false ≡ false
up_to_two_open = refl

up_to_two_ends : ends_here up_to_two false false (only 2) 0 false ≡ true
up_to_two_ends = refl

-- `(?:a|b)*`: a copy that comes again is followed by itself
abbrev any : Tree
any = repeated (either (trees_of (letter_a ∷ letter_b ∷ []))) 0 None

any_again : may_follow any false (only 1) 0 false ≡ true ∷ true ∷ []
any_again = refl

-- `^a+$`: it comes first at the start alone, and ends at the end alone
abbrev only_a : Tree
only_a = in_turn (trees_of (at_start ∷ repeated letter_a 1 None ∷ at_end ∷ []))

only_a_first : may_follow only_a true none_read 0 true ≡ true ∷ []
only_a_first = refl

only_a_later : may_follow only_a false none_read 0 true ≡ false ∷ []
only_a_later = refl

only_a_again : may_follow only_a false (only 0) 0 false ≡ true ∷ []
only_a_again = refl

only_a_ends : ends_here only_a false true (only 0) 0 false ≡ true
only_a_ends = refl

only_a_open : ends_here only_a false false (only 0) 0 false ≡ false
only_a_open = refl
