-- Worked examples of alternatives and expansions, each computed from the definitions.
use Rattle.std.specs.Prelude.{◌≡◌, ℕ, List, [], ◌∷◌, true, false, refl, Some, None, Ok, Err}
use Rattle.documents.specs.Kind.{Object}
use Rattle.goals.specs.Signed.{Plus, Minus, has}
use Rattle.alternatives.specs.Limit.{Plans, Counts}
use Rattle.alternatives.specs.Alternative.{Name, Members, Alternative, named_by, places, rooms, is_met}
use Rattle.alternatives.specs.Slots.{has_words, slots_of, has_different_slots, has_different_words}
use Rattle.alternatives.specs.Expansion.{nothing, expansion_of, keep_all, names_branch}

-- an object with one member under the first name of cell 1, and two more of three: two in cell 0 and one in cell 1
abbrev example : Alternative
example = record {
  kind = Object;
  branch = 2;
  shape = Members;
  members = record { slot = Name 1 0; goal = Plus 7 ∷ [] } ∷ [];
  need = 2;
  fillers =
      record { slot = Name 0 0; goal = Plus 3 ∷ []; room = 2 }
      ∷ record { slot = Name 1 1; goal = Minus 4 ∷ []; room = 1 }
      ∷ [];
}

-- its goals in the order of mention, and its places
goals_in_order : named_by example ≡ (Plus 7 ∷ []) ∷ (Plus 3 ∷ []) ∷ (Minus 4 ∷ []) ∷ []
goals_in_order = refl

its_places : places (example ∷ []) ≡ 4
its_places = refl

-- cell 0 has two words, and cell 1 has two: all that it names are there, and none would be were cell 1 one word short
abbrev two_words : List (List ℕ)
two_words = (97 ∷ []) ∷ (98 ∷ []) ∷ []

words_suffice : has_words (two_words ∷ two_words ∷ []) example ≡ true
words_suffice = refl

one_word_short : has_words (two_words ∷ ((97 ∷ []) ∷ []) ∷ []) example ≡ false
one_word_short = refl

one_cell_short : has_words (two_words ∷ []) example ≡ false
one_cell_short = refl

-- its member comes before what the filler of that cell adds
its_slots : slots_of example ≡ Name 1 0 ∷ Name 0 0 ∷ Name 0 1 ∷ Name 1 1 ∷ []
its_slots = refl

slots_differ : has_different_slots example ≡ true
slots_differ = refl

filler_upon_member :
    has_different_slots (record example { fillers = record { slot = Name 1 0; goal = []; room = 1 } ∷ [] }) ≡ false
filler_upon_member = refl

one_word_in_two_cells : has_different_words (two_words ∷ ((98 ∷ []) ∷ []) ∷ []) ≡ false
one_word_in_two_cells = refl

-- met where the member's goal and the first filler's are; one filler with room for one is too little
met_by_two : is_met (has (Minus 4)) example ≡ false
met_by_two = refl

met_where_room_suffices : is_met (λ g. has (Plus 7) g) (record example { fillers = []; need = 0 }) ≡ true
met_where_room_suffices = refl

too_little_room : rooms (has (Minus 4)) example.fillers ≡ 1
too_little_room = refl

-- the first limit is the hole, and the alternatives of later branches are kept
first_limit_counts :
    keep_all nothing (Err Plans ∷ Ok (example ∷ []) ∷ Err Counts ∷ []) ≡ expansion_of (example ∷ []) (Some Plans)
first_limit_counts = refl

its_branch : names_branch (expansion_of (example ∷ []) None) Object 2 ≡ true
its_branch = refl

no_other_branch : names_branch (expansion_of (example ∷ []) None) Object 1 ≡ false
no_other_branch = refl
