-- The slots that an alternative names, and which it may name where its branch has cells of words.
use Rattle.std.specs.Prelude.{ℕ, zero, suc, ◌+◌, min, List, [], ◌∷◌, ◌++◌, map, flat_map, length, Bool, true, false, not, ◌&&◌, nat_eq, nat_le, nat_lt, get_or}
use Rattle.documents.specs.Tests.{every, some, same_word}
use Rattle.alternatives.specs.Limit.{most_words}
use Rattle.alternatives.specs.Alternative.{Slot, Index, Name, Shape, Text, Elements, Members, Alternative}

-- how many words a cell has, as far as they are counted
abbrev pub capacity : List (List ℕ) → ℕ
capacity words = min most_words (length words)

-- the words of the cell of that number; a cell that isn't there has none
abbrev pub cell_at : List (List (List ℕ)) → ℕ → List (List ℕ)
cell_at cells c = get_or cells c []

-- word k of cell c
abbrev pub word_at : List (List (List ℕ)) → ℕ → ℕ → List ℕ
word_at cells c k = get_or (cell_at cells c) k []

-- a cell has n words from the slot on; an index names no word
abbrev pub has_room : List (List (List ℕ)) → Slot → ℕ → Bool
has_room cells (Index i) n = true
has_room cells (Name c k) n = nat_lt c (length cells) && nat_le (k + n) (capacity (cell_at cells c))

-- a text is the first word of cell 0
abbrev pub has_text : List (List (List ℕ)) → Shape → Bool
has_text cells Text = nat_lt 0 (capacity (cell_at cells 0))
has_text cells _ = true

-- each word that an alternative names is one of a cell of its branch
abbrev pub has_words : List (List (List ℕ)) → Alternative → Bool
has_words cells a =
    has_text cells a.shape
    && every (λ m. has_room cells m.slot 1) a.members
    && every (λ f. has_room cells f.slot f.room) a.fillers

abbrev pub next_slot : Slot → Slot
next_slot (Index i) = Index (suc i)
next_slot (Name c k) = Name c (suc k)

-- n slots from one on
abbrev pub slots_from : Slot → ℕ → List Slot
slots_from s zero = []
slots_from s (suc n) = s ∷ slots_from (next_slot s) n

-- the slots of the members, and those that its fillers have room for
abbrev pub slots_of : Alternative → List Slot
slots_of a = map (λ m. m.slot) a.members ++ flat_map (λ f. slots_from f.slot f.room) a.fillers

abbrev pub same_slot : Slot → Slot → Bool
same_slot (Index i) (Index j) = nat_eq i j
same_slot (Name c k) (Name d l) = nat_eq c d && nat_eq k l
same_slot _ _ = false

-- no two of them are the same
abbrev pub are_different : {A : Type 0} → (A → A → Bool) → List A → Bool
are_different same [] = true
are_different same (x ∷ xs) = not (some (same x) xs) && are_different same xs

-- so no index and no name comes twice, where the words of the cells differ too
abbrev pub has_different_slots : Alternative → Bool
has_different_slots a = are_different same_slot (slots_of a)

-- no word comes twice in the cells
abbrev pub has_different_words : List (List (List ℕ)) → Bool
has_different_words cells = are_different same_word (flat_map (λ words. words) cells)

-- an element is at an index, a member under a name, and a scalar has neither
abbrev pub fits_slot : Shape → Slot → Bool
fits_slot Elements (Index i) = true
fits_slot Members (Name c k) = true
fits_slot _ _ = false

abbrev pub has_fitting_slots : Alternative → Bool
has_fitting_slots a = every (λ m. fits_slot a.shape m.slot) a.members && every (λ f. fits_slot a.shape f.slot) a.fillers
