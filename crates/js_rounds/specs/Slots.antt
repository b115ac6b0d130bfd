-- Slots one after another, and how many words of a cell runs need.
use Rattle.std.specs.Prelude.{ℕ, zero, suc, ◌+◌, max, List, [], ◌∷◌, cond, nat_eq, get_or}
use Rattle.alternatives.specs.Alternative.{Slot, Index, Name}
use Rattle.js_expansion.specs.View.{slot_view}
use Rattle.js_rounds.specs.declared.runs.Run.{Run}

-- the slot so many behind one
abbrev pub slot_after : Slot → ℕ → Slot
slot_after (Index i) n = Index (i + n)
slot_after (Name c k) n = Name c (k + n)

-- how many words of cell c are needed for n names from a slot on
abbrev pub wanted : Slot → ℕ → ℕ → ℕ
wanted s zero c = 0
wanted (Index i) (suc n) c = 0
wanted (Name d k) (suc n) c = cond (nat_eq d c) (k + suc n) 0

abbrev pub wanted_by : List Run → ℕ → ℕ
wanted_by [] c = 0
wanted_by (r ∷ rs) c = max (wanted (slot_view r.slot) r.count c) (wanted_by rs c)

-- the number of the part of a goal
abbrev pub place_at : List ℕ → ℕ → ℕ
place_at places g = get_or places g 0
