-- What is left to be counted.
use Rattle.std.specs.Prelude.{ℕ, ◌+◌, List, [], ◌∷◌, ◌&&◌, not, cond}
use Rattle.js_waiting.specs.declared.place.Place.{Place}

-- how many members weren't counted
abbrev pub members_left : List Place → ℕ
members_left [] = 0
members_left (q ∷ qs) = cond (q.is_member && not q.counted) 1 0 + members_left qs
