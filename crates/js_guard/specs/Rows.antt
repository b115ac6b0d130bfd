-- Lists that come one after another in one list.
use Rattle.std.specs.Prelude.{◌≡◌, ℕ, ◌-◌, ◌<◌, List, map, length, take, drop, Bool, ◌&&◌, nat_le, true}
use Rattle.schemas.specs.Guarded.{targets, is_among}
use Rattle.js_guard.specs.declared.edges.Row.{Row}

abbrev pub row_of : List ℕ → Row → List ℕ
row_of ts r = take (r.end - r.start) (drop r.start ts)

abbrev pub rows_of : List Row → List ℕ → List (List ℕ)
rows_of rows ts = map (row_of ts) rows

-- the row lies in a list of that length
abbrev pub is_inside : ℕ → Row → Bool
is_inside n r = nat_le r.start r.end && nat_le r.end n

-- each edge leads to an entry that has a row itself
abbrev pub AreClosed : List (List ℕ) → Type 0
AreClosed g = (x y : ℕ) → is_among y (targets g x) ≡ true → y < length g
