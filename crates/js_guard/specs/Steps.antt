-- The steps of a search.
use Rattle.std.specs.Prelude.{◌≡◌, ℕ, ◌+◌, ◌-◌, ◌*◌, ◌<◌, ◌≤◌, ◌⊎◌, List, [], ◌∷◌, ◌++◌, length, set, take, Bool, true, false, Option, Some}
use Rattle.schemas.specs.Guarded.{targets}
use Rattle.js_guard.specs.declared.search.Mark.{Mark}
use Rattle.js_guard.specs.declared.search.Mark.TheVariants.{New, Open, Done}
use Rattle.js_guard.specs.declared.search.Turn.{Turn}
use Rattle.js_guard.specs.declared.search.Search.{Search}
use Rattle.js_guard.specs.Searching.{mark, is_new, count_new, at, noted, IsAtMost, IsJoined, IsSearch}

-- the search, with turns of its own in place of those on the path
abbrev pub IsSearchWith : List (List ℕ) → Search → List Turn → Type 0
IsSearchWith g s P = IsSearch g s.marks.items s.opened.items s.groups.items P s.done s.least

-- between two entries that are followed
pub record IsResting (g : List (List ℕ)) (s : Search) : Type 0 where
  pub search : IsSearchWith g s []
  pub path : s.path.items ≡ []

-- no entry is new again
abbrev pub Keeps : Search → Search → Type 0
Keeps s s' = (x : ℕ) → mark s'.marks.items x ≡ New → mark s.marks.items x ≡ New

-- what is left to do: new entries are put on the path, and those on the path are left
abbrev pub work : Search → ℕ
work s = 2 * count_new s.marks.items + length s.path.items

-- a new entry is open, in a group of its own, and its turn has come
pub record Enters (s s' : Search) (x : ℕ) : Type 0 where
  pub marks : s'.marks.items ≡ set s.marks.items x (Open (length s.opened.items))
  pub opened : s'.opened.items ≡ s.opened.items ++ x ∷ []
  pub groups : s'.groups.items ≡ s.groups.items ++ length s.opened.items ∷ []
  pub path : s'.path.items ≡ s.path.items ++ record { place = length s.opened.items; next = 0 } ∷ []
  pub done : s'.done ≡ s.done
  pub least : s'.least ≡ s.least

-- an edge that leads to x, where x has that mark, is passed unless x is new
abbrev pub PassesAt : Mark → Search → Search → ℕ → Bool → Type 0
PassesAt New s s' x passed = (passed ≡ false) × (s' ≡ s)
PassesAt (Open j) s s' x passed =
    (passed ≡ true) × IsJoined s.groups.items s'.groups.items j
    × (s' ≡ record s { groups = s'.groups; least = noted s.least x })
PassesAt (Done r) s s' x passed = (passed ≡ true) × (s' ≡ s)

-- the edges of the entry at place p before edge n are passed, and edge n leads to a new entry, if it is there
pub record PassesEdges (g : List (List ℕ)) (s s' : Search) (p n : ℕ) : Type 0 where
  pub marks : s'.marks ≡ s.marks
  pub opened : s'.opened ≡ s.opened
  pub path : s'.path ≡ s.path
  pub search : IsSearchWith g s' (s.path.items ++ record { place = p; next = n } ∷ [])
  pub stops : n < length (targets g (at s.opened.items p))
      → mark s.marks.items (at (targets g (at s.opened.items p)) n) ≡ New

-- an entry is done, and lies on a cycle if `circular` is true
abbrev pub least_with : Bool → Option ℕ → ℕ → Option ℕ
least_with true least x = noted least x
least_with false least x = least

pub record Finishes (s s' : Search) (x : ℕ) (circular : Bool) : Type 0 where
  pub marks : s'.marks.items ≡ set s.marks.items x (Done s.done)
  pub opened : s'.opened ≡ s.opened
  pub groups : s'.groups ≡ s.groups
  pub path : s'.path ≡ s.path
  pub done : s'.done ≡ s.done + 1
  pub least : s'.least ≡ least_with circular s.least x

-- with the marks M, the open entries S, `done` entries that are done and the least on a cycle, the open entries from
-- place p on and before place u are done, and M', done' and least' are what there is then
pub record IsClosed (M : List Mark) (S : List ℕ) (done : ℕ) (least : Option ℕ) (M' : List Mark) (done' : ℕ)
    (least' : Option ℕ) (p u : ℕ) : Type 0 where
  pub more_done : done' ≡ done + (u - p)
  pub marked : length M' ≡ length M
  pub closed : (i : ℕ) → p ≤ i → i < u → (r : ℕ) × (mark M' (at S i) ≡ Done r) × (done ≤ r) × (r < done')
  pub others : (x : ℕ) → (mark M' x ≡ mark M x) ⊎ ((i : ℕ) × (p ≤ i) × (i < u) × (at S i ≡ x))
  pub counted : ((i : ℕ) → p ≤ i → i < u → is_new (mark M (at S i)) ≡ false) → count_new M' ≡ count_new M
  -- where there are several, each of them lies on a cycle
  pub noted_all : (i : ℕ) → p ≤ i → i < u → p + 1 < length S → IsAtMost least' (at S i)
  pub noted_only : (l : ℕ) → least' ≡ Some l
      → (least ≡ Some l) ⊎ ((p + 1 < length S) × (i : ℕ) × (p ≤ i) × (i < u) × (at S i ≡ l))
  pub least_kept : (x : ℕ) → IsAtMost least x → IsAtMost least' x

-- all open entries from place p on
pub record Closes (s s' : Search) (p : ℕ) : Type 0 where
  pub opened : s'.opened.items ≡ take p s.opened.items
  pub groups : s'.groups ≡ s.groups
  pub path : s'.path ≡ s.path
  pub closes : IsClosed s.marks.items s.opened.items s.done s.least s'.marks.items s'.done s'.least p
      (length s.opened.items)

-- the last of the groups begins at place p
abbrev pub EndsIn : List ℕ → ℕ → Type 0
EndsIn B p = (k : ℕ) × (length B ≡ k + 1) × (at B k ≡ p)

-- that group is done
pub record ClosesLast (s s' : Search) (p : ℕ) : Type 0 where
  pub ends : EndsIn s.groups.items p
  pub groups : s'.groups.items ≡ take (length s.groups.items - 1) s.groups.items
  pub opened : s'.opened.items ≡ take p s.opened.items
  pub path : s'.path ≡ s.path
  pub closes : IsClosed s.marks.items s.opened.items s.done s.least s'.marks.items s'.done s'.least p
      (length s.opened.items)

-- all edges of the entry at place p are passed. The last group is done, where it begins there
abbrev pub Leaves : Search → Search → ℕ → Type 0
Leaves s s' p = ((s' ≡ s) × (EndsIn s.groups.items p → ⊥)) ⊎ ClosesLast s s' p
