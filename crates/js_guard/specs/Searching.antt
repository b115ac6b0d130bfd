-- What a search along edges keeps.
use Rattle.std.specs.Prelude.{◌≡◌, ℕ, ◌+◌, ◌<◌, ◌≤◌, ◌⊎◌, List, length, get_or, min, Bool, true, false, Option, Some, None, count_by}
use Rattle.schemas.specs.Guarded.{targets, is_among, leads, IsOnCycle, IsLeastOnCycle, are_ranks}
use Rattle.js_guard.specs.declared.search.Mark.{Mark}
use Rattle.js_guard.specs.declared.search.Mark.TheVariants.{New, Open, Done}
use Rattle.js_guard.specs.declared.search.Turn.{Turn}
use Rattle.js_guard.specs.declared.search.Found.{Found}
use Rattle.js_guard.specs.declared.search.Found.TheVariants.{Ranked, Circular}

abbrev pub mark : List Mark → ℕ → Mark
mark M x = get_or M x New

abbrev pub is_new : Mark → Bool
is_new New = true
is_new (Open p) = false
is_new (Done r) = false

abbrev pub rank_of : Mark → ℕ
rank_of New = 0
rank_of (Open p) = 0
rank_of (Done r) = r

abbrev pub count_new : List Mark → ℕ
count_new M = count_by is_new M

-- the entry at a place among the open ones
abbrev pub at : List ℕ → ℕ → ℕ
at S i = get_or S i 0

abbrev pub turn_at : List Turn → ℕ → Turn
turn_at P k = get_or P k (record { place = 0; next = 0 })

-- some way leads from x to y
abbrev pub Reaches : List (List ℕ) → ℕ → ℕ → Type 0
Reaches g x y = (n : ℕ) × (leads g n x y ≡ true)

-- no group begins past place j and not past place i
abbrev pub Together : List ℕ → ℕ → ℕ → Type 0
Together B j i = (k : ℕ) → k < length B → j < at B k → i < at B k

abbrev pub IsAtMost : Option ℕ → ℕ → Type 0
IsAtMost None x = ⊥
IsAtMost (Some l) x = l ≤ x

abbrev pub noted : Option ℕ → ℕ → Option ℕ
noted None x = Some x
noted (Some l) x = Some (min l x)

-- an edge from the open entry at place i to an entry with that mark is passed: it leads to one that is done, or back to
-- one of the same group or on to a later one, which is noted then
abbrev pub IsPassed : List ℕ → Option ℕ → ℕ → ℕ → Mark → Type 0
IsPassed B least i w New = ⊥
IsPassed B least i w (Open j) = Together B j i × IsAtMost least w
IsPassed B least i w (Done r) = Unit {0}

-- edge e of the open entry at place i is still to be followed
abbrev pub IsAhead : List Turn → ℕ → ℕ → Type 0
IsAhead P i e = (k : ℕ) × (k < length P) × ((turn_at P k).place ≡ i) × ((turn_at P k).next ≤ e)

-- edge e of the entry x, which is open at place i, is passed or still to be followed
abbrev pub IsTaken : List (List ℕ) → List Mark → List ℕ → List Turn → Option ℕ → ℕ → ℕ → ℕ → Type 0
IsTaken g M B P least i x e =
    IsAhead P i e ⊎ IsPassed B least i (at (targets g x) e) (mark M (at (targets g x) e))

-- groups to which those that begin past place p were joined
pub record IsJoined (B B' : List ℕ) (p : ℕ) : Type 0 where
  pub fewer : length B' ≤ length B
  pub kept : (k : ℕ) → k < length B' → at B' k ≡ at B k
  pub last : (k : ℕ) → length B' ≡ k + 1 → at B k ≤ p
  pub past : (k : ℕ) → length B' ≤ k → k < length B → p < at B k

-- marks M of the entries, open entries S, beginnings B of their groups, the path P of entries whose edges are being
-- followed, the number of entries that are done, and the least entry that is known to lie on a cycle
pub record IsSearch (g : List (List ℕ)) (M : List Mark) (S B : List ℕ) (P : List Turn) (done : ℕ) (least : Option ℕ)
    : Type 0 where
  pub marked : length M ≡ length g
  pub open_marked : (i : ℕ) → i < length S → mark M (at S i) ≡ Open i
  pub marked_open : (x i : ℕ) → mark M x ≡ Open i → (i < length S) × (at S i ≡ x)
  -- groups
  pub first_group : 0 < length S → (0 < length B) × (at B 0 ≡ 0)
  pub groups_within : (k : ℕ) → k < length B → at B k < length S
  pub groups_rise : (k l : ℕ) → k < l → l < length B → at B k < at B l
  pub reach : (i j : ℕ) → i < length S → j < length S → Together B j i → Reaches g (at S i) (at S j)
  -- edges of open entries
  pub taken : (i e : ℕ) → i < length S → e < length (targets g (at S i)) → IsTaken g M B P least i (at S i) e
  -- the path
  pub path_rises : (k l : ℕ) → k < l → l < length P → (turn_at P k).place < (turn_at P l).place
  pub path_within : (k : ℕ) → k < length P → (turn_at P k).place < length S
  pub path_groups : (k : ℕ) → k < length B → (l : ℕ) × (l < length P) × ((turn_at P l).place ≡ at B k)
  -- entries that are done
  pub done_closed : (x y r : ℕ) → mark M x ≡ Done r → is_among y (targets g x) ≡ true
      → (q : ℕ) × (mark M y ≡ Done q) × (least ≡ None → q < r)
  pub done_least : (x r : ℕ) → mark M x ≡ Done r → IsOnCycle g x → IsAtMost least x
  pub least_on : (l : ℕ) → least ≡ Some l → IsOnCycle g l
  pub ranks_below : (x r : ℕ) → mark M x ≡ Done r → r < done
  pub counted : count_new M + length S + done ≡ length g

-- what was found of all entries
abbrev pub Finds : List (List ℕ) → Found → Type 0
Finds g (Ranked ranks) = are_ranks g ranks ≡ true
Finds g (Circular x) = IsLeastOnCycle g x
