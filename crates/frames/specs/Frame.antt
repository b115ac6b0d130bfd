-- What a frame of arrays or of objects requires of elements and members.
use Rattle.std.specs.Prelude.{ℕ, List, ◌++◌, flat_map, Bool, false, nat_le, Option, Some, None}
use Rattle.goals.specs.Signed.{Signed}

-- where something is: at one of the first places, or in a cell
pub data Place : Type 0 where
  Head : ℕ → Place
  In : ℕ → Place

pub record Frame : Type 0 where
  -- the literals
  pub set : List Signed
  -- at least so many, and fewer than that many
  pub lower : ℕ
  pub below : Option ℕ
  -- a plan counts for so many at least
  pub floor : ℕ
  -- so many first places
  pub heads : ℕ
  -- what some element has to serve, in order
  pub demands : List Signed
  -- what a literal requires of each, and of one that serves it
  pub each : Place → Signed → List Signed
  pub serving : Place → Signed → List Signed
  -- the cells in which one may be, in order; whether one there may serve a demand; how many a cell has
  pub cells : List ℕ
  pub inside : Signed → ℕ → Bool
  pub cap : ℕ → Option ℕ
  -- how many further ones a cell with so many members still has room for
  pub room : ℕ → ℕ → ℕ

-- the list of what is at a place and serves some demands
abbrev pub list_at : Frame → Place → List Signed → List Signed
list_at frame at ds = flat_map (frame.each at) frame.set ++ flat_map (frame.serving at) ds

abbrev pub is_at_end : ℕ → Option ℕ → Bool
is_at_end n None = false
is_at_end n (Some b) = nat_le b n
