-- What entries leave of the rooms of cells, by the cells of the members.
use Rattle.std.specs.Prelude.{ℕ, List, [], ◌∷◌, Bool, cond, Option, Some, None}
use Rattle.positions.specs.Position.{Position}
use Rattle.goals.specs.Signed.{Signed}
use Rattle.frames.specs.Frame.{In, Frame, list_at}
use Rattle.frames.specs.Fillers.{times}
use Rattle.frames.specs.PlanLines.{Ending, Entry, Kept, Ends, plus, room_of, is_refuted}

module _ (T : List Position) (cite : ℕ → List Signed → Bool) (frame : Frame) where
  -- no room, where what may be added in the cell is refuted
  abbrev pub refuted_room : ℕ → Ending → Option ℕ
  refuted_room c e = cond (is_refuted T cite (list_at frame (In c) []) e) (Some 0) None

  abbrev pub entry_room : List ℕ → ℕ → Entry → Option ℕ
  entry_room members c Kept = room_of (times c members) (frame.cap c)
  entry_room members c (Ends e) = refuted_room c e

  abbrev pub rooms_in : List ℕ → List ℕ → List Entry → Option ℕ
  rooms_in members [] [] = Some 0
  rooms_in members (c ∷ cs) (e ∷ es) = plus (entry_room members c e) (rooms_in members cs es)
  rooms_in members _ _ = None
