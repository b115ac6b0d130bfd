-- Shelves and sinks over memory, as contracts see them, and what a call does to each.
use Rattle.std.specs.Prelude.{◌≡◌, ℕ, ◌+◌, ◌<◌, ◌≤◌, ◌==◌, List, [], ◌∷◌, ◌++◌, length, take, drop, min, Bool, true, false}
use Rattle.std.specs.Prelude.{Option, None, Some, Result, Ok, Err}
use Rattle.std.specs.List.{list_any}
use Rattle.js_outside.specs.Counts.{one_more}
use Rattle.js_outside.specs.Told.{CountsMisses}
use Rattle.js_outside.specs.Contents.{Entries, contents, bytes_at}
use Rattle.js_outside.specs.declared.faults.BeginFault.{BeginFault}
use Rattle.js_outside.specs.declared.faults.BeginFault.TheVariants.{Failed, Memory}
use Rattle.js_outside.specs.declared.memory_shelf.Begun.{Begun}

-- a shelf over memory: its files, whether one is begun, what is left of it, the count of faults, and the names that
-- were begun
pub record ShelfState : Type 0 where
  pub files : Entries
  pub is_begun : Bool
  pub left : List ℕ
  pub faults : ℕ
  pub begun : List (List ℕ)

-- a shelf with no file begun and no fault
abbrev pub new_shelf : Entries → ShelfState
new_shelf files = record { files = files; is_begun = false; left = []; faults = 0; begun = [] }

-- each fault was a name that was begun and isn't there
abbrev pub FaultsAreMisses : ShelfState → Type 0
FaultsAreMisses s = CountsMisses (Some (contents s.files)) s.begun s.faults

-- what is left of the file that was begun, given its place and how much was read
abbrev pub left_of : Entries → Option Begun → List ℕ
left_of files None = []
left_of files (Some begun) = drop begun.position (bytes_at files begun.file)

-- the name was begun and failed: no file is begun, and there is a fault more
abbrev pub unbegun : ShelfState → List ℕ → ShelfState
unbegun s name = record s { is_begun = false; left = []; faults = one_more s.faults; begun = s.begun ++ name ∷ [] }

-- `begin`: the file of the name is there and is all left to be read, or it isn't there and the call failed
abbrev pub BeginsIn : {T : Type 0} → ShelfState → ShelfState → List ℕ → Result T BeginFault → Type 0
BeginsIn old new name (Ok x) =
    (contents old.files name ≡ Some new.left)
    × (new ≡ record old { is_begun = true; left = new.left; begun = old.begun ++ name ∷ [] })
BeginsIn old new name (Err Failed) = (contents old.files name ≡ None) × (new ≡ unbegun old name)
BeginsIn old new name (Err Memory) = ⊥

-- a read failed: nothing is read, and there is a fault more
abbrev pub unread : ShelfState → ShelfState
unread s = record s { faults = one_more s.faults }

-- `read` of at most `most` bytes: as many as are left and wanted come from the front of what is left, into
-- the front of the buffer. It doesn't fail
abbrev pub ReadsIn : {E : Type 0} → ShelfState → ShelfState → ℕ → List ℕ → List ℕ → Result ℕ E → Type 0
ReadsIn old new most before after (Ok count) =
    (count ≡ min (length old.left) (min most (length before)))
    × (after ≡ take count old.left ++ drop count before)
    × (new ≡ record old { left = drop count old.left })
ReadsIn old new most before after (Err fault) = ⊥

-- a listed call of `begin` failed
abbrev pub RefusesBegin : {T : Type 0} → ShelfState → ShelfState → List ℕ → Result T BeginFault → Type 0
RefusesBegin old new name (Ok x) = ⊥
RefusesBegin old new name (Err Failed) = new ≡ unbegun old name
RefusesBegin old new name (Err Memory) = ⊥

-- a listed call of `read` failed
abbrev pub RefusesRead : {T E : Type 0} → ShelfState → ShelfState → Result T E → Type 0
RefusesRead old new (Ok x) = ⊥
RefusesRead old new (Err fault) = new ≡ unread old

-- a sink over memory: what it holds, how much it may hold, and its count of faults
pub record SinkState : Type 0 where
  pub written : List ℕ
  pub room : ℕ
  pub faults : ℕ

-- a sink that holds nothing, with no fault
abbrev pub new_sink : ℕ → SinkState
new_sink room = record { written = []; room = room; faults = 0 }

-- the sink after one fault more
abbrev pub refusing : SinkState → SinkState
refusing s = record s { faults = one_more s.faults }

-- a listed call of `write` failed
abbrev pub RefusesWrite : {T E : Type 0} → SinkState → SinkState → Result T E → Type 0
RefusesWrite old new (Ok x) = ⊥
RefusesWrite old new (Err fault) = new ≡ refusing old

-- `write`: the piece fits and is appended whole, or it doesn't fit and the call failed
abbrev pub WritesIn : {E : Type 0} → SinkState → SinkState → List ℕ → Result ℕ E → Type 0
WritesIn old new piece (Ok count) =
    (length old.written + length piece ≤ old.room) × (count ≡ length piece)
    × (new ≡ record old { written = old.written ++ piece })
WritesIn old new piece (Err fault) =
    (old.room < length old.written + length piece) × (new ≡ refusing old)

-- the calls that are to fail, by their numbers, and how many calls were made
pub record PlanState : Type 0 where
  pub fail : List ℕ
  pub made : ℕ

-- the next call is to fail
abbrev pub is_due : PlanState → Bool
is_due p = list_any (λ call. call == p.made) p.fail

-- one call more was made
abbrev pub counted : PlanState → PlanState
counted p = record p { made = one_more p.made }

-- a shelf whose listed calls fail
pub record FailingShelfState : Type 0 where
  pub shelf : ShelfState
  pub plan : PlanState

-- a sink whose listed calls fail
pub record FailingSinkState : Type 0 where
  pub sink : SinkState
  pub plan : PlanState

-- a shelf that gives at most `piece` bytes in a read
pub record CutShelfState : Type 0 where
  pub shelf : ShelfState
  pub piece : ℕ

-- a sink that takes at most `piece` bytes in a write
pub record CutSinkState : Type 0 where
  pub sink : SinkState
  pub piece : ℕ
