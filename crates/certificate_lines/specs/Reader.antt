-- A reader of lines: where it is, and what each piece of bytes makes of it.
use Rattle.std.specs.Prelude.{ℕ, suc, ◌+◌, List, [], ◌∷◌, ◌++◌, length, Bool, true, false, cond, Option, Some, None}
use Rattle.certificate_lines.specs.Line.{Line}
use Rattle.certificate_lines.specs.Text.{fits}
use Rattle.certificate_lines.specs.Pieces.{split_at}
use Rattle.certificate_lines.specs.Reading.{line_of}

-- what is wrong with bytes, with the number of the line, from 1
pub data Fault : Type 0 where
  -- the line isn't too long, and isn't in the grammar
  NotALine : ℕ → Fault
  -- the line has more bytes than the longest one
  TooLong : ℕ → Fault
  -- the bytes end within a line
  Unfinished : Fault

pub record Reader : Type 0 where
  -- how many line feeds came
  pub taken : ℕ
  -- the bytes after the last line feed
  pub held : List ℕ
  -- the line that came last, until it is given
  pub waiting : Option Line
  -- the fault that was met; nothing is read behind it
  pub fault : Option Fault

abbrev pub fresh : Reader
fresh = record { taken = 0; held = []; waiting = None; fault = None }

abbrev pub stopped : Reader → Fault → Reader
stopped r f = record { taken = r.taken; held = []; waiting = None; fault = Some f }

-- the number of the line that is being read
abbrev pub number : Reader → ℕ
number r = suc r.taken

abbrev pub with_line : Reader → Option Line → Reader
with_line r (Some l) = record { taken = suc r.taken; held = []; waiting = Some l; fault = None }
with_line r None = stopped r (NotALine (number r))

-- after a whole line
abbrev pub ended : Reader → List ℕ → Reader
ended r xs = cond (fits xs) (with_line r (line_of xs)) (stopped r (TooLong (number r)))

-- after bytes of a line
abbrev pub grown : Reader → List ℕ → Reader
grown r xs =
    cond (fits xs) (record { taken = r.taken; held = xs; waiting = None; fault = None })
    (stopped r (TooLong (number r)))

abbrev pub fed_at : Reader → List ℕ → Option (List ℕ × List ℕ) → Reader
fed_at r piece (Some (front, rest)) = ended r (r.held ++ front)
fed_at r piece None = grown r (r.held ++ piece)

-- after a piece, up to and with its first line feed; nothing changes after a fault
abbrev pub fed_unless : Reader → List ℕ → Option Fault → Reader
fed_unless r piece (Some f) = r
fed_unless r piece None = fed_at r piece (split_at 10 piece)

abbrev pub fed : Reader → List ℕ → Reader
fed r piece = fed_unless r piece r.fault

-- how many bytes of a piece are read: those up to and with the first line feed, or all where there is none
abbrev pub count_of : List ℕ → Option (List ℕ × List ℕ) → ℕ
count_of piece (Some (front, rest)) = suc (length front)
count_of piece None = length piece

abbrev pub read_count : List ℕ → ℕ
read_count piece = count_of piece (split_at 10 piece)

-- after the line that waits was given
abbrev pub given : Reader → Reader
given r = record { taken = r.taken; held = r.held; waiting = None; fault = r.fault }

-- where the bytes end: the fault that was met, or a part of a line that is held
abbrev pub left_over : List ℕ → Option Fault
left_over [] = None
left_over (x ∷ xs) = Some Unfinished

abbrev pub unless : Option Fault → List ℕ → Option Fault
unless (Some f) held = Some f
unless None held = left_over held

abbrev pub at_end : Reader → Option Fault
at_end r = unless r.fault r.held
