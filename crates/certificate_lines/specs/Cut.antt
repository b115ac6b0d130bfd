-- Bytes cut into lines in one go: the lines before the first fault, the fault, and what follows the last line feed.
use Rattle.std.specs.Prelude.{◌≡◌, ℕ, suc, List, [], ◌∷◌, length, Bool, true, false, cond, Option, Some, None}
use Rattle.certificate_lines.specs.Line.{Line}
use Rattle.certificate_lines.specs.Text.{fits}
use Rattle.certificate_lines.specs.Pieces.{pieces}
use Rattle.certificate_lines.specs.Reading.{line_of}
use Rattle.certificate_lines.specs.Reader.{Fault, NotALine, TooLong, Reader}

pub record Cut : Type 0 where
  pub lines : List Line
  -- the bytes after the last line feed, where there is no fault
  pub left : List ℕ
  pub fault : Option Fault

abbrev pub stops : Fault → Cut
stops f = record { lines = []; left = []; fault = Some f }

abbrev pub before : Line → Cut → Cut
before l c = record { lines = l ∷ c.lines; left = c.left; fault = c.fault }

-- a whole line of that number, and what the others give
abbrev pub begun : ℕ → Option Line → Cut → Cut
begun n (Some l) c = before l c
begun n None c = stops (NotALine n)

-- the pieces between line feeds, numbered from n; the last one is no whole line
abbrev pub cut_from : ℕ → List (List ℕ) → Cut
cut_from n [] = record { lines = []; left = []; fault = None }
cut_from n (p ∷ []) = cond (fits p) (record { lines = []; left = p; fault = None }) (stops (TooLong n))
cut_from n (p ∷ q ∷ ps) = cond (fits p) (begun n (line_of p) (cut_from (suc n) (q ∷ ps))) (stops (TooLong n))

abbrev pub cut : List ℕ → Cut
cut bytes = cut_from 1 (pieces 10 bytes)

-- the reader is where the bytes are cut: it gave these lines but for the one that waits, which is the last of them
pub record Stands (bytes : List ℕ) (ls : List Line) (r : Reader) : Type 0 where
  pub cut : cut bytes ≡ record { lines = ls; left = r.held; fault = r.fault }
  pub count : r.taken ≡ length ls
