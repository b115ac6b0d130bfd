-- Where a line is rejected, how far the file was read.
use Rattle.std.specs.Prelude.{◌≡◌, ℕ, suc, ◌+◌, ◌<◌, ◌≤◌, List, [], ◌∷◌, ◌++◌, length, Option, None, Some, cond, nat_eq}
use Rattle.js_outside.specs.Told.{Files}
use Rattle.js_certificate.specs.declared.file.FileVerdict.{FileVerdict}
use Rattle.js_certificate.specs.declared.file.FileVerdict.TheVariants as F

-- how many lines of bytes are whole: each ends with a line feed
abbrev pub whole_lines : List ℕ → ℕ
whole_lines [] = 0
whole_lines (b ∷ bs) = cond (nat_eq b 10) (suc (whole_lines bs)) (whole_lines bs)

-- how many lines wait at most between pieces, for so many workers: none for one, and fewer than a batch of 65,536 for
-- several
abbrev pub most_waiting : (workers : ℕ) → ℕ
most_waiting workers = cond (nat_eq workers 1) 0 65535

-- how many bytes a piece has at most
abbrev pub longest_piece : ℕ
longest_piece = 65536

-- The file is what was read before the last piece, that piece, and what is left of it. The whole lines of the first are
-- fewer than the number of the line and those that may wait: so with one worker nothing is read behind the piece that
-- ends the line, and with several at most 65,535 whole lines and a piece are.
pub record IsReadTo (files : Files) (name : List ℕ) (left : Option (List ℕ)) (workers line : ℕ) : Type 0 where
  pub before : List ℕ
  pub piece : List ℕ
  pub rest : List ℕ
  pub file : files name ≡ Some (before ++ (piece ++ rest))
  pub is_left : left ≡ Some rest
  pub short : length piece ≤ longest_piece
  pub few : whole_lines before < line + most_waiting workers

-- where files are known
abbrev pub IsReadToLine : Option Files → List ℕ → Option (List ℕ) → (workers line : ℕ) → Type 0
IsReadToLine None name left workers line = Unit {0}
IsReadToLine (Some files) name left workers line = IsReadTo files name left workers line

-- how far the file is read where the verdict rejects a line
abbrev pub IsReadFor : Option Files → List ℕ → Option (List ℕ) → (workers : ℕ) → FileVerdict → Type 0
IsReadFor told name left workers F.Accepted = Unit {0}
IsReadFor told name left workers (F.Rejected line rule) = IsReadToLine told name left workers line
