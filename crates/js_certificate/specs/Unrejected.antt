-- Where a file isn't judged to its end, that no line which was read before is rejected.
use Rattle.std.specs.Prelude.{◌≡◌, ℕ, ◌+◌, ◌<◌, ◌≤◌, List, ◌++◌, length, Bool, true, Option, None, Some}
use Rattle.verdicts.specs.Verdict.{Verdict, Rejected}
use Rattle.js_outside.specs.Told.{Files}
use Rattle.js_certificate.specs.FileVerdicts.{longest_file}
use Rattle.js_certificate.specs.ReadBehind.{whole_lines, longest_piece}
use Rattle.js_certificate.specs.declared.file.FileFault.{FileFault}
use Rattle.js_certificate.specs.declared.file.FileFault.TheVariants.{TooLong, Read, Memory}

-- whatever follows the bytes, the first line that breaks a rule is none of their whole lines
abbrev pub NoneIsRejected : (List ℕ → Verdict) → List ℕ → Type 0
NoneIsRejected verdict bytes = (more : List ℕ) (line rule : ℕ) → verdict (bytes ++ more) ≡ Rejected line rule
    → whole_lines bytes < line

-- A read failed: the file is what was read before, of which no whole line is rejected, and what is left of it.
pub record IsReadUnrejected (verdict : List ℕ → Verdict) (files : Files) (name : List ℕ) (left : Option (List ℕ))
    : Type 0 where
  pub read : List ℕ
  pub rest : List ℕ
  pub file : files name ≡ Some (read ++ rest)
  pub is_left : left ≡ Some rest
  pub unrejected : NoneIsRejected verdict read

-- More bytes were read than a file may have: what was read before the last piece, of which no whole line is rejected,
-- and that piece. What is left follows.
pub record IsReadTooFar (verdict : List ℕ → Verdict) (files : Files) (name : List ℕ) (left : Option (List ℕ))
    : Type 0 where
  pub before : List ℕ
  pub piece : List ℕ
  pub rest : List ℕ
  pub file : files name ≡ Some (before ++ (piece ++ rest))
  pub is_left : left ≡ Some rest
  pub short : length piece ≤ longest_piece
  pub long : longest_file < length before + length piece
  pub unrejected : NoneIsRejected verdict before

-- a file that was begun and isn't judged to its end, where files are known; where memory was refused, nothing is said
abbrev pub StopsUnrejected : (List ℕ → Verdict) → Option Files → List ℕ → Option (List ℕ) → FileFault → Type 0
StopsUnrejected verdict None name left fault = Unit {0}
StopsUnrejected verdict (Some files) name left TooLong = IsReadTooFar verdict files name left
StopsUnrejected verdict (Some files) name left Read = IsReadUnrejected verdict files name left
StopsUnrejected verdict (Some files) name left Memory = Unit {0}

-- a file that isn't judged to its end: a read failed where the file is begun, and else it couldn't be begun
abbrev pub FailsUnrejected : (List ℕ → Verdict) → Option Files → List ℕ → (is_begun : Bool) → Option (List ℕ)
    → FileFault → Type 0
FailsUnrejected verdict told name is_begun left TooLong = StopsUnrejected verdict told name left TooLong
FailsUnrejected verdict told name is_begun left Read = is_begun ≡ true → StopsUnrejected verdict told name left Read
FailsUnrejected verdict told name is_begun left Memory = Unit {0}
