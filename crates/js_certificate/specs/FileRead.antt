-- What was read of a file.
use Rattle.std.specs.Prelude.{◌≡◌, ℕ, List, ◌++◌, length, Option, None, Some}
use Rattle.js_outside.specs.Told.{Files}
use Rattle.js_certificate.specs.JudgeView.{bytes_of, StandsForBytes}
use Rattle.js_certificate.specs.declared.judge.CertificateJudge.{CertificateJudge}

-- the file has the bytes that were read, and then those that are left
abbrev pub ReadSoFar : Option Files → List ℕ → List ℕ → Option (List ℕ) → Type 0
ReadSoFar None name bytes left = Unit {0}
ReadSoFar (Some files) name bytes left =
    (rest : List ℕ) × (left ≡ Some rest) × (files name ≡ Some (bytes ++ rest))

-- the judge stands for what was read of the file
abbrev pub StandsForFile : CertificateJudge → Option Files → List ℕ → Option (List ℕ) → Type 0
StandsForFile j told name left =
    (bytes : List ℕ) × StandsForBytes j bytes × (bytes_of j ≡ length bytes) × ReadSoFar told name bytes left
