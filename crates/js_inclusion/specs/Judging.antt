-- What is judged of a certificate's file for two schemas.
use Rattle.std.specs.Prelude.{◌≡◌, ◌⊎◌, ℕ, List, [], ◌∷◌, ◌++◌, Option, Result, Err}
use Rattle.schemas.specs.Entry.{Entry}
use Rattle.js_outside.specs.Told.{Files}
use Rattle.js_certificate.specs.FileVerdicts.{verdict_view, HasBytes}
use Rattle.js_certificate.specs.declared.file.FileVerdict.{FileVerdict}
use Rattle.js_certificate.specs.declared.file.FileFault.{FileFault}
use Rattle.js_certificate.specs.declared.file.FileFault.TheVariants.{Memory}
use Rattle.js_inclusion.specs.Comparison.{judgement}

-- it is the judgement on the bytes of the file; where files aren't known, on some bytes
abbrev pub IsJudgementOf : List Entry → List Entry → Option Files → List ℕ → FileVerdict → Type 0
IsJudgementOf es fs told name v =
    (bytes : List ℕ) × HasBytes told name bytes × (judgement es fs bytes ≡ verdict_view v)

-- the file is begun; where memory is refused, it may not be
abbrev pub Begins : Result FileVerdict FileFault → (name : List ℕ) → (before after : List (List ℕ)) → Type 0
Begins (Err Memory) name before after = (after ≡ before) ⊎ (after ≡ before ++ name ∷ [])
Begins r name before after = after ≡ before ++ name ∷ []
