-- What the certificate of a verdict is.
use Rattle.std.specs.Prelude.{◌≡◌, ℕ, List}
use Rattle.positions.specs.Position.{Position}
use Rattle.verdicts.specs.Verdict.{Accepted, verdict_of_bytes}
use Rattle.js_decide.specs.declared.verdict.Verdict.{Verdict}
use Rattle.js_decide.specs.declared.verdict.Verdict.TheVariants.{Certificate}

-- a certificate, where the verdict is one, is this text
abbrev pub HasCertificate : List ℕ → Verdict → Type 0
HasCertificate text (Certificate bytes) = bytes.items ≡ text
HasCertificate text v = Unit {0}

-- a certificate, where the verdict is one, is accepted for the two positions
abbrev pub IsAccepted : List Position → (a b : ℕ) → Verdict → Type 0
IsAccepted T a b (Certificate bytes) = verdict_of_bytes T a b bytes.items ≡ Accepted
IsAccepted T a b v = Unit {0}
