-- What a contract sees of a judge of bytes.
use Rattle.std.specs.Prelude.{ℕ, List, Option, Some, None}
use Rattle.positions.specs.Position.{Position}
use Rattle.js_checker.specs.declared.fault.CheckFault.{CheckFault}
use Rattle.js_certificate.specs.Broken.{AreBroken}
use Rattle.js_certificate.specs.LinesView as L
use Rattle.js_certificate.specs.LinesView.{AreJudged}
use Rattle.js_certificate.specs.declared.lines.LineJudge.{LineJudge}
use Rattle.js_certificate.specs.declared.judge.CertificateJudge.{CertificateJudge}

-- the table, and the positions of which the first is to imply the second
abbrev pub table_of : CertificateJudge → List Position
table_of j = L.table_of j.lines

abbrev pub premise_of : CertificateJudge → ℕ
premise_of j = L.premise_of j.lines

abbrev pub conclusion_of : CertificateJudge → ℕ
conclusion_of j = L.conclusion_of j.lines

-- how many bytes were read
abbrev pub bytes_of : CertificateJudge → ℕ
bytes_of j = j.lines.bytes

-- how many lines wait to be judged
abbrev pub waiting_of : CertificateJudge → ℕ
waiting_of j = L.waiting_of j.lines

-- the first fault
abbrev pub fault_of : CertificateJudge → Option CheckFault
fault_of j = j.fault

-- after a fault whatever comes is judged as the fault says
abbrev pub StandsUnless : Option CheckFault → LineJudge → List ℕ → Type 0
StandsUnless None p bytes = AreJudged p bytes
StandsUnless (Some fault) p bytes = AreBroken (L.table_of p) (L.premise_of p) (L.conclusion_of p) fault bytes

-- the judge stands for the bytes
abbrev pub StandsForBytes : CertificateJudge → List ℕ → Type 0
StandsForBytes j bytes = StandsUnless j.fault j.lines bytes
