-- What has become of bytes that were read, while no fault was met.
use Rattle.std.specs.Prelude.{◌≡◌, ℕ, ◌^◌, ◌<◌, ◌≤◌, List, true, is_none, vec_len}
use Rattle.positions.specs.Position.{Position}
use Rattle.certificate_lines.specs.Line.{Line}
use Rattle.certificate_lines.specs.Cut.{Stands}
use Rattle.js_certificate.specs.BatchView as B
use Rattle.js_certificate.specs.BatchView.{lines_of, fault_of, StandsFor}
use Rattle.js_certificate.specs.declared.lines.LineJudge.{LineJudge}

abbrev pub table_of : LineJudge → List Position
table_of p = B.table_of p.batch

abbrev pub premise_of : LineJudge → ℕ
premise_of p = B.premise_of p.batch

abbrev pub conclusion_of : LineJudge → ℕ
conclusion_of p = B.conclusion_of p.batch

-- how many lines wait
abbrev pub waiting_of : LineJudge → ℕ
waiting_of p = vec_len p.batch.waiting

-- the bytes are cut into lines for which the batch stands, and a part of a line, which the reader holds
pub record AreJudged (p : LineJudge) (bytes : List ℕ) : Type 0 where
  pub lines : List Line
  pub reader : Stands bytes lines p.reader
  pub batch : StandsFor p.batch lines

-- between pieces, while no fault was met: no line waits in the reader, and there are no more lines than bytes
pub record IsWell (p : LineJudge) : Type 0 where
  pub idle : is_none p.reader.waiting ≡ true
  pub sound : is_none p.reader.fault ≡ true
  pub going : is_none (fault_of p.batch) ≡ true
  pub taken : p.reader.taken ≤ p.bytes
  pub lines : lines_of p.batch ≤ p.bytes
  pub few : p.bytes < 2 ^ 63
