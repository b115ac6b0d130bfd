-- How two schemas compare, by the entries that they are read as.
use Rattle.std.specs.Prelude.{ℕ, List, length}
use Rattle.schemas.specs.Entry.{Entry}
use Rattle.positions.specs.Position.{Position}
use Rattle.position_laws.specs.Join.{joined}
use Rattle.normal_forms.specs.NormalForm.{table_of}
use Rattle.decisions.specs.Decision as D
use Rattle.decisions.specs.Decision.{decision}
use Rattle.certificate_lines.specs.Line.{Line}
use Rattle.certificate_lines.specs.Text.{lines_text}
use Rattle.verdicts.specs.Verdict as V
use Rattle.verdicts.specs.Verdict.{verdict_of_bytes}
use Rattle.refutations.specs.Refutation.{refutation}
use Rattle.js_normal.specs.PatternTrees.{tree_of}
use Rattle.js_expander.specs.Found.{finders}

-- the core table of a schema, whose root is position 0
abbrev pub core_of : List Entry → List Position
core_of es = table_of tree_of es

-- the table of both schemas: the first one's root is position 0, and the second one's position `second_root`
abbrev pub both : List Entry → List Entry → List Position
both es fs = joined (core_of es) (core_of fs)

abbrev pub second_root : List Entry → ℕ
second_root es = length (core_of es)

-- what is decided of the two roots, and what was looked at for it
abbrev pub decided_of : List Entry → List Entry → D.Decided
decided_of es fs = decision (finders (both es fs)) (both es fs) 0 (second_root es)

-- whether a document is valid for the first schema and not for the second
abbrev pub comparison : List Entry → List Entry → D.Verdict
comparison es fs = (decided_of es fs).verdict

-- the certificate where there is no such document: its lines, and how they are written
abbrev pub certificate : List Entry → List Entry → List Line
certificate es fs = refutation (both es fs) 0 (second_root es)

abbrev pub certificate_text : List Entry → List Entry → List ℕ
certificate_text es fs = lines_text (certificate es fs)

-- what is judged of bytes that are to show that each document that is valid for the first schema is valid for the
-- second
abbrev pub judgement : List Entry → List Entry → List ℕ → V.Verdict
judgement es fs bytes = verdict_of_bytes (both es fs) 0 (second_root es) bytes
