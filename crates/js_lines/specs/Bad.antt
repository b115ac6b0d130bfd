-- The fault that a reader keeps.
use Rattle.certificate_lines.specs.Reader.{Fault, NotALine, TooLong}
use Rattle.js_lines.specs.declared.reader.BadLine.{BadLine}
use Rattle.js_lines.specs.declared.reader.BadLine.TheVariants as B

abbrev pub bad_view : BadLine → Fault
bad_view (B.NotALine n) = NotALine n
bad_view (B.TooLong n) = TooLong n
