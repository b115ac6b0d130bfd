-- The parts that were read, and the lines that are left, are all of the text.
use Rattle.std.proofs.Common.{◌≡◌, ◌++◌, length}
use Rattle.document_texts.specs.PartsText.{count_text}
use Rattle.document_text_laws.proofs.ReadLaws.{Reading}
use Rattle.js_text.proofs.table_reader.read_lines.Given as goal

abbrev pub invariant-loop : goal.invariant-loop
invariant-loop l = record {
  reading : Reading l.count l.parts l.left (count_text l.count ++ l.lines);
  size : length l.parts ≡ l.counter;
}
