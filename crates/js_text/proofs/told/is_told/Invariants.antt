-- Each part so far meets `is_told`.
use Rattle.std.proofs.Common.{◌≡◌, take, true}
use Rattle.documents.specs.Tests.{every}
use Rattle.document_texts.specs.PartsRead.{is_told}
use Rattle.js_text.proofs.told.is_told.Given as goal

abbrev pub invariant-loop-number : goal.invariant-loop-number
invariant-loop-number l = every is_told (take l.number l.parts) ≡ true
