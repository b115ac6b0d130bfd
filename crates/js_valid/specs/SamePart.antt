-- Whether a document is that of a part without parts of its own.
use Rattle.std.specs.Prelude.{Bool, true, false, not, cond}
use Rattle.std.specs.Ordering.{int_eq}
use Rattle.documents.specs.Tests.{same_word}
use Rattle.documents.specs.Document as D
use Rattle.shared_documents.specs.Part as P

abbrev pub same_scalar : D.Document → P.Part → Bool
same_scalar D.null P.null = true
same_scalar (D.boolean b) (P.boolean c) = cond b c (not c)
same_scalar (D.number m) (P.number n) = int_eq m n
same_scalar (D.string v) (P.string w) = same_word v w
same_scalar d p = false
