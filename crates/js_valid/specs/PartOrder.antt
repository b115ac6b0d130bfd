-- A document beside a part, neither of which has parts of its own, in the order of documents.
use Rattle.std.specs.Prelude.{ℕ}
use Rattle.std.proofs.Common.{Ordering}
use Rattle.std.specs.Ordering.{nat_cmp, int_cmp, bool_cmp}
use Rattle.std.specs.Cmp.Lexicographic.{slice_cmp}
use Rattle.documents.specs.Document as D
use Rattle.shared_documents.specs.Part as P
use Rattle.js_valid.specs.DocumentOrder.{rank}

abbrev pub part_rank : P.Part → ℕ
part_rank P.null = 0
part_rank (P.boolean b) = 1
part_rank (P.number n) = 2
part_rank (P.string w) = 3
part_rank (P.array is) = 4
part_rank (P.object ms) = 5

abbrev pub scalar_cmp : D.Document → P.Part → Ordering
scalar_cmp (D.boolean b) (P.boolean c) = bool_cmp b c
scalar_cmp (D.number m) (P.number n) = int_cmp m n
scalar_cmp (D.string v) (P.string w) = slice_cmp nat_cmp v w
scalar_cmp d p = nat_cmp (rank d) (part_rank p)
