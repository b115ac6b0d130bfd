use Rattle.std.proofs.Common.{◌≡◌, codes}
use Rattle.families.specs.Objects.{by_name, first}
use Rattle.families.specs.Families as F
use Rattle.js_gen.specs.MembersView.{entries_of}
use Rattle.js_gen.proofs.wide.numbers_from_zero.Given as goal

abbrev pub invariant-loop-i : goal.invariant-loop-i
invariant-loop-i l = entries_of l.schemas ≡ by_name (first (λ i. (F.numbered (codes "p") i, F.integer_from 0)) l.i)
