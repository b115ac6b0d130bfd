-- At the rows of the atoms before the flag was written.
use Rattle.std.proofs.Common.{◌≡◌, ℕ, [], take, drop, get_or, length, nat_eq, nat_lt, true}
use Rattle.std.specs.List.{list_any}
use Rattle.documents.specs.Tests.{every, some}
use Rattle.js_cells.specs.Told.{AreSet}
use Rattle.js_cells.proofs.telling.set_where.Given as goal

abbrev pub invariant-loop-number : goal.invariant-loop-number
invariant-loop-number l = record {
  below : every (λ k. nat_lt k (length l.truths)) (drop l.number-index l.numbers) ≡ true;
  set : AreSet (λ r. some (λ k. list_any (nat_eq r) (get_or l.truths k [])) (take l.number-index l.numbers)) l.flag
      l.place l.initial.told.items l.told.items;
}
