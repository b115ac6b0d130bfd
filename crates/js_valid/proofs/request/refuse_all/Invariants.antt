use Rattle.std.proofs.Common.{◌≡◌, ℕ, ◌&&◌, drop, length}
use Rattle.js_valid.specs.Parts.{flag, answered}
use Rattle.js_valid.specs.Requests.{owners_in}
use Rattle.js_valid.proofs.request.refuse_all.Given as goal

abbrev pub invariant-loop-i : goal.invariant-loop-i
invariant-loop-i l = record {
  len : length l.table.items ≡ length l.fn.table.items;
  value : (j : ℕ) → (flag l.table.items j && answered j (owners_in (drop l.i l.requests)) (drop l.i l.answers))
      ≡ (flag l.fn.table.items j && answered j (owners_in l.requests) l.answers);
}
