use Rattle.std.proofs.Common.{◌≡◌, length}
use Rattle.js_valid.specs.PartTables.{document_of}
use Rattle.js_valid.proofs.Settled.{Known}
use Rattle.js_valid.proofs.PartVerdictLaws.{all_asked}
use Rattle.js_valid.specs.Plan.{table_of}
use Rattle.js_valid.proofs.validator.Validator.settle_part.Given as goal

abbrev pub invariant-loop-place : goal.invariant-loop-place
invariant-loop-place l = record {
  len : length l.table.items ≡ length (table_of l.self);
  known : Known (table_of l.self) l.self.plan.now.order.items (document_of l.part)
      (all_asked (table_of l.self)) l.place l.table.items;
}
