use Rattle.std.proofs.Common.{◌≤◌, ◌-◌, length}
use Rattle.documents.specs.Json.{count}
use Rattle.schema_laws.specs.Walking.{IsReading}
use Rattle.js_keywords.specs.Reading.{rules}
use Rattle.js_pointers.specs.PointersView.{pointers_of}
use Rattle.js_walk.specs.FileView.{root_of}
use Rattle.js_walk.specs.Walking.{done_places, stack_view, Kept}
use Rattle.js_walk.proofs.steps.walk.Given as goal

abbrev pub invariant-loop-place : goal.invariant-loop-place
invariant-loop-place l = record {
  reading : IsReading rules (root_of l.fn.file) (done_places (pointers_of l.walked.pointers) l.walked.done)
      (stack_view (pointers_of l.walked.pointers) l.waiting.items) l.walked.weight;
  light : l.walked.weight ≤ 2147483647;
  kept : Kept (root_of l.fn.file) (pointers_of l.walked.pointers) l.walked.done l.waiting.items;
}

abbrev pub decreases-loop-place : goal.decreases-loop-place
decreases-loop-place l = count (root_of l.fn.file) - length (done_places (pointers_of l.walked.pointers) l.walked.done)
