use Rattle.std.proofs.Common.{is_ok}
use Rattle.js_pattern.specs.Escapes.{class_set}
use Rattle.js_pattern.proofs.Characters.{every_range-tried, every_range-class_set}
use Rattle.js_pattern.proofs.range_list.RangeList.push_class.Goals as goal

pub invariant_of-self : goal.invariant_of-self
invariant_of-self c = record {
  characters =
      rw (c.extend_from_slice.ensures.items, c.ranges-2.ensures)
      (every_range-tried (is_ok c.extend_from_slice.result) c.args.self.now.ranges.items
      (class_set c.args.class) c.args.self.now.characters
      (every_range-class_set c.args.class));
}
