use Rattle.std.proofs.Common.{[], ◌∷◌, is_ok, refl}
use Rattle.std.proofs.lemmas.Bool.{and_from}
use Rattle.js_pattern.proofs.Characters.{every_range-tried, is_range-one}
use Rattle.js_pattern.proofs.range_list.RangeList.push.Goals as goal

pub invariant_of-self : goal.invariant_of-self
invariant_of-self c = record {
  characters =
      rw c.push.ensures.items
      (every_range-tried (is_ok c.push.result) c.args.self.now.ranges.items
      ((c.args.c, c.args.c) ∷ []) c.args.self.now.characters
      (and_from _ _ (is_range-one c.args.c c.ranges.c.0) refl));
}
