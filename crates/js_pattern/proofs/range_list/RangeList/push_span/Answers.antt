use Rattle.std.proofs.Common.{[], ◌∷◌, ◌++◌, is_ok, refl}
use Rattle.std.proofs.lemmas.Bool.{and_from}
use Rattle.js_pattern.proofs.Characters.{every_range-push, every_range-tried, is_range-low, is_range-high, is_range-up}
use Rattle.js_pattern.proofs.range_list.RangeList.push_span.Goals as goal

pub invariant_of-self-then-high-gt57343 : goal.invariant_of-self-then-high-gt57343
invariant_of-self-then-high-gt57343 c = record {
  characters =
      rw (c.push-then-high-gt57343.ensures.items, c.in_ok-push.ensures.items)
      (every_range-tried (is_ok c.push-then-high-gt57343.result)
      (c.args.self.now.ranges.items ++ (c.args.low, 0xd7ff) ∷ [])
      ((0xe000, c.args.high) ∷ [])
      (every_range-push c.args.self.now.ranges.items (c.args.low, 0xd7ff) c.args.self.now.characters
      (is_range-low c.args.low c.if-low-lt55296.true))
      (and_from _ _ (is_range-high c.args.high c.ranges.high.0 c.if-high-gt57343.true) refl));
}

pub invariant_of-self-else-low-lt55296 : goal.invariant_of-self-else-low-lt55296
invariant_of-self-else-low-lt55296 c = record {
  characters =
      rw c.push-else-low-lt55296.ensures.items
      (every_range-tried (is_ok c.push-else-low-lt55296.result) c.args.self.now.ranges.items
      ((c.args.low, c.args.high) ∷ [])
      c.args.self.now.characters
      (and_from _ _ (is_range-up c.args.low c.args.high c.ranges.low.0 c.ranges.high.0 c.requires
      c.else-low-lt55296.either) refl));
}
