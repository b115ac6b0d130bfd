-- Of the first positions the ends are known.
use Rattle.std.proofs.Common.{◌≡◌, ◌<◌, ℕ, map, get_or}
use Rattle.goals.specs.Signed.{Plus}
use Rattle.goals.specs.Goal.{follow}
use Rattle.js_algebra.specs.View.{node_view, signed_view}
use Rattle.js_algebra.specs.Ends.{MayBeEnds}
use Rattle.js_algebra.proofs.ends.ends_of.Given as goal

abbrev pub invariant-loop-p : goal.invariant-loop-p
invariant-loop-p l = record {
  known : MayBeEnds (map node_view l.nodes) (map signed_view l.ends.items);
  first : (q : ℕ) → q < l.p
      → get_or (map signed_view l.ends.items) q (Plus q) ≡ follow (map node_view l.nodes) (Plus q);
}
