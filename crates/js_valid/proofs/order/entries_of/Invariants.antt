use Rattle.std.proofs.Common.{◌≡◌, ℕ, ◌++◌, map, drop}
use Rattle.js_valid.proofs.order.entries_of.Given as goal

abbrev pub invariant-loop-pair : goal.invariant-loop-pair
invariant-loop-pair l =
    l.entries.items ++ map (λ (p : ℕ × ℕ). p.1) (drop l.pair-index l.pairs) ≡ map (λ (p : ℕ × ℕ). p.1) l.pairs
