use Rattle.std.proofs.Common.{◌≡◌, ◌++◌, ◌&&◌, nat_lt, map, drop}
use Rattle.js_valid.specs.Parts.{flag}
use Rattle.js_valid.proofs.tables.tests_of.Given as goal

abbrev pub invariant-loop-entry : goal.invariant-loop-entry
invariant-loop-entry l =
    l.tests.items ++ map (λ q. nat_lt q l.count && flag l.table q) (drop l.entry-index l.entries)
    ≡ map (λ q. nat_lt q l.count && flag l.table q) l.entries
