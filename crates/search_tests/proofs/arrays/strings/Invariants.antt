-- All are the position of strings.
use Rattle.std.proofs.Common.{◌≡◌, true, nat_lt}
use Rattle.documents.specs.Tests.{every}
use Rattle.search_tests.proofs.arrays.strings.Given as goal

abbrev pub invariant-loop : goal.invariant-loop
invariant-loop l = every (λ p. nat_lt p.0 14) l.first.items ≡ true
