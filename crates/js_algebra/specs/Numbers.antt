-- Signed positions by their number in the order of all.
use Rattle.std.specs.Prelude.{ℕ, ◌/◌, ◌%◌, ◌^◌, List, Bool, nat_eq, nat_lt}
use Rattle.documents.specs.Tests.{every}
use Rattle.goals.specs.Signed.{Signed}
use Rattle.js_algebra.specs.View.{with_sign}

abbrev pub signed_at : ℕ → Signed
signed_at n = with_sign (nat_eq (n % 2) 0) (n / 2)

-- numbers of signed positions whose place fits
abbrev pub are_numbers : List ℕ → Bool
are_numbers ns = every (λ n. nat_lt n (2 ^ 33)) ns
