-- Texts whose bytes are their characters.
use Rattle.std.specs.Prelude.{ℕ, List, Bool, nat_lt}
use Rattle.documents.specs.Tests.{every}

abbrev pub is_ascii : List ℕ → Bool
is_ascii bytes = every (λ c. nat_lt c 128) bytes
