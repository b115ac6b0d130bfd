-- Positions with their ranks.
use Rattle.std.specs.Prelude.{ℕ, List, map, Bool, nat_eq, get_or}
use Rattle.documents.specs.Tests.{every}
use Rattle.js_tableau.specs.declared.name_plan.Ranked.{Ranked}

abbrev pub places_of : List Ranked → List ℕ
places_of rs = map (λ r. r.pos.0) rs

-- the ranks are those of the table
abbrev pub have_ranks : List ℕ → List Ranked → Bool
have_ranks ranks rs = every (λ r. nat_eq r.rank (get_or ranks r.pos.0 0)) rs
