-- The core table of a schema that a program made.
use Rattle.std.proofs.Common.{◌≡◌, ℕ, ◌<◌, ◌^◌, List, length, true, Result, Ok, Err, IfOk, sym, subst}
use Rattle.schemas.specs.Entry.{Entry}
use Rattle.schemas.specs.Schema.{is_table}
use Rattle.schemas.specs.Guarded.{edges, are_ranks}
use Rattle.positions.specs.Position.{Position}
use Rattle.js_inclusion.specs.Comparison.{core_of, both, second_root}
use Rattle.js_inclusion.proofs.MeaningLaws.{filled}

-- it has a position for the root
pub made-filled : {C E : Type 0} (positions : C → List Position) (r : Result C E) (es : List Entry) (ranks : List ℕ)
    → is_table es ≡ true → are_ranks (edges es) ranks ≡ true
    → IfOk r (λ c. positions c ≡ core_of es) → IfOk r (λ c. length (positions c) < 2 ^ 31)
    → IfOk r (λ c. 0 < length (positions c))
made-filled positions (Ok c) es ranks table are e small =
    let few : length (core_of es) < 2 ^ 31 = subst (λ T. length T < 2 ^ 31) e small in
    subst (λ T. 0 < length T) (sym e) (filled es (record { table = table; small = few }) ranks are)
made-filled positions (Err x) es ranks table are e small = tt

-- what is said of two positions of a joined table is said of the roots of both schemas
module _ (es fs : List Entry) (T : List Position) (m n : ℕ) (same : T ≡ both es fs) (first : m ≡ 0)
    (second : n ≡ second_root es) where
  pub over-both : (P : List Position → ℕ → ℕ → Type 0) → P T m n → P (both es fs) 0 (second_root es)
  over-both P h =
      subst (λ k. P (both es fs) 0 k) second
      (subst (λ k. P (both es fs) k n) first (subst (λ U. P U m n) same h))
